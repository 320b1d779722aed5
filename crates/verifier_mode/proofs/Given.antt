-- Answers that are handed on, and the verdict on a file behind its header.
use Rattle.std.proofs.Common.{◌≡◌, ℕ, List, [], drop, Option, Result, Ok, Err, IsErrAnd, refl, sym, ap, ◌∙◌, subst}
use Rattle.core_terms.specs.Formats.{Hash}
use Rattle.core_terms.specs.Terms.{Program}
use Rattle.core_terms.specs.Types.{Ty}
use Rattle.core_terms.specs.Values.{Values}
use Rattle.ideal_meaning.specs.Checked.{judge, with_header}
use Rattle.ideal_meaning.specs.Frames.{header}
use Rattle.proof_stream.specs.declared.frame.HeadEnd.{HeadEnd}
use Rattle.proof_stream.specs.declared.frame.HeadEnd.TheVariants as head_end
use Rattle.proof_stream.specs.TakenFrames.{TakesHeader}
use Rattle.reuse_buffer.specs.Kept.{Kept, kept}
use Rattle.verifier_mode.specs.Verdicts.{Tells, verdict_at}

-- a result that is the error that came
pub gives_with : {T E : Type 0} (Q : Result T E → Type 0) (e : E) (result : Result T E) → IsErrAnd result (λ x. x ≡ e) → Q (Err e) → Q result
gives_with Q e (Ok v) same q = absurd same
gives_with Q e (Err x) same q = subst (λ x. Q (Err x)) (sym same) q

module _ (hash : Hash) (P : Program) (f : ℕ) (vs : Values) (k : ℕ) (bytes : List ℕ) (left : Option (List ℕ)) where
  -- no header
  pub no_header : (t : Ty) (e : HeadEnd) → TakesHeader P.format.magic P.format.most_kept bytes left (Err e) → Tells P t (with_header hash P (header P.format bytes) f vs k bytes) (Err (verdict_at e))
  no_header t head_end.Header takes = ap (λ h. with_header hash P h f vs k bytes) (takes.0 P.format refl refl)
  no_header t head_end.ReadFault takes = tt

  -- behind a header
  pub behind_header : (n : ℕ) (ring : Kept) → TakesHeader P.format.magic P.format.most_kept bytes left (Ok n) → ring ≡ kept n []
      → with_header hash P (header P.format bytes) f vs k bytes ≡ judge hash P f vs k (drop 6 bytes) ring.size []
  behind_header n ring takes is =
      ap (λ h. with_header hash P h f vs k bytes) (takes.0 P.format refl refl) ∙ ap (λ m. judge hash P f vs k (drop 6 bytes) m []) (sym (ap (λ (r : Kept). r.size) is))
