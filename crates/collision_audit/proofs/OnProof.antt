-- A verdict on the spellings of projected values within the limits is one on the proof: both are read back.
use Rattle.std.proofs.Common.{inl, inr, ℕ, zero, suc, List, Option, Some, None, sym, ap, subst}
use Rattle.core_terms.specs.Types.{Ty}
use Rattle.core_terms.specs.Formats.{Hash}
use Rattle.core_terms.specs.Projection.{Fits, projection, read_at}
use Rattle.core_terms.specs.Spelling.{spelling}
use Rattle.core_terms.specs.Terms.{Program}
use Rattle.core_terms.specs.Values.{Value, Values}
use Rattle.ideal_meaning.specs.Checked.{Cause, Taking, with_rest, judged, with_header, with_argument, with_state}
use Rattle.ideal_meaning.specs.Frames.{header}
use Rattle.ideal_meaning.specs.Ideal.{Outcome, Done, Trapped, Out}
use Rattle.ideal_meaning.specs.Run.{Run, Gives, Ends, Traps, IsOut, Rejects}
use Rattle.ideal_meaning.proofs.Opening.{ReadsBack}
use Rattle.ideal_meaning.proofs.Projections.{reads_back}
use Rattle.collision_audit.specs.AuditLaws.{VerdictIsOnProof}
use Rattle.collision_audit.specs.Audits.{IsOnProof, verdict_on_projections}

of_rest : (o : Outcome) (n : ℕ) → IsOnProof (with_rest o n)
of_rest o zero = tt
of_rest o (suc n) = tt

of_run : (run : Run Cause Taking Value) → IsOnProof (judged run)
of_run (Gives v k w) = of_rest (Done v) w.left
of_run (Ends (Traps trap) k w) = of_rest (Trapped trap) w.left
of_run (Ends IsOut k w) = of_rest Out w.left
of_run (Ends (Rejects c) k w) = tt

pub header_is_on_proof : (hash : Hash) (P : Program) (n : Option ℕ) (f : ℕ) (args : Values) (k : ℕ) (proof : List ℕ) → IsOnProof (with_header hash P n f args k proof)
header_is_on_proof hash P None f args k proof = tt
header_is_on_proof hash P (Some n) f args k proof = of_run _

module _ (hash : Hash) (P : Program) (t : Ty) (f : ℕ) (state argument : Value) (k : ℕ) (proof : List ℕ) (state_fits : Fits P P.state state) (argument_fits : Fits P t argument) where
  at_argument : ReadsBack hash P t argument → IsOnProof (with_argument hash P (projection hash P P.state state) (read_at P t (spelling (projection hash P t argument))) f k proof)
  at_argument (inl back) =
      subst IsOnProof (sym (ap (λ r. with_argument hash P (projection hash P P.state state) r f k proof) back.1.1)) (header_is_on_proof hash P (header P.format proof) f _ k proof)
  at_argument (inr refused) = absurd (refused.0 argument_fits)

  at_state : ReadsBack hash P t argument → ReadsBack hash P P.state state → IsOnProof (verdict_on_projections hash P t f state argument k proof)
  at_state argument_back (inl back) =
      subst IsOnProof (sym (ap (λ r. with_state hash P t r (spelling (projection hash P t argument)) f k proof) back.1.1)) (at_argument argument_back)
  at_state argument_back (inr refused) = absurd (refused.0 state_fits)

pub verdict_is_on_proof : VerdictIsOnProof
verdict_is_on_proof hash is_hash P format t f state argument state_ideal argument_ideal state_fits argument_fits k bytes =
    at_state hash P t f state argument k bytes state_fits argument_fits (reads_back hash is_hash P format t argument argument_ideal) (reads_back hash is_hash P format P.state state state_ideal)
