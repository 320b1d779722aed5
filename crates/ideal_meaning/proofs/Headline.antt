-- The headline: of frames alone, and of the bytes of a proof file.
use Rattle.std.proofs.Common.{◌≡◌, inl, inr, ℕ, List, [], length, drop, Option, Some, None, refl, sym, ap, ◌∙◌, subst}
use Rattle.core_terms.specs.Types.{Ty}
use Rattle.core_terms.specs.Formats.{Hash, IsHash, IsFormat}
use Rattle.core_terms.specs.Values.{Value, IsIdeal, AreIdeal}
use Rattle.core_terms.specs.Spelling.{spelling}
use Rattle.core_terms.specs.Terms.{Kind, Program, function_at}
use Rattle.core_terms.specs.TypingRules.{IsTyped}
use Rattle.core_terms.specs.RoleTypes.{role_result, IsRole, ReadsState}
use Rattle.core_terms.specs.Projection.{projection, projections, Fits, AllFit, read_at}
use Rattle.ideal_meaning.specs.Ideal.{Outcome, ideal}
use Rattle.ideal_meaning.specs.PieceForms.{as_spelled}
use Rattle.ideal_meaning.specs.Frames.{offered, offered_pieces, header}
use Rattle.ideal_meaning.specs.Checked.{checked, before_all, Accepted, judge, with_header, with_argument, with_state, verdict}
use Rattle.ideal_meaning.specs.Agreement.{Agreement}
use Rattle.ideal_meaning.specs.Headline.{call_values, TrueOrSplit}
use Rattle.ideal_meaning.specs.HeadlineLaws.{HeadlineOfFrames, Headline}
use Rattle.ideal_meaning.proofs.FramesBack.{frames_coherent}
use Rattle.ideal_meaning.proofs.InHand.{IsHeld}
use Rattle.ideal_meaning.proofs.Opening.{ReadsBack}
use Rattle.ideal_meaning.proofs.Projections.{reads_back}
use Rattle.ideal_meaning.proofs.Calls.{agreement_of}
use Rattle.ideal_meaning.proofs.AgreeFrom.{calls_agree}
use Rattle.ideal_meaning.proofs.Judged.{judged_well}
use Rattle.ideal_meaning.proofs.RoleCalls.{parameters_are, result_is}

-- the relation, where nothing is known of authenticated values
pub agreement : Agreement
agreement hash is_hash P format typed f args k began ideals fits =
    agreement_of hash P ⊥ began (IsHeld P ⊥ (function_at P f).result) (projection hash P (function_at P f).result) _ _
    (calls_agree hash is_hash P format typed (reads_back hash is_hash P format) ⊥ began f args k ideals fits (λ l. absurd l))

pub headline_of_frames : HeadlineOfFrames
headline_of_frames hash is_hash P format typed f args k bytes n recent o ideals fits accepted =
    let began = before_all (length bytes) (offered P.format.limit bytes n recent) in
    judged_well hash P (as_spelled hash P) ⊥ began (function_at P f).result (ideal P f args k) (checked hash P f (projections hash P (function_at P f).parameters args) k began) o
    (frames_coherent P.format.limit (length bytes) n recent bytes)
    (calls_agree hash is_hash P format typed (reads_back hash is_hash P format) ⊥ began f args k ideals fits (λ l. absurd l)) accepted

-- The state and the argument are read back, or refused; then the header is a good one; the rest is the headline of frames.
module _ (hash : Hash) (is_hash : IsHash hash) (P : Program) (format : IsFormat P.format) (typed : IsTyped P)
    (f : ℕ) (kind : Kind) (t answer : Ty) (role : IsRole P f kind t answer) (reads : ReadsState kind)
    (state argument : Value) (state_ideal : IsIdeal P.types P.state state) (argument_ideal : IsIdeal P.types t argument) (k : ℕ) (bytes : List ℕ) (o : Outcome) where
  abbrev ClaimOf : ℕ → Type 0
  ClaimOf n = TrueOrSplit hash P f (role_result kind P.state answer) (call_values state argument) k (offered_pieces (offered P.format.limit (drop 6 bytes) n [])) o

  abbrev Claim : Type 0
  Claim = (n : ℕ) × (header P.format bytes ≡ Some n) × ClaimOf n

  abbrev shallow_state : Value
  shallow_state = projection hash P P.state state

  abbrev shallow_argument : Value
  shallow_argument = projection hash P t argument

  at_frames : Fits P P.state state → Fits P t argument → (n : ℕ) → judge hash P f (call_values shallow_state shallow_argument) k (drop 6 bytes) n [] ≡ Accepted o → ClaimOf n
  at_frames state_fits argument_fits n accepted =
      let shape = parameters_are P f kind t answer role reads in
      let ideals : AreIdeal P.types (function_at P f).parameters (call_values state argument) = subst (λ ts. AreIdeal P.types ts (call_values state argument)) (sym shape) (state_ideal, (argument_ideal, tt)) in
      let fits : AllFit P (function_at P f).parameters (call_values state argument) = subst (λ ts. AllFit P ts (call_values state argument)) (sym shape) (state_fits, (argument_fits, tt)) in
      let by_parameters = subst (λ ts. judge hash P f (projections hash P ts (call_values state argument)) k (drop 6 bytes) n [] ≡ Accepted o) (sym shape) accepted in
      subst (λ r. TrueOrSplit hash P f r (call_values state argument) k (offered_pieces (offered P.format.limit (drop 6 bytes) n [])) o) (result_is P f kind t answer role)
      (headline_of_frames hash is_hash P format typed f (call_values state argument) k (drop 6 bytes) n [] o ideals fits by_parameters)

  at_header : Fits P P.state state → Fits P t argument → (h : Option ℕ) → header P.format bytes ≡ h → with_header hash P h f (call_values shallow_state shallow_argument) k bytes ≡ Accepted o → Claim
  at_header state_fits argument_fits None good accepted = absurd (cc (accepted))
  at_header state_fits argument_fits (Some n) good accepted = (n, good, at_frames state_fits argument_fits n accepted)

  at_argument : Fits P P.state state → ReadsBack hash P t argument → with_argument hash P shallow_state (read_at P t (spelling shallow_argument)) f k bytes ≡ Accepted o → Claim
  at_argument state_fits (inl back) accepted =
      at_header state_fits back.0 (header P.format bytes) refl (sym (ap (λ r. with_argument hash P shallow_state r f k bytes) back.1.1) ∙ accepted)
  at_argument state_fits (inr refused) accepted = let e = sym (ap (λ r. with_argument hash P shallow_state r f k bytes) refused.1.1) ∙ accepted in absurd (cc (e))

  at_state : ReadsBack hash P P.state state → verdict hash P t f (spelling shallow_state) (spelling shallow_argument) k bytes ≡ Accepted o → Claim
  at_state (inl back) accepted =
      at_argument back.0 (reads_back hash is_hash P format t argument argument_ideal) (sym (ap (λ r. with_state hash P t r (spelling shallow_argument) f k bytes) back.1.1) ∙ accepted)
  at_state (inr refused) accepted = let e = sym (ap (λ r. with_state hash P t r (spelling shallow_argument) f k bytes) refused.1.1) ∙ accepted in absurd (cc (e))

pub headline : Headline
headline hash is_hash P format typed f kind t answer role reads state argument state_ideal argument_ideal k bytes o =
    at_state hash is_hash P format typed f kind t answer role reads state argument state_ideal argument_ideal k bytes o (reads_back hash is_hash P format P.state state state_ideal)
