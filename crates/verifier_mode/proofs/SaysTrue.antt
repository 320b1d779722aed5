-- What is accepted is true, or there is a split, by the headline of frames.
use Rattle.std.proofs.Common.{◌≡◌, inl, inr, ℕ, List, [], drop, Option, Some, None, Result, Ok, Err, refl, sym, ap, ◌∙◌, subst}
use Rattle.core_terms.specs.Types.{Ty}
use Rattle.core_terms.specs.Formats.{Hash, IsHash, IsFormat}
use Rattle.core_terms.specs.Values.{Value, IsIdeal, AreIdeal}
use Rattle.core_terms.specs.Spelling.{spelling}
use Rattle.core_terms.specs.Terms.{Program, function_at}
use Rattle.core_terms.specs.TypingRules.{IsTyped}
use Rattle.core_terms.specs.Roles.{argument_type}
use Rattle.core_terms.specs.Projection.{projection, projections, Fits, AllFit}
use Rattle.core_terms.specs.Programs.{meaning}
use Rattle.core_terms.specs.declared.program.Program.{Program as Coded}
use Rattle.core_terms.specs.declared.outcome.Outcome.{Outcome}
use Rattle.core_terms.specs.declared.byte_string.ByteString.{ByteString as Spelling}
use Rattle.ideal_meaning.specs.Ideal as ideal
use Rattle.ideal_meaning.specs.Frames.{offered, offered_pieces, header}
use Rattle.ideal_meaning.specs.Checked.{Accepted, judge, on_argument, on_state, verdict, verdict_on, with_argument, with_header, with_state}
use Rattle.ideal_meaning.specs.Headline.{call_values, TrueOrSplit}
use Rattle.ideal_meaning.proofs.Headline.{headline_of_frames}
use Rattle.ideal_meaning.proofs.Opening.{ReadsBack}
use Rattle.ideal_meaning.proofs.Projections.{reads_back}
use Rattle.mode_vm.specs.StateCalls.{TakesState}
use Rattle.mode_vm.proofs.StateCalls.{is_format, is_typed, parameters_of}
use Rattle.reuse_buffer.specs.Kept.{Kept}
use Rattle.verifier_mode.specs.declared.verdict.Verdict.{Verdict}
use Rattle.verifier_mode.specs.Verdicts.{AnswersVerdict, AnswersWithRing, SaysTrue, SaysTrueOn}

-- The state and the argument are read back, or refused; the rest is the headline of frames.
module _ (hash : Hash) (is_hash : IsHash hash) (P : Program) (typed : IsTyped P) (format : IsFormat P.format) (f : ℕ) (takes : TakesState P f) (k : ℕ) (v a : Value) (o : ideal.Outcome)
    (ideal_state : IsIdeal P.types P.state v) (ideal_argument : IsIdeal P.types (argument_type P f) a) where
  abbrev t : Ty
  t = argument_type P f

  abbrev shown : Value
  shown = projection hash P P.state v

  abbrev passed : Value
  passed = projection hash P t a

  abbrev Claim : List ℕ → ℕ → List (List ℕ) → Type 0
  Claim bytes n recent = TrueOrSplit hash P f (function_at P f).result (call_values v a) k (offered_pieces (offered P.format.limit bytes n recent)) o

  at_frames : Fits P P.state v → Fits P t a → (bytes : List ℕ) (n : ℕ) (recent : List (List ℕ)) → judge hash P f (call_values shown passed) k bytes n recent ≡ Accepted o → Claim bytes n recent
  at_frames fits fits' bytes n recent accepted =
      let shape = parameters_of P f takes in
      let ideals : AreIdeal P.types (function_at P f).parameters (call_values v a) = subst (λ ts. AreIdeal P.types ts (call_values v a)) (sym shape) (ideal_state, (ideal_argument, tt)) in
      let all_fit : AllFit P (function_at P f).parameters (call_values v a) = subst (λ ts. AllFit P ts (call_values v a)) (sym shape) (fits, (fits', tt)) in
      headline_of_frames hash is_hash P format typed f (call_values v a) k bytes n recent o ideals all_fit
      (subst (λ ts. judge hash P f (projections hash P ts (call_values v a)) k bytes n recent ≡ Accepted o) (sym shape) accepted)

  module _ (bytes : List ℕ) (n : ℕ) (recent : List (List ℕ)) where
    on_frames : ReadsBack hash P P.state v → ReadsBack hash P t a → verdict_on hash P t f (spelling shown) (spelling passed) k bytes n recent ≡ Accepted o → Claim bytes n recent
    on_frames (inl s) (inl r) accepted = at_frames s.0 r.0 bytes n recent
        (sym (ap (λ x. on_argument hash P shown x f k bytes n recent) r.1.1) ∙ (sym (ap (λ x. on_state hash P t x (spelling passed) f k bytes n recent) s.1.1) ∙ accepted))
    on_frames (inl s) (inr r) accepted =
        let e = sym (ap (λ x. on_argument hash P shown x f k bytes n recent) r.1.1) ∙ (sym (ap (λ x. on_state hash P t x (spelling passed) f k bytes n recent) s.1.1) ∙ accepted) in
        absurd (cc (e))
    on_frames (inr s) r accepted = let e = sym (ap (λ x. on_state hash P t x (spelling passed) f k bytes n recent) s.1.1) ∙ accepted in absurd (cc (e))

    pub true_on : verdict_on hash P t f (spelling shown) (spelling passed) k bytes n recent ≡ Accepted o → Claim bytes n recent
    true_on = on_frames (reads_back hash is_hash P format P.state v ideal_state) (reads_back hash is_hash P format t a ideal_argument)

  module _ (bytes : List ℕ) where
    abbrev Filed : Type 0
    Filed = (n : ℕ) × (header P.format bytes ≡ Some n) × Claim (drop 6 bytes) n []

    at_header : Fits P P.state v → Fits P t a → (h : Option ℕ) → header P.format bytes ≡ h → with_header hash P h f (call_values shown passed) k bytes ≡ Accepted o → Filed
    at_header fits fits' None good accepted = absurd (cc (accepted))
    at_header fits fits' (Some n) good accepted = (n, good, at_frames fits fits' (drop 6 bytes) n [] accepted)

    on_file : ReadsBack hash P P.state v → ReadsBack hash P t a → verdict hash P t f (spelling shown) (spelling passed) k bytes ≡ Accepted o → Filed
    on_file (inl s) (inl r) accepted = at_header s.0 r.0 (header P.format bytes) refl
        (sym (ap (λ x. with_argument hash P shown x f k bytes) r.1.1) ∙ (sym (ap (λ x. with_state hash P t x (spelling passed) f k bytes) s.1.1) ∙ accepted))
    on_file (inl s) (inr r) accepted =
        let e = sym (ap (λ x. with_argument hash P shown x f k bytes) r.1.1) ∙ (sym (ap (λ x. with_state hash P t x (spelling passed) f k bytes) s.1.1) ∙ accepted) in
        absurd (cc (e))
    on_file (inr s) r accepted = let e = sym (ap (λ x. with_state hash P t x (spelling passed) f k bytes) s.1.1) ∙ accepted in absurd (cc (e))

    pub true_of_file : verdict hash P t f (spelling shown) (spelling passed) k bytes ≡ Accepted o → Filed
    true_of_file = on_file (reads_back hash is_hash P format P.state v ideal_state) (reads_back hash is_hash P format t a ideal_argument)

module _ (hash : Hash) (is_hash : IsHash hash) (p : Coded) (f : ℕ) (takes : TakesState (meaning p) f) (state argument : List ℕ) (k : ℕ) where
  abbrev ty : Ty
  ty = argument_type (meaning p) f

  pub says_true_on : (bytes : List ℕ) (n : ℕ) (recent : List (List ℕ)) (result : Result (Outcome Spelling × Kept) Verdict)
      → AnswersWithRing (meaning p) f (verdict_on hash (meaning p) ty f state argument k bytes n recent) result
      → SaysTrueOn hash (meaning p) f state argument k bytes n recent result
  says_true_on bytes n recent (Err refusal) answers = tt
  says_true_on bytes n recent (Ok r) (o, accepted, spelled) = λ v a ideal_state ideal_argument state_is argument_is.
      let P = meaning p in
      let same = sym (ap (λ state. verdict_on hash P ty f state (spelling (projection hash P ty a)) k bytes n recent) state_is)
      ∙ (sym (ap (λ argument. verdict_on hash P ty f state argument k bytes n recent) argument_is) ∙ accepted) in
      (o, spelled, true_on hash is_hash P (is_typed p) (is_format p) f takes k v a o ideal_state ideal_argument bytes n recent same)

  pub says_true : (proof : List ℕ) (result : Result (Outcome Spelling) Verdict)
      → AnswersVerdict (meaning p) f (verdict hash (meaning p) ty f state argument k proof) result
      → SaysTrue hash (meaning p) f state argument k proof result
  says_true proof (Err refusal) answers = tt
  says_true proof (Ok told) (o, accepted, spelled) = λ v a ideal_state ideal_argument state_is argument_is.
      let P = meaning p in
      let same = sym (ap (λ state. verdict hash P ty f state (spelling (projection hash P ty a)) k proof) state_is)
      ∙ (sym (ap (λ argument. verdict hash P ty f state argument k proof) argument_is) ∙ accepted) in
      (o, spelled, true_of_file hash is_hash P (is_typed p) (is_format p) f takes k v a o ideal_state ideal_argument proof same)
