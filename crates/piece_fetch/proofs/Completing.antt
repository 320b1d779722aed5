-- Where whoever is asked holds every honest piece, the outcome is the true one, or there is a split.
use Rattle.std.proofs.Common.{◌≡◌, ◌⊎◌, inl, inr, ℕ, List, [], ◌∷◌, Result, Ok, Err, refl, sym, ap, ap₂, ◌∙◌, subst}
use Rattle.core_terms.specs.Formats.{Hash, IsHash, IsFormat}
use Rattle.core_terms.specs.Terms.{Program, function_at}
use Rattle.core_terms.specs.TypingRules.{IsTyped}
use Rattle.core_terms.specs.Values.{Value, IsIdeal}
use Rattle.core_terms.specs.Projection.{projection, Fits}
use Rattle.core_terms.specs.Spelling.{spelling}
use Rattle.core_terms.specs.Roles.{argument_type}
use Rattle.core_terms.specs.RoleTypes.{IsRole, role_result}
use Rattle.core_terms.specs.declared.outcome.Outcome.{Outcome}
use Rattle.core_terms.specs.declared.byte_string.ByteString.{ByteString as Spelling}
use Rattle.ideal_meaning.specs.Run.{state_of}
use Rattle.ideal_meaning.specs.Ideal as ideal
use Rattle.ideal_meaning.specs.Agreement.{AllOpenedFit}
use Rattle.ideal_meaning.specs.Checked as checked
use Rattle.ideal_meaning.specs.Fetched.{Got, IsPiece, IsLack, IsBroken, Gave, GaveLast, Answered, HoldsAll, verdict_from}
use Rattle.ideal_meaning.specs.FetchLaws.{IsStore}
use Rattle.ideal_meaning.specs.PieceForms.{IsOfWhole}
use Rattle.ideal_meaning.specs.Headline.{call_values}
use Rattle.ideal_meaning.proofs.Fetching.{fetch_companion}
use Rattle.ideal_meaning.proofs.RoleCalls.{parameters_are, result_is}
use Rattle.mode_vm.specs.StateCalls.{TakesState}
use Rattle.ideal_meaning.specs.SpelledOutcomes.{SpellsOutcome}
use Rattle.mode_vm.proofs.StateCalls.{parameters_of}
use Rattle.piece_fetch.specs.Completes.{Completes, HasSplit, IsComplete, SplitOver, true_outcome, verdict_over}
use Rattle.piece_fetch.specs.Verdicts.{Judges}
use Rattle.piece_fetch.specs.declared.verdict.FetchVerdict.{FetchVerdict}
use Rattle.piece_fetch.specs.declared.verdict.FetchVerdict.TheVariants.{Rejected, BadState, BadArgument, FetchFault, NoMemory}

-- the answers are those of the function
module _ {U : Type 0} (hash : Hash) (May : U → List ℕ → Got → U → Type 0) (Such : U → Type 0) (get : List ℕ → Got) (by : (old : U) (d : List ℕ) (a : Got) (new : U) → Such old → May old d a new → Such new × (a ≡ get d)) where
  abbrev Plain : Unit {0} → List ℕ → Got → Unit {0} → Type 0
  Plain old d a new = a ≡ get d

  gave_by : (bs : List (List ℕ)) (old new : U) → Such old → Gave hash May old bs new → Such new × Gave hash Plain tt bs tt
  gave_by [] old new such h = (subst Such h such, refl)
  gave_by (b ∷ bs) old new such h =
      let one = by old (hash b) (IsPiece b) h.0 such h.1 in
      let rest = gave_by bs h.0 new one.0 h.2 in
      (rest.0, (tt, one.1, rest.1))

  last_by : (a : Got) (c : checked.Cause) (old new : U) → Such old → GaveLast hash May old a c new → GaveLast hash Plain tt a c tt
  last_by IsLack (checked.Missing place want) old new such h = (by old want IsLack new such h).1
  last_by (IsBroken wire) (checked.Broken place want found) old new such h = (h.0, (by old want (IsBroken wire) new such h.1).1)
  last_by (IsPiece b) (checked.WrongPiece place want found) old new such h = (h.0, (by old want (IsPiece b) new such h.1).1)
  last_by (IsPiece b) (checked.BadPiece place offset) old new such h = (by old (hash b) (IsPiece b) new such h).1
  last_by a c old new such h = elim h [ ]

  pub answered_by : (answers : List Got) (v : checked.Verdict) (old new : U) → Such old → Answered hash May old answers v new → Answered hash Plain tt answers v tt
  answered_by answers (checked.Accepted o) old new such h = (h.0, h.1, (gave_by h.0 old new such h.2).1)
  answered_by answers (checked.Rejected c) old new such h =
      let gave = gave_by h.0 old h.2 such h.4 in
      (h.0, h.1, tt, h.3, gave.1, last_by h.1 c h.2 new gave.0 h.5)
  answered_by answers (checked.BadState offset) old new such h = (h.0, refl)
  answered_by answers (checked.BadArgument offset) old new such h = (h.0, refl)

module _ (hash : Hash) (is_hash : IsHash hash) (P : Program) (format : IsFormat P.format) (typed : IsTyped P) (whole : IsOfWhole hash P)
    (f : ℕ) (takes : TakesState P f) (state argument : List ℕ) (k : ℕ) (v x : Value) (ideal_state : IsIdeal P.types P.state v) (ideal_argument : IsIdeal P.types (argument_type P f) x)
    (state_spelled : state ≡ spelling (projection hash P P.state v)) (argument_spelled : argument ≡ spelling (projection hash P (argument_type P f) x))
    (state_fits : Fits P P.state v) (argument_fits : Fits P (argument_type P f) x) (fit : AllOpenedFit P (state_of (ideal.ideal P f (call_values v x) k)))
    {U : Type 0} (May : U → List ℕ → Got → U → Type 0) (Such : U → Type 0) (get : List ℕ → Got) (by : (old : U) (d : List ℕ) (a : Got) (new : U) → Such old → May old d a new → Such new × (a ≡ get d)) (store : IsStore hash get)
    (holds : HoldsAll hash P get (state_of (ideal.ideal P f (call_values v x) k))) (old new : U) (such : Such old) where
  abbrev over : List Got → checked.Verdict
  over answers = verdict_over hash May P f state argument k v x old new answers

  abbrev truth : ideal.Outcome
  truth = true_outcome hash May P f state argument k v x old new

  abbrev IsSplit : List Got → Type 0
  IsSplit answers = SplitOver hash May P f state argument k v x old new answers

  told : (answers : List Got) → Answered hash May old answers (over answers) new → (over answers ≡ checked.Accepted truth) ⊎ IsSplit answers
  told answers given =
      let t = argument_type P f in
      let kind = takes.0 in
      let answer = takes.2 in
      let lists = sym (parameters_are P f kind takes.1 answer takes.3 takes.4) ∙ parameters_of P f takes in
      let t_is : takes.1 ≡ argument_type P f = cc in
      let role : IsRole P f kind (argument_type P f) answer = subst (λ t. IsRole P f kind t answer) t_is takes.3 in
      let shown : over answers ≡ verdict_from hash P t f (spelling (projection hash P P.state v)) (spelling (projection hash P t x)) k answers =
      ap₂ (λ st ar. verdict_from hash P t f st ar k answers) state_spelled argument_spelled in
      let plainly = answered_by hash May Such get by answers (over answers) old new such given in
      let h = fetch_companion hash is_hash P format typed whole f kind t answer role takes.4 v x ideal_state ideal_argument state_fits argument_fits k fit get store holds answers
      (subst (λ w. Answered {A = Unit {0}} hash (λ old d a new. a ≡ get d) tt answers w tt) shown plainly) in
      let same : role_result kind P.state answer ≡ (function_at P f).result = sym (result_is P f kind t answer role) in
      subst (λ z. (over answers ≡ checked.Accepted (ideal.outcome_projection hash P z (ideal.outcome (ideal.ideal P f (call_values v x) k)))) ⊎ IsSplit answers) same
      (subst (λ w. (w ≡ checked.Accepted (ideal.outcome_projection hash P (role_result kind P.state answer) (ideal.outcome (ideal.ideal P f (call_values v x) k)))) ⊎ IsSplit answers) (sym shown) h)

  split_of : (answers : List Got) (w : checked.Verdict) → over answers ≡ w → Answered hash May old answers w new → ((o : ideal.Outcome) → w ≡ checked.Accepted o → ⊥) → HasSplit hash May P f state argument k v x old new
  split_of answers w is given not = by_case (told answers given')
    where
      given' : Answered hash May old answers (over answers) new
      given' = subst (λ w. Answered hash May old answers w new) (sym is) given

      by_case : (over answers ≡ checked.Accepted truth) ⊎ IsSplit answers → HasSplit hash May P f state argument k v x old new
      by_case (inl e) = absurd (not truth (sym is ∙ e))
      by_case (inr s) = (answers, given', s)

  pub completes : (result : Result (Outcome Spelling) FetchVerdict) → Judges hash May P f state argument k old new result → Completes hash May P f state argument k v x old new result
  completes (Ok outcome) h = by_case (told h.answers given)
    where
      given : Answered hash May old h.answers (over h.answers) new
      given = subst (λ w. Answered hash May old h.answers w new) (sym h.is) h.given

      by_case : (over h.answers ≡ checked.Accepted truth) ⊎ IsSplit h.answers
          → SpellsOutcome P (function_at P f).result truth outcome ⊎ HasSplit hash May P f state argument k v x old new
      by_case (inl e) =
          let both : checked.Accepted h.outcome ≡ checked.Accepted truth = sym h.is ∙ e in
          let one : h.outcome ≡ truth = cc (both) in
          inl (subst (λ o. SpellsOutcome P (function_at P f).result o outcome) one h.spelled)
      by_case (inr s) = inr (h.answers, given, s)
  completes (Err (Rejected cause)) h = split_of h.answers (checked.Rejected h.cause) h.is h.given (λ o e. absurd (cc (e)))
  completes (Err (BadState offset)) h = split_of [] (checked.BadState offset) (h.1 []) (refl, h.0) (λ o e. absurd (cc (e)))
  completes (Err (BadArgument offset)) h = split_of [] (checked.BadArgument offset) (h.1 []) (refl, h.0) (λ o e. absurd (cc (e)))
  completes (Err FetchFault) h = tt
  completes (Err NoMemory) h = tt

pub is_complete : (hash : Hash) → IsHash hash → (P : Program) → IsFormat P.format → IsTyped P → IsOfWhole hash P
    → (f : ℕ) → TakesState P f → (state argument : List ℕ) (k : ℕ) {U : Type 0} (May : U → List ℕ → Got → U → Type 0) (old new : U) (result : Result (Outcome Spelling) FetchVerdict)
    → Judges hash May P f state argument k old new result → IsComplete hash May P f state argument k old new result
is_complete hash is_hash P format typed whole f takes state argument k May old new result judges v x ideal_state ideal_argument state_spelled argument_spelled state_fits argument_fits fit get by store holds =
    completes hash is_hash P format typed whole f takes state argument k v x ideal_state ideal_argument state_spelled argument_spelled state_fits argument_fits fit
    May (λ u. get u ≡ get old) (get old) (λ now d a then such h. let one = by now d a then h in (one.1 ∙ such, one.0 ∙ ap (λ g. g d) such)) store holds old new refl result judges
