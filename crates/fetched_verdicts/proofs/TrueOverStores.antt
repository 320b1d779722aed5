-- What is accepted over a store is true, or there is a split: by the law over whatever answers, at those that the store gives.
use Rattle.std.proofs.Common.{◌≡◌, inl, inr, ℕ, List, [], ◌∷◌, Option, Some, None, sym, ap, ◌∙◌, subst}
use Rattle.core_terms.specs.Formats.{Hash, IsHash, IsFormat}
use Rattle.core_terms.specs.Projection.{projection, read_at}
use Rattle.core_terms.specs.Reading.{Good}
use Rattle.core_terms.specs.RoleTypes.{IsRole, ReadsState, role_result}
use Rattle.core_terms.specs.Spelling.{spelling}
use Rattle.core_terms.specs.Instructions.{Instruction}
use Rattle.core_terms.specs.Bodies.{code_at}
use Rattle.core_terms.specs.Terms.{Kind, Program, body_of, function_at}
use Rattle.core_terms.specs.TypingRules.{IsTyped, IsTypedAs}
use Rattle.core_terms.specs.Types.{Ty}
use Rattle.core_terms.specs.Values.{Value, IsIdeal}
use Rattle.ideal_meaning.specs.Run.{Gives, Ends, Traps, IsOut, Rejects, state_of}
use Rattle.ideal_meaning.specs.Ideal.{Outcome}
use Rattle.ideal_meaning.specs.Checked.{Cause, Taking, Accepted, checked_mode_as}
use Rattle.ideal_meaning.specs.CodeTypes.{IsOf, AreOf, Goes}
use Rattle.ideal_meaning.specs.ModeKinds.{digest_kind}
use Rattle.ideal_meaning.specs.Fetched.{Got, TrueFromOrSplit, answered, asking, ended, fetched, from_argument, from_state, verdict_from}
use Rattle.ideal_meaning.specs.Frames.{offered_pieces}
use Rattle.ideal_meaning.specs.Headline.{call_values}
use Rattle.ideal_meaning.specs.PieceForms.{as_whole, IsOfWhole}
use Rattle.ideal_meaning.proofs.Coded.{coded_found}
use Rattle.ideal_meaning.proofs.Fetching.{fetch_companion, fetch_headline}
use Rattle.ideal_meaning.proofs.ModeLaws.{fetched_laws, projections_shallow, shallows_are}
use Rattle.ideal_meaning.proofs.Never.{never}
use Rattle.ideal_meaning.proofs.Opening.{ReadsBack}
use Rattle.ideal_meaning.proofs.Projections.{reads_back}
use Rattle.ideal_meaning.proofs.RoleCalls.{parameters_are}
use Rattle.fetched_verdicts.specs.VerdictLaws.{AcceptsTheTruth, TellsTheTruth}
use Rattle.fetched_verdicts.specs.Verdicts.{AreAnswersOf, verdict_over}
use Rattle.fetched_verdicts.proofs.ReplayedAnswers.{IsGiven, IsWhole, IsWholeAs, TakesAll, over_given}
use Rattle.fetched_verdicts.proofs.SameRuns.{RunOf}

-- where a run that is accepted takes all answers, none of the pieces is left
none_left : (hash : Hash) (P : Program) (get : List ℕ → Got) (Whole : Type 0) → Whole → (o : Outcome) (run : RunOf Value) → ended run ≡ Accepted o → TakesAll hash P get Whole run
    → offered_pieces (state_of run).more ≡ []
none_left hash P get Whole whole o (Gives v k w) is all = ap offered_pieces all
none_left hash P get Whole whole o (Ends (Traps trap) k w) is all = ap offered_pieces all
none_left hash P get Whole whole o (Ends IsOut k w) is all = ap offered_pieces (all whole)
none_left hash P get Whole whole o (Ends (Rejects c) k w) is all = absurd (cc)

module _ (hash : Hash) (is_hash : IsHash hash) (P : Program) (format : IsFormat P.format) (typed : IsTyped P) (whole : IsOfWhole hash P)
    (f : ℕ) (kind : Kind) (t answer : Ty) (role : IsRole P f kind t answer) (reads : ReadsState kind)
    (state argument : Value) (state_ideal : IsIdeal P.types P.state state) (argument_ideal : IsIdeal P.types t argument) (k : ℕ) (get : List ℕ → Got) (o : Outcome) where
  abbrev s : Value
  s = projection hash P P.state state

  abbrev a : Value
  a = projection hash P t argument

  abbrev run_with : List Got → RunOf Value
  run_with answers = fetched hash P f (call_values s a) k (asking answers)

  abbrev Says : List Got → List (List ℕ) → Type 0
  Says answers more = TrueFromOrSplit hash P f (role_result kind P.state answer) (call_values state argument) k (offered_pieces (answered answers)) more o

  -- the code of a typed program is never stuck
  of_types : (ts : List Ty) → ts ≡ (function_at P f).parameters → AreOf P.types digest_kind ts (call_values s a)
  of_types ts same =
      subst (λ ts. AreOf P.types digest_kind ts (call_values s a)) (sym (same ∙ parameters_are P f kind t answer role reads))
      (shallows_are P.types (P.state ∷ t ∷ []) (call_values s a) (projections_shallow hash is_hash P format (P.state ∷ t ∷ []) (call_values state argument) (state_ideal, (argument_ideal, tt))))

  whole_as : (o : Option (List (List Instruction))) → IsTypedAs P o → IsWholeAs hash P get o f (call_values s a) k
  whole_as None h = tt
  whole_as (Some codes) h = λ w is.
      let g = code_at (body_of P codes) f in
      subst (Goes (IsOf P.types digest_kind g.result)) is
      (never Cause Taking (body_of P codes) (checked_mode_as hash P (as_whole hash P)) digest_kind (fetched_laws hash P) h.accepted k f (call_values s a) k w
      (of_types g.parameters (coded_found P codes h.each f).0))

  module _ (accepted : verdict_over hash P get t f (spelling s) (spelling a) k ≡ Accepted o) where
    g : IsGiven hash P get t f (spelling s) (spelling a) k
    g = over_given hash P get t f (spelling s) (spelling a) k

    from : verdict_from hash P t f (spelling s) (spelling a) k g.answers ≡ Accepted o
    from = g.same ∙ accepted

    -- the state and the argument were read back, and no answer is left
    by_argument : (rest : List ℕ) (end : ℕ) → read_at P P.state (spelling s) ≡ Good s rest end → from_argument hash P s (read_at P t (spelling a)) f k g.answers ≡ Accepted o
        → ReadsBack hash P t argument → offered_pieces (state_of (run_with g.answers)).more ≡ []
    by_argument rest end state_is is (inl back) =
        none_left hash P get (IsWhole hash P get f (call_values s a) k) (whole_as P.code typed) o (run_with g.answers) (sym (ap (λ r. from_argument hash P s r f k g.answers) back.1.1) ∙ is) (g.all s a rest _ end _ state_is back.1.1)
    by_argument rest end state_is is (inr refused) = let e = sym (ap (λ r. from_argument hash P s r f k g.answers) refused.1.1) ∙ is in absurd (cc (e))

    by_state : ReadsBack hash P P.state state → offered_pieces (state_of (run_with g.answers)).more ≡ []
    by_state (inl back) =
        by_argument _ _ back.1.1 (sym (ap (λ r. from_state hash P t r (spelling a) f k g.answers) back.1.1) ∙ from) (reads_back hash is_hash P format t argument argument_ideal)
    by_state (inr refused) = let e = sym (ap (λ r. from_state hash P t r (spelling a) f k g.answers) refused.1.1) ∙ from in absurd (cc (e))

    pub true_over : (answers : List Got) × AreAnswersOf hash get answers (Accepted o) × Says answers []
    true_over = (
      g.answers,
      subst (λ v. AreAnswersOf hash get g.answers v) accepted g.given,
      subst (Says g.answers) (by_state (reads_back hash is_hash P format P.state state state_ideal))
          (fetch_headline hash is_hash P format typed whole f kind t answer role reads state argument state_ideal argument_ideal k g.answers o from),
    )

pub tells_the_truth : TellsTheTruth
tells_the_truth hash is_hash P format typed whole f kind t answer role reads state argument state_ideal argument_ideal k get o =
    true_over hash is_hash P format typed whole f kind t answer role reads state argument state_ideal argument_ideal k get o

-- and over a store with all honest pieces what is true is accepted, or there is a split
pub complete_over : AcceptsTheTruth
complete_over hash is_hash P format typed whole f kind t answer role reads state argument state_ideal argument_ideal state_fits argument_fits k fit get store holds =
    let s = spelling (projection hash P P.state state) in
    let a = spelling (projection hash P t argument) in
    let g = over_given hash P get t f s a k in
    elim (fetch_companion hash is_hash P format typed whole f kind t answer role reads state argument state_ideal argument_ideal state_fits argument_fits k fit get store holds g.answers
    (subst (λ v. AreAnswersOf hash get g.answers v) (sym g.same) g.given)) [
      | inl accepted ↦ inl (sym g.same ∙ accepted)
      | inr split ↦ inr (g.answers, g.given, split)
    ]
