-- Lemmas of a match: its subject, the named type of that, and its arms.
use Rattle.std.proofs.Common.{◌≡◌, ◌<◌, List, [], ◌++◌, length, None, Result, Ok, Err, slice_get, unwrap_or, sym, ap, ◌∙◌, subst}
use Rattle.core_terms.specs.Types.{Ty}
use Rattle.core_terms.specs.Terms.{Expression, MatchE}
use Rattle.core_terms.specs.TypeTables.{type_at}
use Rattle.core_terms.specs.declared.types.NamedId.{NamedId}
use Rattle.core_terms.specs.declared.term.Term as term
use Rattle.auth_syntax.specs.Syntax.{ArmsSyntax, ExpSyntax, MatchSyntax, place_of}
use Rattle.lexemes.specs.declared.place.Place.{Place}
use Rattle.declared_types.specs.Checking.{Checking, then_checked}
use Rattle.auth_types.specs.Bodies.{Local, Typed, TypedArms, arm_names, elaborated, elaborated_arms, matched, typed}
use Rattle.declared_types.specs.Signatures.{Scope}
use Rattle.auth_types.specs.Elaborators.{Matches, ShowsTerm, arms_of, boxed_of, typed_of}
use Rattle.declared_types.specs.OverTypes.{FindsOver, Grows, Shows}
use Rattle.core_terms.specs.declared.fault.Fault.TheVariants.{At, NoMemory}
use Rattle.auth_types.specs.declared.bodies.Typed.{Typed as TypedTerm}
use Rattle.auth_types.specs.declared.bodies.TypedArms.{TypedArms as TypedBodies}
use Rattle.declared_types.specs.Findings.{TypeFault}
use Rattle.auth_types.proofs.FindingSteps.{grown}
use Rattle.declared_types.proofs.ScopeStays.{type_stays_at}
use Rattle.core_terms.proofs.TermViews.{expression-Match}
use Rattle.declared_types.proofs.TypeNumbers.{shows_grow, shows_now}

module _ (scope : Scope) (locals : List Local) (at place : Place) (subject : ExpSyntax) (arms : ArmsSyntax) (here : place ≡ place_of subject)
    (old : List Ty) (value : TypedTerm)
    (shown : Shows old typed_of (elaborated scope locals subject) value) where
  -- what is found behind the subject
  abbrev behind_subject : Place → Typed → Checking Typed
  behind_subject place e = matched scope at place e.expression e.of_type (arm_names arms) (elaborated_arms scope locals arms None)

  match_now : elaborated scope locals (MatchSyntax at subject arms) ≡ behind_subject place (typed_of old value)
  match_now =
      ap (λ found. then_checked found (behind_subject (place_of subject))) (shows_now old typed_of (elaborated scope locals subject) value shown)
      ∙ ap (λ p. behind_subject p (typed_of old value)) (sym here)

  -- the subject is of no named type, or the arms are not those of its type
  pub match_refused : (new : List Ty) (fault : TypeFault) (r : Result TypedTerm TypeFault) → r ≡ Err fault
      → Matches scope at place (type_at old value.ty) (arm_names arms) (Err fault)
      → FindsOver new typed_of (elaborated scope locals (MatchSyntax at subject arms)) r
  match_refused new fault r is h =
      subst (λ (r : Result TypedTerm TypeFault). FindsOver new typed_of (elaborated scope locals (MatchSyntax at subject arms)) r) (sym is)
      (by fault h)
    where
      by : (fault : TypeFault) → Matches scope at place (type_at old value.ty) (arm_names arms) (Err fault)
          → FindsOver new typed_of (elaborated scope locals (MatchSyntax at subject arms)) (Err fault)
      by (At kind place) h = match_now ∙ h (boxed_of old value.term) (elaborated_arms scope locals arms None)
      by NoMemory h = tt

  module _ (named : NamedId) (tss : List (List Ty)) (matches : Matches scope at place (type_at old value.ty) (arm_names arms) (Ok named))
      (types : tss ≡ unwrap_or (slice_get scope.table named.0) []) where
    abbrev behind_arms : Expression → TypedArms → Checking Typed
    behind_arms e typed_arms = typed (MatchE named.0 e typed_arms.arms) typed_arms.of_type

    -- an arm is refused
    pub match_arms_refused : (middle new : List Ty) (fault : TypeFault) (r : Result TypedTerm TypeFault) → r ≡ Err fault
        → FindsOver middle arms_of (elaborated_arms scope locals arms None tss) (Err fault)
        → FindsOver new typed_of (elaborated scope locals (MatchSyntax at subject arms)) r
    match_arms_refused middle new fault r is h =
        subst (λ (r : Result TypedTerm TypeFault). FindsOver new typed_of (elaborated scope locals (MatchSyntax at subject arms)) r) (sym is)
        (by fault h)
      where
        by : (fault : TypeFault) → FindsOver middle arms_of (elaborated_arms scope locals arms None tss) (Err fault)
            → FindsOver new typed_of (elaborated scope locals (MatchSyntax at subject arms)) (Err fault)
        by (At kind place) h =
            match_now ∙ matches (boxed_of old value.term) (elaborated_arms scope locals arms None)
            ∙ ap (λ tss. then_checked (elaborated_arms scope locals arms None tss) (behind_arms (boxed_of old value.term))) (sym types)
            ∙ ap (λ found. then_checked found (behind_arms (boxed_of old value.term))) h
        by NoMemory h = tt

    pub match_found : (new : List Ty) (bodies : TypedBodies) → Grows old new → value.ty.0 < length old
        → Shows new arms_of (elaborated_arms scope locals arms None tss) bodies
        → ShowsTerm new (elaborated scope locals (MatchSyntax at subject arms)) (term.Match named value.term bodies.bodies) bodies.ty
    match_found new bodies grows inside arms_shown = λ more.
        let later = shows_grow old new typed_of (elaborated scope locals subject) value grows shown more in
        let e = boxed_of (new ++ more) value.term in
        let form = expression-Match (new ++ more) named value.term bodies.bodies in
        ap (λ found. then_checked found (behind_subject (place_of subject))) later
        ∙ ap (λ p. behind_subject p (typed_of (new ++ more) value)) (sym here)
        ∙ ap (λ t. matched scope at place e t (arm_names arms) (elaborated_arms scope locals arms None))
        (type_stays_at old (new ++ more) (grown old new grows more) value.ty inside)
        ∙ matches e (elaborated_arms scope locals arms None)
        ∙ ap (λ tss. then_checked (elaborated_arms scope locals arms None tss) (behind_arms e)) (sym types)
        ∙ ap (λ found. then_checked found (behind_arms e)) (arms_shown more) ∙ cc
