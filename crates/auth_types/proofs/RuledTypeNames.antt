-- The second pass is by the rules of what types need: names that are declared, and arrays that the program may have.
use Rattle.std.proofs.Common.{◌≡◌, ℕ, Bool, true, List, [], ◌∷◌, ◌++◌, ◌⊎◌, inl, inr, map, refl, sym, ap, ◌∙◌, subst}
use Rattle.std.specs.Bool.{Decides}
use Rattle.std.specs.List.{Contains}
use Rattle.core_terms.specs.declared.format.Format.{Format}
use Rattle.lexemes.specs.declared.place.Place.{Place}
use Rattle.auth_syntax.specs.Syntax.{TypeSyntax, UnitTypeSyntax, BoolTypeSyntax, IntTypeSyntax, TextTypeSyntax, NamedTypeSyntax, AuthTypeSyntax, PairTypeSyntax, VecTypeSyntax, ParameterSyntax, ConstructorDeclaration, DeclarationSyntax, TypeDeclaration, StateDeclaration, FunctionDeclaration, Program}
use Rattle.declared_types.specs.Checking.{Checking, Sound, FaultAt, is_among, then_checked, unless_fault}
use Rattle.declared_types.specs.WrittenTypes.{known_array, known_constructors, known_declaration, known_declarations, known_name, known_type, known_types, may_have, second_pass, type_names}
use Rattle.auth_types.specs.DeclarationRules.{AreKnown, BreaksNeed, BreaksTypeNames, IsMet, Need, NeedsArray, NeedsType, UnknownType, WritesNoVec, needs_of_constructors, needs_of_declaration, needs_of_declarations, needs_of_type, needs_of_types}
use Rattle.declared_types.specs.DeclaredPrograms.{format_of}
use Rattle.declared_types.specs.declared.fault.TypeKind.{TypeKind}
use Rattle.declared_types.specs.declared.fault.TypeKind.TheVariants.{NotVec, UnknownName}
use Rattle.auth_types.proofs.NamedParts.{among_decides}
use Rattle.auth_types.proofs.Ruled.{Ruled, fine, each_checked, each_ruled, nothing_left, ruled_like, ruled_same, ruled_unless, then_then}

module _ (format : Format) (names : List (List ℕ)) where
  -- one of the needs
  abbrev pub known_step : List Need → Need → Checking (Unit {0})
  known_step before (NeedsType name) = known_name names name.at name.name
  known_step before (NeedsArray at n) = known_array format at n

  abbrev known_needs : List Need → Checking (Unit {0})
  known_needs [] = fine
  known_needs (need ∷ rest) = then_checked (known_step [] need) (λ _. known_needs rest)

  -- what is found of a need is the same whatever stands before it
  step_anywhere : (before : List Need) (need : Need) → known_step [] need ≡ known_step before need
  step_anywhere before (NeedsType name) = refl
  step_anywhere before (NeedsArray at n) = refl

  known_each : (before rest : List Need) → known_needs rest ≡ each_checked known_step before rest
  known_each before [] = refl
  known_each before (need ∷ rest) =
      ap (λ c. then_checked c (λ _. known_needs rest)) (step_anywhere before need)
      ∙ ap (λ r. then_checked (known_step before need) (λ _. r)) (known_each (before ++ need ∷ []) rest)

  known_append : (xs ys : List Need) → known_needs (xs ++ ys) ≡ then_checked (known_needs xs) (λ _. known_needs ys)
  known_append [] ys = refl
  known_append (x ∷ xs) ys =
      ap (λ r. then_checked (known_step [] x) (λ _. r)) (known_append xs ys)
      ∙ sym (then_then (known_step [] x) (λ _. known_needs xs) (λ _. known_needs ys))

  one_need : (found : Checking (Unit {0})) → found ≡ then_checked found (λ _. fine)
  one_need (Sound a) = refl
  one_need (FaultAt kind at) = refl

  type_is : (t : TypeSyntax) → known_type format names t ≡ known_needs (needs_of_type t)
  type_is (UnitTypeSyntax at) = refl
  type_is (BoolTypeSyntax at) = refl
  type_is (IntTypeSyntax at) = refl
  type_is (TextTypeSyntax at) = refl
  type_is (NamedTypeSyntax at name) = one_need (known_name names at name)
  type_is (AuthTypeSyntax at inner) = type_is inner
  type_is (VecTypeSyntax at n item) = ap (λ r. then_checked (known_array format at n) (λ _. r)) (type_is item)
  type_is (PairTypeSyntax at first second) =
      ap (λ c. then_checked c (λ _. known_type format names second)) (type_is first) ∙ ap (λ r. then_checked (known_needs (needs_of_type first)) (λ _. r)) (type_is second)
      ∙ sym (known_append (needs_of_type first) (needs_of_type second))

  types_are : (ts : List TypeSyntax) → known_types format names ts ≡ known_needs (needs_of_types ts)
  types_are [] = refl
  types_are (t ∷ ts) =
      ap (λ c. then_checked c (λ _. known_types format names ts)) (type_is t) ∙ ap (λ r. then_checked (known_needs (needs_of_type t)) (λ _. r)) (types_are ts)
      ∙ sym (known_append (needs_of_type t) (needs_of_types ts))

  constructors_are : (cs : List ConstructorDeclaration) → known_constructors format names cs ≡ known_needs (needs_of_constructors cs)
  constructors_are [] = refl
  constructors_are (c ∷ cs) =
      ap (λ r. then_checked r (λ _. known_constructors format names cs)) (types_are c.fields) ∙ ap (λ r. then_checked (known_needs (needs_of_types c.fields)) (λ _. r)) (constructors_are cs)
      ∙ sym (known_append (needs_of_types c.fields) (needs_of_constructors cs))

  declaration_is : (d : DeclarationSyntax) → known_declaration format names d ≡ known_needs (needs_of_declaration d)
  declaration_is (TypeDeclaration at name constructors) = constructors_are constructors
  declaration_is (StateDeclaration at of_type) = type_is of_type
  declaration_is (FunctionDeclaration at function) =
      let types = map (λ (p : ParameterSyntax). p.of_type) function.parameters in
      ap (λ c. then_checked c (λ _. known_type format names function.result_type)) (types_are types) ∙ ap (λ r. then_checked (known_needs (needs_of_types types)) (λ _. r)) (type_is function.result_type)
      ∙ sym (known_append (needs_of_types types) (needs_of_type function.result_type))

  declarations_are : (ds : List DeclarationSyntax) → known_declarations format names ds ≡ known_needs (needs_of_declarations ds)
  declarations_are [] = refl
  declarations_are (d ∷ ds) =
      ap (λ c. then_checked c (λ _. known_declarations format names ds)) (declaration_is d) ∙ ap (λ r. then_checked (known_needs (needs_of_declaration d)) (λ _. r)) (declarations_are ds)
      ∙ sym (known_append (needs_of_declaration d) (needs_of_declarations ds))

  -- a need that is met where a test says so, and else is told at this place
  need_ruled : (before : List Need) (need : Need) (b : Bool) (kind : TypeKind) (at : Place) → Decides b (IsMet format names before need)
      → ((IsMet format names before need → ⊥) → BreaksNeed format names before need kind at)
      → ((k : TypeKind) (p : Place) → BreaksNeed format names before need k p → (IsMet format names before need → ⊥) × (kind ≡ k) × (at ≡ p))
      → Ruled (unless_fault b kind at fine) (λ _. IsMet format names before need) (BreaksNeed format names before need)
  need_ruled before need b kind at d breaks broken =
      ruled_like (unless_fault b kind at fine) (λ _. IsMet format names before need × Unit {0}) (λ _. IsMet format names before need)
      (λ k p. ((IsMet format names before need → ⊥) × (kind ≡ k) × (at ≡ p)) ⊎ (IsMet format names before need × ⊥)) (BreaksNeed format names before need)
      (λ _ h. h.0) (λ _ h. (h, tt)) (λ k p f. told k p f) (λ k p h. inl (broken k p h))
      (ruled_unless (IsMet format names before need) (λ _. Unit {0}) (λ k p. ⊥) b kind at fine d (λ _. nothing_left))
    where
      told : (k : TypeKind) (p : Place) → ((IsMet format names before need → ⊥) × (kind ≡ k) × (at ≡ p)) ⊎ (IsMet format names before need × ⊥)
          → BreaksNeed format names before need k p
      told k p (inl (never, same, here)) =
          subst (λ p. BreaksNeed format names before need k p) here (subst (λ k. BreaksNeed format names before need k at) same (breaks never))
      told k p (inr (met, never)) = absurd never

  known_ruled : (before : List Need) (need : Need) → Ruled (known_step before need) (λ _. IsMet format names before need) (BreaksNeed format names before need)
  known_ruled before (NeedsType name) =
      need_ruled before (NeedsType name) (is_among name.name names) UnknownName name.at (among_decides name.name names) (λ never. UnknownType never) broken
    where
      broken : (k : TypeKind) (p : Place) → BreaksNeed format names before (NeedsType name) k p → (Contains names name.name → ⊥) × (UnknownName ≡ k) × (name.at ≡ p)
      broken _ _ (UnknownType never) = (never, refl, refl)
  known_ruled before (NeedsArray at n) =
      need_ruled before (NeedsArray at n) (may_have format n) NotVec at (λ e. e, λ e. e) (λ never. WritesNoVec never) broken
    where
      broken : (k : TypeKind) (p : Place) → BreaksNeed format names before (NeedsArray at n) k p → (may_have format n ≡ true → ⊥) × (NotVec ≡ k) × (at ≡ p)
      broken _ _ (WritesNoVec never) = (never, refl, refl)

-- the second pass
pub names_ruled : (program : Program) → Ruled (second_pass program) (λ _. AreKnown program) (BreaksTypeNames program)
names_ruled program =
    let format = format_of program in
    let names = type_names program.declarations in
    let written = needs_of_declarations program.declarations in
    ruled_same (second_pass program) (each_checked (known_step format names) [] written) (λ _. AreKnown program) (BreaksTypeNames program)
    (declarations_are format names program.declarations ∙ known_each format names [] written)
    (each_ruled (IsMet format names) (BreaksNeed format names) (known_step format names) (known_ruled format names) [] written)
