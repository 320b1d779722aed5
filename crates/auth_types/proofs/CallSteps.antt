-- Lemmas of what calls, constructors and matches name.
use Rattle.std.proofs.Common.{◌≡◌, ◌≢◌, ℕ, suc, Bool, true, false, List, [], ◌∷◌, length, map, bytes_eq, Option, Some, None, Ok, Err, slice_get, unwrap_or, if◌then◌else◌, refl, sym, ap, ◌∙◌}
use Rattle.std.proofs.lemmas.Bool.{eq-eqb, ne_eqb}
use Rattle.std.proofs.lemmas.List.{length-map}
use Rattle.core_terms.specs.Types.{Ty, NamedTy, Table, fields_at}
use Rattle.core_terms.specs.Terms.{Expression, Expressions, CallE, ConE, MatchE}
use Rattle.core_terms.specs.TypeTables.{type_at}
use Rattle.core_terms.specs.declared.program.FunctionId.{FunctionId}
use Rattle.core_terms.specs.declared.types.NamedId.{NamedId}
use Rattle.core_terms.specs.ProgramTrees.{types_at}
use Rattle.core_terms.specs.declared.types.TyId.{TyId}
use Rattle.core_terms.specs.declared.term.Constructor.{Constructor}
use Rattle.auth_syntax.specs.Trees.{ArmSyntax, arm_of, arms_in_a_row}
use Rattle.auth_syntax.specs.declared.tree.Arm.{Arm}
use Rattle.lexemes.specs.declared.place.Place.{Place}
use Rattle.declared_types.specs.Checking.{Checking, then_checked, unless_fault}
use Rattle.auth_types.specs.Bodies.{Typed, TypedArms, arm_names, called, constructed, matched, same_names, typed}
use Rattle.declared_types.specs.Signatures.{Numbered, Scope, Signature}
use Rattle.declared_types.specs.Scopes.{signature_meant}
use Rattle.declared_types.specs.declared.scope.Head.{Head}
use Rattle.auth_types.specs.Elaborators.{Calls, Constructs, Matches}
use Rattle.declared_types.specs.declared.fault.TypeKind.TheVariants.{ArmsWrong, UnknownName, WrongCount}
use Rattle.core_terms.specs.declared.fault.Fault.TheVariants.{At}
use Rattle.declared_types.specs.declared.scope.ConstructorId.{ConstructorId}

module _ (at : Place) (count : ℕ) (found : Option (Numbered Signature)) where
  abbrev call_of : Numbered Signature → (List Ty → Checking Expressions) → Bool → Checking Typed
  call_of f arguments b = unless_fault b WrongCount at (then_checked (arguments f.value.parameters) (λ es. typed (CallE f.number es) f.value.result))

  pub calls_unknown : (meant : FunctionId → Numbered Signature) → found ≡ None → Calls at count found meant (Err (At UnknownName at))
  calls_unknown meant is = λ arguments. ap (λ f. called at count f arguments) is

  module _ (meant : FunctionId → Numbered Signature) (id : FunctionId) (is : found ≡ Some (meant id)) where
    pub calls_miscounted : count ≢ length (meant id).value.parameters → Calls at count found meant (Err (At WrongCount at))
    calls_miscounted other = λ arguments. ap (λ f. called at count f arguments) is
        ∙ ap (call_of (meant id) arguments) (ne_eqb count (length (meant id).value.parameters) other)

    pub calls_found : (meant id).number ≡ id.0 → count ≡ length (meant id).value.parameters → Calls at count found meant (Ok id)
    calls_found number same = λ arguments.
        ap (λ f. called at count f arguments) is
        ∙ ap (call_of (meant id) arguments) (eq-eqb count (length (meant id).value.parameters) same)
        ∙ ap (λ n. then_checked (arguments (meant id).value.parameters) (λ es. typed (CallE n es) (meant id).value.result)) number

module _ (at : Place) (count : ℕ) (table : Table) (found : Option (Numbered ℕ)) where
  abbrev constructor_of : Numbered ℕ → (List Ty → Checking Expressions) → Bool → Checking Typed
  constructor_of c fields b = unless_fault b WrongCount at (then_checked (fields (unwrap_or (fields_at table c.number c.value) []))
      (λ es. typed (ConE c.number c.value es) (NamedTy c.number)))

  pub constructs_unknown : found ≡ None → Constructs at count table found (Err (At UnknownName at))
  constructs_unknown is = λ fields. ap (λ c. constructed at count table c fields) is

  module _ (id : ConstructorId) (is : found ≡ Some (record { number = id.named.0; value = id.tag.0 })) where
    abbrev types_here : List Ty
    types_here = unwrap_or (fields_at table id.named.0 id.tag.0) []

    pub constructs_miscounted : count ≢ length types_here → Constructs at count table found (Err (At WrongCount at))
    constructs_miscounted other = λ fields.
        ap (λ c. constructed at count table c fields) is ∙ ap (constructor_of (record { number = id.named.0; value = id.tag.0 }) fields)
        (ne_eqb count (length types_here) other)

    pub constructs_found : count ≡ length types_here → Constructs at count table found (Ok id)
    constructs_found same = λ fields.
        ap (λ c. constructed at count table c fields) is ∙ ap (constructor_of (record { number = id.named.0; value = id.tag.0 }) fields)
        (eq-eqb count (length types_here) same)

module _ (scope : Scope) (at subject : Place) (t : Ty) (names : List (List ℕ)) where
  module _ (named : NamedId) (is : t ≡ NamedTy named.0) where
    abbrev match_of : Expression → (List (List Ty) → Checking TypedArms) → Bool → Checking Typed
    match_of e arms b = unless_fault b ArmsWrong at (then_checked (arms (unwrap_or (slice_get scope.table named.0) []))
        (λ typed_arms. typed (MatchE named.0 e typed_arms.arms) typed_arms.of_type))

    pub matches_wrong : same_names names (unwrap_or (slice_get scope.constructors named.0) []) ≡ false
        → Matches scope at subject t names (Err (At ArmsWrong at))
    matches_wrong other = λ e arms. ap (λ t. matched scope at subject e t names arms) is ∙ ap (match_of e arms) other

    pub matches_found : same_names names (unwrap_or (slice_get scope.constructors named.0) []) ≡ true → Matches scope at subject t names (Ok named)
    matches_found same = λ e arms. ap (λ t. matched scope at subject e t names arms) is ∙ ap (match_of e arms) same

-- the names of arms, and lists of names that are the same
pub names_of_arms : (arms : List ArmSyntax) → arm_names (arms_in_a_row arms) ≡ map (λ (a : ArmSyntax). a.constructor.name) arms
names_of_arms [] = refl
names_of_arms (arm ∷ arms) = ap (λ ns. arm.constructor.name ∷ ns) (names_of_arms arms)

pub same_length : (names others : List (List ℕ)) → same_names names others ≡ true → length names ≡ length others
same_length [] [] h = refl
same_length [] (b ∷ others) h = absurd (cc)
same_length (a ∷ names) [] h = absurd (cc)
same_length (a ∷ names) (b ∷ others) h = ap suc (same_length names others (by (bytes_eq a b) h))
  where
    by : (x : Bool) → (if x then same_names names others else false) ≡ true → same_names names others ≡ true
    by true h = h
    by false h = absurd (cc)

pub other_length : (names others : List (List ℕ)) → length names ≢ length others → same_names names others ≡ false
other_length names others other = by (same_names names others) refl
  where
    by : (x : Bool) → same_names names others ≡ x → x ≡ false
    by true is = absurd (other (same_length names others is))
    by false is = refl

module _ (arms : List Arm) (constructors : List Constructor) where
  abbrev names_there : List (List ℕ)
  names_there = map (λ (c : Constructor). c.name) constructors

  lengths : (length (arm_names (arms_in_a_row (map arm_of arms))) ≡ length arms) × (length names_there ≡ length constructors)
  lengths = (
    ap length (names_of_arms (map arm_of arms)) ∙ length-map (map arm_of arms) (λ (a : ArmSyntax). a.constructor.name) ∙ length-map arms arm_of,
    length-map constructors (λ (c : Constructor). c.name),
  )

  pub arms_other_count : length arms ≢ length constructors → same_names (arm_names (arms_in_a_row (map arm_of arms))) names_there ≡ false
  arms_other_count other = other_length (arm_names (arms_in_a_row (map arm_of arms))) names_there (λ same. other (sym lengths.0 ∙ same ∙ lengths.1))

  pub arms_same_count : same_names (arm_names (arms_in_a_row (map arm_of arms))) names_there ≡ true → length arms ≡ length constructors
  arms_same_count same = sym lengths.0 ∙ same_length (arm_names (arms_in_a_row (map arm_of arms))) names_there same ∙ lengths.1

-- how many parameters a function has, and how many types stand for numbers
pub parameters_count : (types : List Ty) (v : Signature) (head : Head) → v ≡ signature_meant types head
    → length v.parameters ≡ length head.parameters.items
parameters_count types v head is = ap (λ (v : Signature). length v.parameters) is ∙ length-map head.parameters.items (type_at types)

pub types_count : (types : List Ty) (ids : List TyId) (ts : List Ty) → types_at types ids ≡ ts → length ids ≡ length ts
types_count types ids ts is = sym (length-map ids (type_at types)) ∙ ap length is

pub constructors_count : (types : List Ty) (cs : List Constructor) (tss : List (List Ty))
    → map (λ (c : Constructor). types_at types c.fields.items) cs ≡ tss → length cs ≡ length tss
constructors_count types cs tss is = sym (length-map cs (λ (c : Constructor). types_at types c.fields.items)) ∙ ap length is

-- what is not there
pub none_there : {A : Type 0} (o : Option A) → ((x : A) → o ≡ Some x → ⊥) → o ≡ None
none_there None other = refl
none_there (Some x) other = absurd (other x refl)
