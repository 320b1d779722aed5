-- The first passes on a tree, one after another: the first that finds a fault ends them, and where none does their parts stand for what the
-- tree declares.
use Rattle.std.proofs.Common.{◌≡◌, ◌≢◌, ℕ, ◌<◌, false, List, [], ◌∷◌, length, map, slice_get, Some, Result, Err, refl, sym, ap, ◌∙◌, subst, arith}
use Rattle.std.proofs.lemmas.Option.{get_or_from_slice_get, slice_get_within}
use Rattle.core_terms.specs.Types.{Ty, UnitTy, Table}
use Rattle.core_terms.specs.declared.format.Format.{Format}
use Rattle.core_terms.specs.ProgramTrees.{table_of}
use Rattle.core_terms.specs.TypeTables.{type_at}
use Rattle.core_terms.specs.Programs.{type_names, types_in}
use Rattle.core_terms.specs.declared.types.TyTable.{TyTable}
use Rattle.core_terms.specs.declared.types.TyId.{TyId}
use Rattle.auth_syntax.specs.Syntax.{DeclarationSyntax, FunctionDeclaration, Program, StateDeclaration, TypeDeclaration}
use Rattle.declared_types.specs.Signatures.{Scope}
use Rattle.declared_types.specs.Checking.{Checking, Sound, FaultAt, then_checked}
use Rattle.declared_types.specs.DeclaredPrograms.{first_state, format_of, names_of, scope_of, signature_of, state_of, table_of_program, third_pass}
use Rattle.declared_types.specs.Declarations.{Declared, checked_constructors, checked_declaration, checked_declarations, checked_parameters, first_pass, most_functions, most_types, nothing_declared}
use Rattle.declared_types.specs.Findings.{Finds, TypeFault}
use Rattle.declared_types.specs.OverTypes.{Grows}
use Rattle.declared_types.specs.Passes.{TableStandsFor, names_known}
use Rattle.declared_types.specs.RoleRules.{checked_roles}
use Rattle.declared_types.specs.Scopes.{AreHeadsOf, IsWithin, functions_meant, scope_meant}
use Rattle.declared_types.specs.WrittenTypes.{functions_in, known_declarations, second_pass, states_in}
use Rattle.core_terms.specs.declared.fault.Fault.TheVariants.{At, NoMemory}
use Rattle.declared_types.specs.declared.fault.TypeKind.TheVariants.{NoState}
use Rattle.declared_types.specs.declared.fault.Limited.TheVariants.{Functions, Types}
use Rattle.declared_types.specs.declared.scope.Scope.{Scope as CodeScope}
use Rattle.declared_types.proofs.ScopeStays.{grows_length, type_stays_at}
use Rattle.declared_types.proofs.SoundLimits.{gives_new}
use Rattle.declared_types.proofs.SoundSteps.{Gives, given, gives_any, gives_more, gives_then, gives_unless}

-- a part is refused with this fault, or its memory is wanting
abbrev pub IsRefused : {B : Type 0} → Checking B → TypeFault → Type 0
IsRefused found (At kind at) = found ≡ FaultAt kind at
IsRefused found NoMemory = Unit {0}

pub finds_refused : {A B : Type 0} (view : A → B) (found : Checking B) (fault : TypeFault) (answer : Result A TypeFault) → answer ≡ Err fault
    → IsRefused found fault → Finds view found answer
finds_refused view found fault answer is refused = subst (Finds view found) (sym is) (by fault refused)
  where
    by : (fault : TypeFault) → IsRefused found fault → Finds view found (Err fault)
    by (At kind at) h = h
    by NoMemory h = tt

pub then_refused : {A B : Type 0} (found : Checking A) (go : A → Checking B) (fault : TypeFault) → IsRefused found fault
    → IsRefused (then_checked found go) fault
then_refused found go (At kind at) refused = ap (λ found. then_checked found go) refused
then_refused found go NoMemory refused = tt

module _ (program : Program) where
  -- the first two
  pub first_fault : (fault : TypeFault) → IsRefused (first_pass program) fault → IsRefused (names_known program) fault
  first_fault fault refused = then_refused (first_pass program) (λ _. second_pass program) fault refused

  pub second_known : first_pass program ≡ Sound tt → (format : Format) (names : List (List ℕ)) → format ≡ format_of program
      → names ≡ names_of program → known_declarations format names program.declarations ≡ names_known program
  second_known first format names same is =
      ap (λ f. known_declarations f names program.declarations) same ∙ ap (λ ns. known_declarations (format_of program) ns program.declarations) is ∙ ap (λ found. then_checked found (λ _. second_pass program)) (sym first)

  pub first_known : names_known program ≡ Sound tt → first_pass program ≡ Sound tt
  first_known known = by (first_pass program) known
    where
      by : (first : Checking (Unit {0})) → then_checked first (λ _. second_pass program) ≡ Sound tt → first ≡ Sound tt
      by (Sound u) h = refl
      by (FaultAt kind at) h = absurd (cc)

-- a state that was declared nowhere isn't there behind the declarations
no_state : (declared : Declared) (ds : List DeclarationSyntax) → states_in ds ≡ []
    → Gives (λ (after : Declared). after.state ≡ declared.state) (checked_declarations declared ds)
no_state declared [] none = refl
no_state declared (TypeDeclaration at name cs ∷ ds) none =
    let R : Declared → Type 0 = λ after. after.state ≡ declared.state in
    gives_then R R (checked_declaration declared (TypeDeclaration at name cs)) _
    (gives_new R declared.types most_types Types name _ (λ _ _. gives_then (λ _. Unit {0}) R (checked_constructors 0 declared.constructors cs)
    _ (gives_any (checked_constructors 0 declared.constructors cs)) (λ _ _. refl)))
    (λ next kept. gives_more (λ (after : Declared). after.state ≡ next.state) R (checked_declarations next ds) (λ after h. h ∙ kept)
    (no_state next ds none))
no_state declared (StateDeclaration at t ∷ ds) none = absurd (cc)
no_state declared (FunctionDeclaration at f ∷ ds) none =
    let R : Declared → Type 0 = λ after. after.state ≡ declared.state in
    gives_then R R (checked_declaration declared (FunctionDeclaration at f)) _
    (gives_new R declared.functions most_functions Functions f.name
    _ (λ _ _. gives_then (λ _. Unit {0}) R (checked_parameters [] f.parameters) _ (gives_any (checked_parameters [] f.parameters)) (λ _ _. refl)))
    (λ next kept. gives_more (λ (after : Declared). after.state ≡ next.state) R (checked_declarations next ds) (λ after h. h ∙ kept)
    (no_state next ds none))

-- so a text that passes the first pass has one
pub state_declared : (program : Program) → first_pass program ≡ Sound tt → states_in program.declarations ≢ []
state_declared program first = λ none.
    given (λ _. ⊥) (first_pass program) tt
    (gives_then (λ (after : Declared). after.state ≡ false) (λ _. ⊥) (checked_declarations nothing_declared program.declarations)
    _ (no_state nothing_declared program.declarations none)
    (λ after off. gives_unless (λ _. ⊥) after.state NoState program.end (Sound tt) (λ on. absurd (cc)))) first

-- the parts that the code passes on, in the words of the definition
module _ (program : Program) (types : List Ty) (scope : CodeScope) (state : TyId) (stands : TableStandsFor program types scope state) where
  pub heads_signed : AreHeadsOf (format_of program) (names_of program) types scope
  heads_signed = ap (λ (s : Scope). s.functions) stands.scope ∙ ap (map (signature_of (format_of program) (names_of program))) (sym stands.functions)

  pub table_is : table_of types scope.named.items ≡ table_of_program program
  table_is = ap (λ (s : Scope). s.table) stands.scope

  pub third_is : checked_roles (format_of program) (names_of program) (table_of types scope.named.items) (type_at types state) (functions_meant scope) ≡ third_pass
      program
  third_is =
      ap (λ (t : Table). checked_roles (format_of program) (names_of program) t (type_at types state) (functions_meant scope)) table_is
      ∙ ap (λ (t : Ty). checked_roles (format_of program) (names_of program) (table_of_program program) t (functions_meant scope)) stands.state
      ∙ ap (checked_roles (format_of program) (names_of program) (table_of_program program) (state_of program)) stands.functions

  -- the same as the code tells it, over a table and a scope that are these
  pub third_told : (told : Checking (Unit {0}) → Type 0) (table : TyTable) (lent : CodeScope) → types_in table ≡ types → lent ≡ scope
      → ((format : Format) (names : List (List ℕ)) → AreHeadsOf format names (types_in table) lent
      → told (checked_roles format names (table_of (types_in table) lent.named.items) (type_at (types_in table) state) (functions_meant lent)))
      → told (third_pass program)
  third_told told table lent same same' says =
      let Says : List Ty → CodeScope → Type 0 = λ types lent.
      (format : Format) (names : List (List ℕ)) → AreHeadsOf format names types lent → told
      (checked_roles format names (table_of types lent.named.items) (type_at types state) (functions_meant lent)) in
      subst told third_is (subst (Says types) same' (subst (λ types. Says types lent) same says) (format_of program) (names_of program) heads_signed)

-- the number of the state's type, over more types
pub state_numbered : (program : Program) (names : List (List ℕ)) (a b : List Ty) (id : TyId) (t : Ty) → names ≡ names_of program
    → t ≡ first_state (format_of program) names (states_in program.declarations) → Grows a b
    → slice_get a id.0 ≡ Some t → (type_at b id ≡ state_of program) × (id.0 < length b)
state_numbered program names a b id t same is grows there =
    let inside : id.0 < length a = slice_get_within a id.0 t there in
    let more = grows_length a b grows in (
      type_stays_at a b grows id inside ∙ get_or_from_slice_get a id.0 t UnitTy there ∙ is
          ∙ ap (λ ns. first_state (format_of program) ns (states_in program.declarations)) same,
      omega (arith, inside, more),
    )

-- what the parts that the code numbers stand for
pub scope_stands : (program : Program) (types : List Ty) (scope : CodeScope) (state : TyId) → scope_meant (format_of program) types scope ≡ scope_of program
    → functions_meant scope ≡ functions_in program.declarations
    → type_names scope.named.items ≡ names_of program → IsWithin (length types) scope → (type_at types state ≡ state_of program)
    × (state.0 < length types) → TableStandsFor program types scope state
scope_stands program types scope state meant functions names within (is, inside) = record {
  scope = meant;
  functions = functions;
  names = names;
  within = within;
  state = is;
  inside = inside;
}
