-- Lemmas of the third pass: the roles of a scope's functions.
use Rattle.std.proofs.Common.{◌≡◌, ◌≢◌, ℕ, zero, suc, ◌+◌, ◌<◌, true, false, List, [], ◌∷◌, length, map, drop, slice_get, slice_index_or, Some, ◌-◌, Result, Ok, Err, refl, sym, ap, ◌∙◌, subst, arith, add-one, drop-cons}
use Rattle.std.specs.Prelude.{IsTrue}
use Rattle.std.proofs.lemmas.Bool.{false≢true}
use Rattle.std.proofs.lemmas.List.{length-map}
use Rattle.core_terms.specs.Types.{Ty, Table}
use Rattle.core_terms.specs.declared.format.Format.{Format}
use Rattle.core_terms.specs.TypeTables.{type_at}
use Rattle.auth_syntax.specs.Syntax.{FunctionSyntax, ParameterSyntax, UpdateSyntax, place_of_type}
use Rattle.auth_syntax.specs.Trees as written
use Rattle.lexemes.specs.declared.place.Place.{Place}
use Rattle.auth_syntax.specs.declared.tree.Parameter.{Parameter}
use Rattle.declared_types.specs.Checking.{Checking, FaultAt, then_checked}
use Rattle.declared_types.specs.DeclaredPrograms.{signature_of}
use Rattle.declared_types.specs.Signatures.{Signature}
use Rattle.declared_types.specs.Findings.{Finds, TypeFault}
use Rattle.declared_types.specs.RoleHeads.{FindsRole, last_place}
use Rattle.declared_types.specs.RoleRules.{checked_role, checked_roles}
use Rattle.declared_types.specs.Scopes.{AreHeadsOf, functions_meant, signature_meant}
use Rattle.declared_types.specs.WrittenTypes.{type_meant}
use Rattle.core_terms.specs.declared.fault.Fault.TheVariants.{At, NoMemory}
use Rattle.declared_types.specs.declared.fault.TypeKind.TheVariants.{RoleShape}
use Rattle.declared_types.specs.declared.scope.Head.{Head}
use Rattle.declared_types.specs.declared.scope.Scope.{Scope}

abbrev function_in : Head → FunctionSyntax
function_in head = written.function_of head.function.now

-- one head among those that stand for their functions
head_signed : (format : Format) (names : List (List ℕ)) (types : List Ty) (heads : List Head) (i : ℕ) (head : Head)
    → map (signature_meant types) heads ≡ map (signature_of format names) (map function_in heads)
    → i < length heads → head ≡ slice_index_or heads i head → signature_meant types head ≡ signature_of format names (function_in head)
head_signed format names types [] i head same inside is = absurd (omega (arith, inside))
head_signed format names types (h ∷ heads) zero head same inside is =
    let here : signature_meant types h ≡ signature_of format names (function_in h) = cc in
    subst (λ (h : Head). signature_meant types h ≡ signature_of format names (function_in h)) (sym is) here
head_signed format names types (h ∷ heads) (suc i) head same inside is = head_signed format names types heads i head (cc) (omega (arith, inside)) is

module _ (types : List Ty) (table : Table) (state : Ty) (scope : Scope) where
  -- what is left to check of the functions, from one on
  abbrev pub StandsAt : ℕ → Type 0
  StandsAt i = (format : Format) (names : List (List ℕ)) → AreHeadsOf format names types scope
      → checked_roles format names table state (functions_meant scope) ≡ checked_roles format names table state (map function_in (drop i scope.heads.items))

  module _ (i : ℕ) (head : Head) (inside : i < length scope.heads.items) (is : head ≡ slice_index_or scope.heads.items i head) (so_far : StandsAt i)
    where
      next : drop i scope.heads.items ≡ head ∷ drop (i + 1) scope.heads.items
      next = rw add-one (drop-cons scope.heads.items i head inside ∙ ap (λ e. e ∷ drop (suc i) scope.heads.items) (sym is))

      abbrev rest_of : (format : Format) (names : List (List ℕ)) → Checking (Unit {0})
      rest_of format names = checked_roles format names table state (map function_in (drop (i + 1) scope.heads.items))

      here : (format : Format) (names : List (List ℕ)) → AreHeadsOf format names types scope
          → checked_roles format names table state (functions_meant scope) ≡ then_checked
          (checked_role format names table state (function_in head) (function_in head).kind (function_in head).parameters) (λ _. rest_of format names)
      here format names are = so_far format names are ∙ ap (λ (l : List Head). checked_roles format names table state (map function_in l)) next

      pub role_passed : FindsRole types table state (written.kind_of head.function.now.kind) head (Ok tt) → StandsAt (i + 1)
      role_passed passed format names are =
          here format names are ∙ ap (λ (found : Checking (Unit {0})). then_checked found (λ _. rest_of format names))
          (passed format names (head_signed format names types scope.heads.items i head are inside is))

      pub role_refused : (fault : TypeFault) (answer : Result (Unit {0}) TypeFault) → answer ≡ Err fault
          → FindsRole types table state (written.kind_of head.function.now.kind) head (Err fault)
          → (format : Format) (names : List (List ℕ)) → AreHeadsOf format names types scope → Finds (λ _. tt) (checked_roles format names table state (functions_meant scope)) answer
      role_refused fault answer refused found format names are =
          subst (λ (r : Result (Unit {0}) TypeFault). Finds (λ _. tt) (checked_roles format names table state (functions_meant scope)) r) (sym refused)
          (by fault (found format names (head_signed format names types scope.heads.items i head are inside is)))
        where
          by : (fault : TypeFault) → Finds {A = Unit {0}} (λ _. tt)
              (checked_role format names table state (function_in head) (function_in head).kind (function_in head).parameters) (Err fault)
              → Finds {A = Unit {0}} (λ _. tt) (checked_roles format names table state (functions_meant scope)) (Err fault)
          by NoMemory h = tt
          by (At kind at) h = here format names are ∙ ap (λ (found : Checking (Unit {0})). then_checked found (λ _. rest_of format names)) h

-- as many numbers as parameters
module _ (types : List Ty) (table : Table) (state : Ty) (head : Head) where
  as_many : (format : Format) (names : List (List ℕ)) → signature_meant types head ≡ signature_of format names (function_in head)
      → length head.parameters.items ≡ length (function_in head).parameters
  as_many format names same =
      sym (length-map head.parameters.items (type_at types)) ∙ ap (λ (s : Signature). length s.parameters) same
      ∙ length-map (function_in head).parameters (λ (p : ParameterSyntax). type_meant format names p.of_type)

  -- a role of another number of parameters
  pub update_misshaped : length head.parameters.items ≢ 2 → FindsRole types table state UpdateSyntax head
      (Err (At RoleShape head.function.now.name.at))
  update_misshaped other format names same = by (function_in head).parameters (λ two. other (as_many format names same ∙ two))
    where
      by : (ps : List ParameterSyntax) → length ps ≢ 2 → checked_role format names table state (function_in head) UpdateSyntax ps ≡ FaultAt RoleShape
          head.function.now.name.at
      by [] other = refl
      by (p ∷ []) other = refl
      by (p ∷ q ∷ []) other = absurd (other refl)
      by (p ∷ q ∷ r ∷ ps) other = refl

-- the place of the last parameter
pub last_place_is : (at : Place) (ps : List Parameter) (p : Parameter) → Some p ≡ slice_get ps (length ps - 1)
    → place_of_type (written.type_of p.of_type) ≡ last_place at (map written.parameter_of ps)
last_place_is at [] p is = absurd (cc)
last_place_is at (q ∷ []) p is = let same : p ≡ q = cc in ap (λ (q : Parameter). place_of_type (written.type_of q.of_type)) same
last_place_is at (q ∷ r ∷ ps) p is =
    let less : suc (suc (length ps)) - 1 ≡ suc (suc (length ps) - 1) = omega arith in
    last_place_is (place_of_type (written.type_of q.of_type)) (r ∷ ps) p (is ∙ ap (slice_get (q ∷ r ∷ ps)) less)
