-- The constructors of a named type: each is found by its name.
use Rattle.std.proofs.Common.{◌≡◌, ℕ, ◌≤◌, true, List, [], length, map, Option, Some, None, slice_get, option_map, unwrap_or, bytes_eq, nat_le, sym, ap, ◌∙◌, subst, leb-true}
use Rattle.std.specs.List.{position}
use Rattle.std.specs.Option.{option_and_then}
use Rattle.std.proofs.lemmas.List.{length-map}
use Rattle.std.proofs.lemmas.List.Sums.{AllPass-from_list_all}
use Rattle.std.proofs.lemmas.Option.{slice_get-map, slice_get_within, get_or_from_slice_get}
use Rattle.core_terms.specs.Types.{Ty, fields_at, has_tags}
use Rattle.core_terms.specs.Programs.{constructor_names}
use Rattle.core_terms.specs.ProgramTrees.{table_of, types_at}
use Rattle.core_terms.specs.declared.term.Constructor.{Constructor}
use Rattle.core_terms.specs.declared.term.NamedType.{NamedType}
use Rattle.core_terms.proofs.Places.{place_of_map}

-- the field types of each constructor of a named type, by tag
abbrev fields_of : List Ty → NamedType → List (List Ty)
fields_of types declared = map (λ (constructor : Constructor). types_at types constructor.fields.items) declared.constructors.items

abbrev names_of : Option NamedType → List (List ℕ)
names_of found = unwrap_or (option_map (λ (declared : NamedType). map (λ (constructor : Constructor). constructor.name) declared.constructors.items) found) []

-- the place of a name among the constructors of a named type that is there
pub constructor_place : (named : List NamedType) (number : ℕ) (declared : NamedType) (name : List ℕ) → slice_get named number ≡ Some declared
    → position (λ (constructor : Constructor). bytes_eq constructor.name name) declared.constructors.items ≡ position (λ other. bytes_eq other name) (constructor_names named number)
constructor_place named number declared name there =
    place_of_map (λ (constructor : Constructor). constructor.name) (λ other. bytes_eq other name) declared.constructors.items
    ∙ ap (λ found. position (λ other. bytes_eq other name) (names_of found)) (sym there)

-- and of one that isn't
pub no_constructor : (named : List NamedType) (number : ℕ) (name : List ℕ) → slice_get named number ≡ None
    → None ≡ position (λ other. bytes_eq other name) (constructor_names named number)
no_constructor named number name none = ap (λ found. position (λ other. bytes_eq other name) (names_of found)) (sym none)

declared_fields : (types : List Ty) (named : List NamedType) (number : ℕ) (declared : NamedType) → slice_get named number ≡ Some declared
    → slice_get (table_of types named) number ≡ Some (fields_of types declared)
declared_fields types named number declared there = slice_get-map (fields_of types) named number ∙ ap (option_map (fields_of types)) there

-- the types of its fields
pub constructor_fields : (types : List Ty) (named : List NamedType) (number tag : ℕ) (declared : NamedType) (constructor : Constructor) → slice_get named number ≡ Some declared
    → slice_get declared.constructors.items tag ≡ Some constructor → fields_at (table_of types named) number tag ≡ Some (types_at types constructor.fields.items)
constructor_fields types named number tag declared constructor there at =
    ap (option_and_then (λ constructors. slice_get constructors tag)) (declared_fields types named number declared there)
    ∙ slice_get-map (λ (constructor : Constructor). types_at types constructor.fields.items) declared.constructors.items tag
    ∙ ap (option_map (λ (constructor : Constructor). types_at types constructor.fields.items)) at

-- its tag is one of a byte
pub tag_fits : (types : List Ty) (named : List NamedType) (number : ℕ) (declared : NamedType) → slice_get named number ≡ Some declared → has_tags (table_of types named) ≡ true
    → length declared.constructors.items ≤ 255
tag_fits types named number declared there tags =
    let at = declared_fields types named number declared there in
    let fits : nat_le (length (fields_of types declared)) 255 ≡ true =
    ap (λ (constructors : List (List Ty)). nat_le (length constructors) 255) (sym (get_or_from_slice_get (table_of types named) number (fields_of types declared) [] at))
    ∙ AllPass-from_list_all (λ (constructors : List (List Ty)). nat_le (length constructors) 255) (table_of types named) tags number [] (slice_get_within (table_of types named) number (fields_of types declared) at) in
    subst (λ (n : ℕ). n ≤ 255) (length-map declared.constructors.items _) (leb-true _ _ fits)
