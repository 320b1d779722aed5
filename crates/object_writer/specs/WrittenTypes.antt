-- The types of an object, as the code of a program declares them.
use Rattle.std.specs.Prelude.{◌≤◌, ℕ, List, length, map, All, slice_get, unwrap_or, []}
use Rattle.core_terms.specs.Types.{Ty}
use Rattle.core_terms.specs.ProgramLimits.{most_constructors, most_fields}
use Rattle.core_terms.specs.ProgramTrees.{types_at}
use Rattle.core_terms.specs.ProgramTypes.{named_table}
use Rattle.core_terms.specs.TypeNames.{all_constructor_names}
use Rattle.core_terms.specs.declared.program_types.Types.{Types}
use Rattle.core_terms.specs.declared.term.Constructor.{Constructor}
use Rattle.core_terms.specs.declared.term.NamedType.{NamedType}
use Rattle.object_meaning.specs.Objects.{ListedConstructor, ListedType, ListedNamed}
use Rattle.object_meaning.specs.WrittenObjects.{constructors_written, number_in}

-- a named type has few constructors, of few fields each
pub record HasFewParts (cs : List (List Ty)) : Type 0 where
  pub constructors : length cs ≤ most_constructors
  pub fields : All (λ (fields : List Ty). length fields ≤ most_fields) cs

-- with the listed types, and the types by number
module _ (listing types : List Ty) where
  abbrev pub constructor_written : Constructor → ListedConstructor
  constructor_written c = record { name = c.name; fields = map (number_in listing) (types_at types c.fields.items) }

  abbrev pub constructor_list : List Constructor → List ListedConstructor
  constructor_list cs = constructors_written listing (map (λ (c : Constructor). types_at types c.fields.items) cs) (map (λ (c : Constructor). c.name) cs)

  abbrev pub named_written : NamedType → ListedType
  named_written declared = ListedNamed (constructor_list declared.constructors.items)

-- the named type with a number
abbrev pub named_at : List Ty → Types → ℕ → ListedType
named_at listing types n =
    ListedNamed (constructors_written listing (unwrap_or (slice_get (named_table types) n) []) (unwrap_or (slice_get (all_constructor_names types.named.items) n) []))
