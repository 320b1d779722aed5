-- What the numbers of types say: which types of a program are listed, in which order.
use Rattle.std.specs.Prelude.{◌≡◌, ◌<◌, ◌≤◌, ℕ, true, List, ◌++◌, length, None, slice_index_or, Result, Ok, Err, ⊤}
use Rattle.std.specs.Option.{is_some}
use Rattle.core_terms.specs.Types.{Ty, UnitTy, PairTy, AuthTy}
use Rattle.core_terms.specs.ProgramTrees.{types_at}
use Rattle.core_terms.specs.ProgramTypes.{named_table, types_by_number}
use Rattle.core_terms.specs.declared.program_types.Types.{Types}
use Rattle.object_meaning.specs.Objects.{most_listed_types}
use Rattle.object_meaning.specs.WrittenObjects.{named_from, place_of}
use Rattle.object_writer.specs.declared.fault.WriteFault.{WriteFault}
use Rattle.object_writer.specs.declared.fault.WriteFault.TheVariants.{TooLong, NoMemory}
use Rattle.object_writer.specs.declared.numbering.Numbering.{Numbering}

-- the type is among these
abbrev pub IsListed : List Ty → Ty → Type 0
IsListed types t = is_some (place_of types t) ≡ true

-- so are its parts
abbrev pub HasListedParts : List Ty → Ty → Type 0
HasListedParts types (PairTy a b) = IsListed types a × IsListed types b
HasListedParts types (AuthTy t) = IsListed types t
HasListedParts types t = Unit {0}

-- the listed types, by number: the named ones, and the others in their order
abbrev pub listed : Types → Numbering → List Ty
listed types n = named_from 0 (named_table types) ++ types_at (types_by_number types) n.order.items

-- Each number is the place of its type, and there is one for each type of the table and for `unit`, which may be none of these; there are no more
-- listed types than an object may have.
pub record IsNumbering (types : Types) (n : Numbering) : Type 0 where
  pub numbers : (i : ℕ) → i < length n.numbers.items → slice_index_or n.numbers.items i None ≡ place_of (listed types n) (slice_index_or (types_by_number types) i UnitTy)
  pub covers : length (types_by_number types) ≤ length n.numbers.items
  pub unit_within : n.unit.0 < length n.numbers.items
  pub unit : slice_index_or (types_by_number types) n.unit.0 UnitTy ≡ UnitTy
  pub one_number : (i j : ℕ) → i < length n.numbers.items → j < length n.numbers.items
      → slice_index_or (types_by_number types) i UnitTy ≡ slice_index_or (types_by_number types) j UnitTy → i ≡ j
  pub parts : (t : Ty) → IsListed (listed types n) t → HasListedParts (listed types n) t
  pub few : length (listed types n) ≤ most_listed_types

-- these types are listed
pub record Numbers (types : Types) (target : List Ty) (n : Numbering) : Type 0 where
  pub right : IsNumbering types n
  pub all : listed types n ≡ target

-- Why these types couldn't be listed: they would be more than an object may have. Want of memory says nothing of them.
abbrev pub AreTooMany : List Ty → WriteFault → Type 0
AreTooMany target TooLong = most_listed_types < length target
AreTooMany target NoMemory = ⊤

-- these types are listed, or the fault says why not
abbrev pub Lists : {R : Type 0} → Types → List Ty → Numbering → Result R WriteFault → Type 0
Lists types target n (Ok r) = Numbers types target n
Lists types target n (Err fault) = AreTooMany target fault

abbrev pub NumbersAll : Types → List Ty → Result Numbering WriteFault → Type 0
NumbersAll types target (Ok n) = Numbers types target n
NumbersAll types target (Err fault) = AreTooMany target fault
