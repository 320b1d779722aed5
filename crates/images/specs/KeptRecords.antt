-- The records that are loaded, by what is kept of them.
use Rattle.std.specs.Prelude.{ℕ, suc, ◌-◌, List, [], ◌∷◌, nat_lt, slice_index_or, if◌then◌else◌}
use Rattle.value_store.specs.declared.node.Ref.{Ref}
use Rattle.images.specs.declared.stored.StoredRecord.{StoredRecord}
use Rattle.images.specs.declared.type_numbers.Numbers.{Numbers}
use Rattle.images.specs.declared.type_numbers.Numbers.TheVariants.{Narrow, Wide}

-- the numbers of types, in few bytes each or in more
abbrev pub numbers_kept : Numbers → List ℕ
numbers_kept (Narrow numbers) = numbers.items
numbers_kept (Wide numbers) = numbers.items

-- the node of the record with this number: of the first ones the node with that number, and these of the others
abbrev pub node_at : (same : ℕ) (others : List Ref) → ℕ → Ref
node_at same others number = if nat_lt number same then record { 0 = number } else slice_index_or others (number - same) (record { 0 = number })

abbrev pub record_kept : ℕ → Ref → StoredRecord
record_kept ty value = record { ty = record { 0 = ty }; value = value }

-- records of types with these numbers, from a number on
abbrev pub records_from : (ℕ → Ref) → ℕ → List ℕ → List StoredRecord
records_from node number [] = []
records_from node number (ty ∷ types) = record_kept ty (node number) ∷ records_from node (suc number) types

abbrev pub records_kept : (same : ℕ) (others : List Ref) (types : List ℕ) → List StoredRecord
records_kept same others types = records_from (node_at same others) 0 types
