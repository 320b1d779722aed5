-- The numbers of the records of nodes, as they are kept.
use Rattle.std.specs.Prelude.{ℕ, zero, suc, Option, Some, None, slice_index_or}
use Rattle.images.specs.declared.save.numbers.Numbers.{Numbers}

-- what a kept number says: 0 that there is no record, and else one more than the record's number
abbrev pub number_kept : ℕ → Option ℕ
number_kept zero = None
number_kept (suc n) = Some n

-- the number of the record of this node, where it has one
abbrev pub number_in : Numbers → ℕ → Option ℕ
number_in numbers r = number_kept (slice_index_or numbers.behind.items r 0)
