-- How often a pair or an array is written in a type: no more often than in all types of its table.
use Rattle.std.proofs.Common.{ℕ, zero, suc, ◌+◌, ◌*◌, ◌<◌, ◌≤◌, List, [], ◌∷◌, slice_index_or, arith}
use Rattle.std.proofs.Math.Nat.{mul-le-mul_right}
use Rattle.core_terms.specs.Programs.{types_of}
use Rattle.core_terms.specs.Types.{Ty, UnitTy, PairTy, VecTy}
use Rattle.core_terms.specs.declared.program.Program.{Program}

abbrev pub composites : Ty → ℕ
composites (PairTy a b) = 1 + composites a + composites b
composites (VecTy n t) = 1 + composites t
composites t = 0

abbrev pub all_composites : List Ty → ℕ
all_composites [] = 0
all_composites (t ∷ ts) = composites t + all_composites ts

-- what a byte counts: more than all pairs and arrays of one type, each with its two calls
abbrev pub rate : Program → ℕ
rate p = 2 * all_composites (types_of p) + 3

pub some_composites : (types : List Ty) (i : ℕ) → composites (slice_index_or types i UnitTy) ≤ all_composites types
some_composites [] zero = omega arith
some_composites [] (suc i) = omega arith
some_composites (t ∷ types) zero = omega arith
some_composites (t ∷ types) (suc i) = omega (arith, some_composites types i)

-- The calls for one of some types, where no more bytes are left than before, have a smaller measure.
pub fields_fall : (left bytes rate one all : ℕ) → left ≤ bytes → one ≤ all → left * rate + 2 * one + 1 < bytes * rate + 2 * all + 2
fields_fall left bytes rate one all fewer within = omega (arith, mul-le-mul_right rate fewer, within)
