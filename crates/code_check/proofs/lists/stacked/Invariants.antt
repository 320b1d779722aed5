use Rattle.std.proofs.Common.{◌<◌, ◌≤◌, ◌++◌, List, length, reverse, take}
use Rattle.core_terms.specs.Types.{Ty}
use Rattle.core_terms.specs.Programs.{types_in}
use Rattle.core_terms.specs.ProgramTrees.{types_at}
use Rattle.code_check.specs.TypeLists.{IsList, Grows}
use Rattle.code_check.proofs.lists.stacked.Given as goal

-- the types so far are stacked
abbrev pub invariant-loop-ty : goal.invariant-loop-ty
invariant-loop-ty l = record {
  list : (ts : List Ty) → IsList (types_in l.fn.lists.types) l.fn.others ts → IsList (types_in l.lists.types) l.list (reverse (types_at (types_in l.fn.lists.types) (take l.ty-index l.types)) ++ ts);
  within : l.list.0 < length (types_in l.lists.types);
  grows : Grows (types_in l.fn.lists.types) (types_in l.lists.types);
  longer : length (types_in l.fn.lists.types) ≤ length (types_in l.lists.types);
}
