use Rattle.std.proofs.Common.{◌≡◌, drop}
use Rattle.core_terms.specs.Kinds as kinds
use Rattle.core_terms.specs.Programs.{types_in}
use Rattle.code_check.specs.ObjectParts.{body_of_parts}
use Rattle.code_check.specs.TypeLists.{Grows}
use Rattle.code_check.proofs.CalledFunctions.{all_coded}
use Rattle.code_check.proofs.kinds.kind_fault.Given as goal

-- the first fault of the functions from here on is that of all
abbrev pub invariant-loop-number : goal.invariant-loop-number
invariant-loop-number l = record {
  fault : kinds.kind_fault (body_of_parts l.parts)
      ≡ kinds.kind_fault_from (body_of_parts l.parts) l.number (drop l.number (all_coded (types_in l.parts.types) l.parts.functions.items l.parts.code.items));
  table : Grows (types_in l.parts.types) (types_in l.lists.types);
}
