use Rattle.std.proofs.Common.{◌≡◌, ◌++◌, true, length, map, drop}
use Rattle.std.specs.List.{list_all}
use Rattle.core_terms.specs.InstructionViews as made
use Rattle.core_terms.specs.ProgramTrees.{types_at}
use Rattle.core_terms.specs.Programs.{types_in}
use Rattle.object_meaning.specs.ObjectBodies.{code_from}
use Rattle.object_reader.specs.ObjectViews.{instruction_of}
use Rattle.code_check.specs.CodeTypes.{is_listable}
use Rattle.code_check.specs.ListedParts.{AreInstructionsAmong}
use Rattle.code_check.proofs.listed_code.instruction_list.Given as goal

-- the instructions so far, and the code of those that are left, are all of the code
abbrev pub invariant-loop-index : goal.invariant-loop-index
invariant-loop-index l = record {
  meaning : map (made.instruction_of (types_in l.types)) l.code.items ++ code_from (types_at (types_in l.types) l.numbers) l.index (map instruction_of (drop l.index l.listed))
      ≡ code_from (types_at (types_in l.types) l.numbers) 0 (map instruction_of l.listed);
  within : list_all (is_listable (length (types_in l.types))) l.code.items ≡ true;
  among : AreInstructionsAmong (length l.numbers) l.index (map instruction_of (drop l.index l.listed));
}
