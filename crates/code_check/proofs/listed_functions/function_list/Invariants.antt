use Rattle.std.proofs.Common.{map, take}
use Rattle.std.specs.List.{AllZip}
use Rattle.object_reader.specs.ObjectViews.{function_of}
use Rattle.code_check.specs.ListedParts.{IsFunctionOf}
use Rattle.code_check.proofs.listed_functions.function_list.Given as goal

abbrev pub invariant-loop-one : goal.invariant-loop-one
invariant-loop-one l = AllZip (IsFunctionOf l.numbers) (map function_of (take l.one-index l.listed)) l.functions.items
