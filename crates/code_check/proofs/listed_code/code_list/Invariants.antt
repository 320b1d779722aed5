use Rattle.std.proofs.Common.{map, take}
use Rattle.std.specs.List.{AllZip}
use Rattle.core_terms.specs.Programs.{types_in}
use Rattle.object_reader.specs.ObjectViews.{function_of}
use Rattle.code_check.specs.ListedParts.{IsFunctionCode}
use Rattle.code_check.proofs.listed_code.code_list.Given as goal

abbrev pub invariant-loop-function : goal.invariant-loop-function
invariant-loop-function l = AllZip (IsFunctionCode (types_in l.types) l.numbers) (map function_of (take l.function-index l.listed)) l.code.items
