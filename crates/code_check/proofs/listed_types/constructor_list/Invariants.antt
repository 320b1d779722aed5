use Rattle.std.proofs.Common.{map, take}
use Rattle.std.specs.List.{AllZip}
use Rattle.object_reader.specs.ObjectViews.{constructor_of}
use Rattle.code_check.specs.ListedParts.{IsConstructorOf}
use Rattle.code_check.proofs.listed_types.constructor_list.Given as goal

abbrev pub invariant-loop-one : goal.invariant-loop-one
invariant-loop-one l = AllZip (IsConstructorOf l.numbers) (map constructor_of (take l.one-index l.listed)) l.constructors.items
