use Rattle.std.proofs.Common.{map, take}
use Rattle.object_reader.specs.ObjectViews.{type_of}
use Rattle.code_check.specs.ListedParts.{AreNamedOf}
use Rattle.code_check.proofs.listed_types.named_list.Given as goal

abbrev pub invariant-loop-ty : goal.invariant-loop-ty
invariant-loop-ty l = AreNamedOf l.numbers (map type_of (take l.ty-index l.listed)) l.named.items
