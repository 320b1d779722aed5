use Rattle.std.proofs.Common.{take}
use Rattle.code_check.specs.ListedParts.{AreTypesOf}
use Rattle.code_check.proofs.listed_types.type_ids.Given as goal

abbrev pub invariant-loop-ty : goal.invariant-loop-ty
invariant-loop-ty l = AreTypesOf l.numbers (take l.ty-index l.listed) l.ids.items
