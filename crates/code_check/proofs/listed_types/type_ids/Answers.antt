use Rattle.std.proofs.Common.{length}
use Rattle.code_check.proofs.TypeNumbers.{number_below}
use Rattle.code_check.proofs.listed_types.type_ids.Goals as goal

pub type_id-requires : goal.type_id-requires
type_id-requires c = number_below (length c.args.numbers.now) c.args.listed.now c.loop-ty.ty-index c.requires c.loop-ty-test.true
