use Rattle.code_check.proofs.Jumps.{ahead_at}
use Rattle.code_check.proofs.listed_code.all_passed.Goals as goal

pub passed-requires : goal.passed-requires
passed-requires c = ahead_at c.args.index c.args.targets.now c.loop-target.target-index c.requires c.loop-target-test.true
