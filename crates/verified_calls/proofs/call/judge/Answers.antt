use Rattle.std.proofs.Common.{Some, ap}
use Rattle.verified_calls.proofs.call.judge.Goals as goal

pub returns-clause-verdict : goal.returns-clause-verdict
returns-clause-verdict g c = c.verify_reusing.ensures.verdict c.args.file.now (ap Some c.new-proof.ensures.left)
