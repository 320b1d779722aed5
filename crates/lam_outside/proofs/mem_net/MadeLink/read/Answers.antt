use Rattle.std.proofs.Common.{arith}
use Rattle.std.proofs.lemmas.Grind.{common_steps}
use Rattle.lam_outside.proofs.Mem.{reads_part}
use Rattle.lam_outside.proofs.mem_net.MadeLink.read.Goals as goal

pub returns-clause-bytes : goal.returns-clause-bytes
returns-clause-bytes c =
    reads_part c.args.self.now.at c.min-count.result c.args.most c.args.coming.now _ (grind (arith, common_steps)) (grind (arith, common_steps)) c.requires.most
