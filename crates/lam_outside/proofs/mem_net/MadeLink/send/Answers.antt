use Rattle.std.proofs.Common.{rules, ◌≡◌, ◌++◌, take}
use Rattle.lam_outside.proofs.LinkMoments.{moments_kept}
use Rattle.lam_outside.proofs.mem_net.MadeLink.send.Goals as goal

pub returns-in-Ok-clause-told : goal.returns-in-Ok-clause-told
returns-in-Ok-clause-told c coming =
    let old = c.args.self.now in
    let more = take c.min-count.result c.args.piece.now in
    let grown : c.extend_from_slice.new.self.items ≡ old.sent.items ++ more = search rules in
    rw grown (moments_kept coming old.sent.items more old.reads.items c.requires)
