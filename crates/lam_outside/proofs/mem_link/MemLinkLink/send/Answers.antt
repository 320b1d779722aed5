use Rattle.std.proofs.Common.{rules, ◌≡◌, ◌++◌, ap, take}
use Rattle.lam_outside.specs.LinkReads.{reads_told}
use Rattle.lam_outside.proofs.LinkMoments.{told_kept}
use Rattle.lam_outside.proofs.mem_link.MemLinkLink.send.Goals as goal

pub returns-clause-reads : goal.returns-clause-reads
returns-clause-reads c =
    let old = c.args.self.now in
    let grown : c.if-not-fails.self.1.1.1.0.items ≡ old.sent.items ++ take c.min-count.result c.args.piece.now = search rules in
    rw grown (told_kept old.forgot old.coming.items old.sent.items (take c.min-count.result c.args.piece.now) old.reads.items old.reads_in)
