use Rattle.std.proofs.Common.{◌≡◌, take}
use Rattle.std.specs.Io.KnownBytes.{append_known}
use Rattle.serve_links.proofs.SentReplies.{bytes_in}
use Rattle.serve_links.proofs.sending.send_replies.Given as goal

abbrev pub invariant-loop-reply : goal.invariant-loop-reply
invariant-loop-reply g l = record {
  sent : g.L.Source.sent l.link ≡ append_known (g.L.Source.sent l.fn.link) (bytes_in (take l.reply-index l.replies));
  reads : g.L.Source.reads l.link ≡ g.L.Source.reads l.fn.link;
  given : g.L.Source.given l.link ≡ g.L.Source.given l.fn.link;
  left : g.L.Source.left l.link ≡ g.L.Source.left l.fn.link;
  beyond : g.L.Link.beyond l.link ≡ g.L.Link.beyond l.fn.link;
  faults : g.L.Source.faults l.link ≡ g.L.Source.faults l.fn.link;
}
