use Rattle.std.proofs.Common.{◌≡◌, List, Some}
use Rattle.std.specs.Option.{ForSome}
use Rattle.lam_outside.specs.Links.{Linked, links_so_far}
use Rattle.piece_mirror.specs.Answers.{given_by}
use Rattle.piece_mirror.specs.Tables.{bytes_of}
use Rattle.link_ends.proofs.FaultsTold.{IsFaultTold}
use Rattle.mirror_links.specs.AnsweredLinks.{AreMoreAnswered}
use Rattle.mirror_links.proofs.net.answer_links.Given as goal

abbrev pub invariant-loop : goal.invariant-loop
invariant-loop g l = record {
  answered : ForSome (g.N.Net.listened l.fn.net) (λ port. (after : List Linked)
      → links_so_far (g.N.Net.ended l.net) (g.N.Net.linked l.net) (g.N.Source.given l.net) (g.N.Source.left l.net) (g.N.Source.sent l.net) (g.N.Source.reads l.net) ≡ Some after
      → AreMoreAnswered (given_by g.H.Hash32.hash (bytes_of l.fn.mirror.pieces)) port
      (links_so_far (g.N.Net.ended l.fn.net) (g.N.Net.linked l.fn.net) (g.N.Source.given l.fn.net) (g.N.Source.left l.fn.net) (g.N.Source.sent l.fn.net) (g.N.Source.reads l.fn.net))
      after l.link_fault l.counter);
  listened : g.N.Net.listened l.net ≡ g.N.Net.listened l.fn.net;
  listens : g.N.Net.listen_faults l.net ≡ g.N.Net.listen_faults l.fn.net;
  dials : g.N.Net.dial_faults l.net ≡ g.N.Net.dial_faults l.fn.net;
  accepts : g.N.Net.accept_faults l.net ≡ g.N.Net.accept_faults l.fn.net;
  faults : IsFaultTold l.link_fault (g.N.Source.faults l.fn.net) (g.N.Source.faults l.net);
}
