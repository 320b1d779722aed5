use Rattle.std.proofs.Common.{◌≡◌, List, Some}
use Rattle.std.specs.Option.{ForSome}
use Rattle.lam_outside.specs.Links.{Linked, links_so_far}
use Rattle.session_meaning.specs.Server.{Server}
use Rattle.session_turns.specs.Keepers.{HasStayed}
use Rattle.serve_core.specs.Serving.{Serves}
use Rattle.link_ends.proofs.FaultsTold.{IsFaultTold}
use Rattle.serve_links.specs.Connections.{AnyKept}
use Rattle.serve_links.specs.HistoriesInCode.{HasSameCode, HasServed}
use Rattle.serve_links.specs.ServedLinksInCode.{AreMoreServed}
use Rattle.serve_links.proofs.net.serve_links.Given as goal

abbrev pub invariant-loop : goal.invariant-loop
invariant-loop g l = record {
  history : HasServed g.H.Hash32.hash l.core;
  code : HasSameCode l.fn.core l.core;
  served : ForSome (g.N.Net.listened l.fn.net) (λ port. (server : Server) → Serves g.H.Hash32.hash l.fn.core server → (after : List Linked)
      → links_so_far (g.N.Net.ended l.net) (g.N.Net.linked l.net) (g.N.Source.given l.net) (g.N.Source.left l.net) (g.N.Source.sent l.net) (g.N.Source.reads l.net) ≡ Some after
      → AreMoreServed g.H.Hash32.hash AnyKept l.fn.core l.core server port
      (links_so_far (g.N.Net.ended l.fn.net) (g.N.Net.linked l.fn.net) (g.N.Source.given l.fn.net) (g.N.Source.left l.fn.net) (g.N.Source.sent l.fn.net) (g.N.Source.reads l.fn.net))
      after l.link_fault l.counter);
  kept : (place : g.K.Keeper.Place) → g.K.Keeper.keeps l.fn.keeper place l.fn.core.shared.commits.items → g.K.Keeper.keeps l.keeper place l.core.shared.commits.items;
  keeper : HasStayed (g.K.Keeper.faults l.fn.keeper) (g.K.Keeper.faults l.keeper) (g.K.Keeper.faulted l.fn.keeper) (g.K.Keeper.faulted l.keeper);
  keeper_rest : g.K.Keeper.rest l.keeper ≡ g.K.Keeper.rest l.fn.keeper;
  listened : g.N.Net.listened l.net ≡ g.N.Net.listened l.fn.net;
  listens : g.N.Net.listen_faults l.net ≡ g.N.Net.listen_faults l.fn.net;
  dials : g.N.Net.dial_faults l.net ≡ g.N.Net.dial_faults l.fn.net;
  accepts : g.N.Net.accept_faults l.net ≡ g.N.Net.accept_faults l.fn.net;
  faults : IsFaultTold l.link_fault (g.N.Source.faults l.fn.net) (g.N.Source.faults l.net);
}
