use Rattle.std.proofs.Common.{◌≡◌, ◌-◌}
use Rattle.std.specs.Option.{ForSome}
use Rattle.session_turns.specs.Keepers.{HasStayed, KeepsBetween}
use Rattle.serve_core.specs.Serving.{Serves}
use Rattle.session_meaning.specs.Server.{Server, messages_limit}
use Rattle.wire_form.specs.MovedBytes.{Moves}
use Rattle.serve_links.specs.HistoriesInCode.{HasSameCode, HasServed, own_digest, program_served, turns_of}
use Rattle.serve_links.specs.Prompt.{IsPrompt}
use Rattle.lam_outside.specs.LinkSteps.{AtEachRead}
use Rattle.serve_links.proofs.SoFar.{IsSoFar}
use Rattle.serve_links.proofs.connection.serve_link.Given as goal

abbrev pub invariant-loop-core : goal.invariant-loop-core
invariant-loop-core g l = record {
  history : HasServed g.H.Hash32.hash l.core;
  code : HasSameCode l.fn.core l.core;
  served : ForSome (g.L.Source.left l.fn.link) (λ bytes. (server : Server) (keeper : g.row.K.Denot) (place : g.K.Keeper.Place) → Serves g.H.Hash32.hash l.fn.core server
      → IsSoFar g.H.Hash32.hash (KeepsBetween (g.K.Keeper.keeps keeper place)) l.fn.core l.core server (g.L.Source.sent l.fn.link) (g.L.Source.sent l.link) bytes (g.L.Source.left l.link));
  kept : (place : g.K.Keeper.Place) → g.K.Keeper.keeps l.fn.keeper place l.fn.core.shared.commits.items → g.K.Keeper.keeps l.keeper place l.core.shared.commits.items;
  keeper : HasStayed (g.K.Keeper.faults l.fn.keeper) (g.K.Keeper.faults l.keeper) (g.K.Keeper.faulted l.fn.keeper) (g.K.Keeper.faulted l.keeper);
  keeper_rest : g.K.Keeper.rest l.keeper ≡ g.K.Keeper.rest l.fn.keeper;
  prompt : ForSome (g.L.Source.left l.fn.link) (λ bytes. (server : Server) → Serves g.H.Hash32.hash l.fn.core server
      → AtEachRead (IsPrompt g.H.Hash32.hash (program_served l.fn.core) (own_digest l.fn.core) (turns_of l.fn.core) server bytes (g.L.Source.sent l.fn.link)) (g.L.Source.reads l.fn.link) (g.L.Source.reads l.link));
  moves : Moves (g.L.Source.given l.fn.link) (g.L.Source.left l.fn.link) (g.L.Source.given l.link) (g.L.Source.left l.link);
  beyond : g.L.Link.beyond l.link ≡ g.L.Link.beyond l.fn.link;
  faults : g.L.Source.faults l.link ≡ g.L.Source.faults l.fn.link;
}

-- how many messages more may go on
abbrev pub decreases-loop-core : goal.decreases-loop-core
decreases-loop-core g l = messages_limit - l.core.heard
