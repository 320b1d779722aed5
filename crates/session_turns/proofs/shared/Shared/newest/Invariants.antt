use Rattle.std.proofs.Common.{◌≡◌, drop, None}
use Rattle.mode_vm.specs.Meanings.{program_of}
use Rattle.session_meaning.specs.Server as meant
use Rattle.session_turns.specs.Sharing.{AreKept, Shares}
use Rattle.session_turns.proofs.shared.Shared.newest.Given as goal

abbrev pub invariant-loop-number : goal.invariant-loop-number
invariant-loop-number g l = record {
  none : (m : meant.Shared) → Shares g.H.Hash32.hash (program_of l.code) l.fn.self m
      → meant.newest_version g.H.Hash32.hash (program_of l.code) l.state (drop l.number m.versions) ≡ None;
  shares : (m : meant.Shared) → Shares g.H.Hash32.hash (program_of l.code) l.fn.self m → Shares g.H.Hash32.hash (program_of l.code) l.self m;
  rest : AreKept l.fn.self l.self;
}
