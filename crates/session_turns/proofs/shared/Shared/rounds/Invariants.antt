use Rattle.std.proofs.Common.{List, ◌-◌}
use Rattle.mode_vm.specs.Meanings.{program_of}
use Rattle.session_meaning.specs.Server as meant
use Rattle.session_meaning.specs.Tables.{Numbered}
use Rattle.session_turns.specs.Sharing.{Shares}
use Rattle.session_turns.specs.Rounds.{AreSessions}
use Rattle.session_turns.proofs.RoundsSoFar.{IsLeftOf}
use Rattle.session_turns.proofs.shared.Shared.rounds.Given as goal

abbrev pub invariant-loop : goal.invariant-loop
invariant-loop g l =
    (m : meant.Shared) (xs : List (Numbered meant.Session)) → Shares g.H.Hash32.hash (program_of l.code) l.fn.self m
    → AreSessions g.H.Hash32.hash l.code l.units l.fn.self m.versions l.fn.entries.items xs
    → IsLeftOf g.H.Hash32.hash l.code l.units l.rounds (l.rounds - l.counter) m xs l.self l.left.items l.fn.replies.items l.replies.items
