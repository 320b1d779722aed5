use Rattle.std.proofs.Common.{◌≡◌, ℕ, List, length}
use Rattle.std.specs.Vec.Iter.{into_iter_items, into_iter_len}
use Rattle.mode_vm.specs.Meanings.{program_of}
use Rattle.session_meaning.specs.Server as meant
use Rattle.session_meaning.specs.Tables.{Numbered}
use Rattle.session_turns.specs.Sharing.{Shares}
use Rattle.session_turns.specs.Ahead.{AreAhead}
use Rattle.session_turns.proofs.RoundSoFar.{IsSofar}
use Rattle.session_turns.proofs.shared.Shared.settle_turns.Given as goal

abbrev pub invariant-loop-entry : goal.invariant-loop-entry
invariant-loop-entry g l =
    record {
      counts : into_iter_len l.entry-iterator ≡ length (into_iter_items l.entry-iterator);
      sofar : (slice : ℕ) (m : meant.Shared) (xs : List (Numbered meant.Session)) → Shares g.H.Hash32.hash (program_of l.code) l.fn.self m
          → AreAhead g.H.Hash32.hash l.code slice l.fn.self m.versions l.fn.entries.items xs
          → IsSofar g.H.Hash32.hash l.code slice m xs l.self (into_iter_items l.entry-iterator) l.left.items l.fn.replies.items l.replies.items;
    }
