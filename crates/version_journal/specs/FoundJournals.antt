-- A journal that was found on a disk and keeps the commits of a server behind those that it had.
use Rattle.std.specs.Prelude.{◌≡◌, ◌⊎◌, ◌≤◌, ℕ, true, List, ◌++◌, length, Option}
use Rattle.lam_outside.specs.Disks.{Moments}
use Rattle.session_meaning.specs.Calls.{RoleCall}
use Rattle.session_turns.specs.Rows.{AreAlike}
use Rattle.session_turns.specs.Sharing.{IsCommit}
use Rattle.session_turns.specs.declared.commit.Commit.{Commit}
use Rattle.version_journal.specs.AtGates.{IsAt}
use Rattle.version_journal.specs.Gates.{AtLast, ForTold, IsKept, LeavesOnly, Passed}
use Rattle.version_journal.specs.Journals.{SpellsJournal, journal_front}
use Rattle.version_journal.specs.Keeping.{SpellsFirst}
use Rattle.version_journal.specs.declared.journal.Journal.{Journal}

-- A journal as it was found: the digest of its program, its image, its commits, and what its disk told then.
pub record FoundJournal : Type 0 where
  pub own : List ℕ
  pub image : List ℕ
  pub calls : List RoleCall
  pub moments : Option Moments

module _ (own image : List ℕ) (calls news : List RoleCall) where
  -- At each moment since, a crash leaves the commits that were found with the first of these behind them; and by now all of these: every crash leaves
  -- them.
  pub record HasKept (old now : Moments) : Type 0 where
    pub each : Passed (LeavesOnly (SpellsFirst own image calls news)) old now
    pub last : AtLast (IsKept (journal_front own image (calls ++ news))) now

  -- The same until it broke: so the file reads now. Since then a crash may leave fewer, or one record more.
  pub record ReadsAsKept (old now : Moments) : Type 0 where
    pub sound : Moments
    pub next : List RoleCall
    pub one : length next ≤ 1
    pub each : Passed (LeavesOnly (SpellsFirst own image calls news)) old sound
    pub since : Passed (LeavesOnly (SpellsFirst own image calls (news ++ next))) sound now
    pub last : AtLast (λ file. SpellsJournal own image (calls ++ news) file.reads) now

-- The journal keeps these commits: those that were found and others, behind which it stands. Or it is broken, and so its file reads.
pub record KeepsFound (found : FoundJournal) (journal : Journal) (moments : Option Moments) (commits : List Commit) : Type 0 where
  pub news : List RoleCall
  pub alike : AreAlike IsCommit commits (found.calls ++ news)
  pub stands : (IsAt found.own found.image (found.calls ++ news) journal × ForTold found.moments moments (HasKept found.own found.image found.calls news))
      ⊎ ((journal.failed ≡ true) × (journal.records ≤ length commits) × ForTold found.moments moments (ReadsAsKept found.own found.image found.calls news))
