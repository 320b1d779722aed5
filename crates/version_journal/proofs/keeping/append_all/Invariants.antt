use Rattle.std.proofs.Common.{◌≡◌, ◌+◌, ◌++◌, ℕ, suc, List, length, take}
use Rattle.std.specs.Prelude.{IfSome, true}
use Rattle.core_terms.specs.Terms.{Program}
use Rattle.core_terms.specs.Values.{Value}
use Rattle.session_meaning.specs.Calls.{RoleCall}
use Rattle.session_meaning.specs.Server.{version_at}
use Rattle.session_turns.specs.Rows.{AreAlike}
use Rattle.session_turns.specs.Sharing.{IsCommit}
use Rattle.version_journal.specs.Appended.{AppendedSoFar}
use Rattle.version_journal.specs.AtGates.{IsAt}
use Rattle.version_journal.specs.Gates.{AtLast, ForTold, IsKept}
use Rattle.version_journal.specs.JournalLaws.{AreWritable}
use Rattle.version_journal.specs.Journals.{journal_front}
use Rattle.version_journal.specs.Keeping.{AppendsSoFar}
use Rattle.version_journal.proofs.keeping.append_all.Given as goal

abbrev pub invariant-loop-commit : goal.invariant-loop-commit
invariant-loop-commit g l = record {
  count : l.journal.records ≡ l.fn.journal.records + l.commit-index;
  at : (own image : List ℕ) (calls news : List RoleCall) → IsAt own image calls l.fn.journal → AreAlike IsCommit l.fn.commits news → IsAt own image (calls ++ take l.commit-index news) l.journal;
  so_far : (own image : List ℕ) (calls news : List RoleCall) → IsAt own image calls l.fn.journal → AreAlike IsCommit l.fn.commits news
      → IfSome (g.D.Disk.moments l.fn.disk) (AtLast (IsKept (journal_front own image calls)))
      → ForTold (g.D.Disk.moments l.fn.disk) (g.D.Disk.moments l.disk) (AppendsSoFar own image calls news l.commit-index);
  steps : (P : Program) (own image : List ℕ) (calls news : List RoleCall) (versions made : List Value) → IsAt own image calls l.fn.journal
      → AreAlike IsCommit l.fn.commits news → length versions ≡ suc (length calls) → AreWritable P (version_at versions (length calls)) news made
      → IfSome (g.D.Disk.moments l.fn.disk) (AtLast (IsKept (journal_front own image calls)))
      → ForTold (g.D.Disk.moments l.fn.disk) (g.D.Disk.moments l.disk) (AppendedSoFar P own image calls versions news made l.commit-index);
  whole : l.fn.journal.failed ≡ true → (l.commit-index ≡ 0) × (l.journal ≡ l.fn.journal) × (l.disk ≡ l.fn.disk);
  reads : g.D.Disk.read_faults l.disk ≡ g.D.Disk.read_faults l.fn.disk;
  writes : g.D.Disk.write_faults l.disk ≡ g.D.Disk.write_faults l.fn.disk;
}
