-- Commits that were appended one after another, as the steps of which the law on crashes speaks.
use Rattle.std.specs.Prelude.{◌≡◌, ℕ, List, ◌++◌, length, take, Result, OnOk}
use Rattle.core_terms.specs.Terms.{Program}
use Rattle.core_terms.specs.Values.{Value}
use Rattle.lam_outside.specs.Disks.{Moments}
use Rattle.session_meaning.specs.Calls.{RoleCall}
use Rattle.version_journal.specs.Gates.{AtLast, IsKept}
use Rattle.version_journal.specs.JournalLaws.{AreAppendsTo}
use Rattle.version_journal.specs.Journals.{journal_front}
use Rattle.version_journal.specs.Steps.{Append, acknowledged_in, moments_in, passed_to}

-- New calls, of which each makes one of these versions, were appended to a journal with those that it had.
module _ (P : Program) (own image : List ℕ) (calls : List RoleCall) (versions : List Value) (news : List RoleCall) (made : List Value) where
  -- The moments that passed are those of appends of the first of the new calls, in order. Where the answer is Ok all were appended, each
  -- append answered Ok, and further appends go on from there.
  pub record AreAppended {T E : Type 0} (old new : Moments) (result : Result T E) : Type 0 where
    pub steps : List (Append RoleCall)
    pub appends : AreAppendsTo P own image calls versions steps
    pub passed : passed_to steps ≡ take (length steps) news
    pub passing : new ≡ moments_in steps ++ old
    pub done : OnOk result ((passed_to steps ≡ news) × (acknowledged_in steps ≡ length steps))
    pub goes_on : OnOk result ((others : List (Append RoleCall)) → AreAppendsTo P own image (calls ++ news) (versions ++ made) others
        → AreAppendsTo P own image calls versions (steps ++ others))

  -- so far, when the first n were appended
  pub record AppendedSoFar (n : ℕ) (old new : Moments) : Type 0 where
    pub steps : List (Append RoleCall)
    pub count : length steps ≡ n
    pub acknowledged : acknowledged_in steps ≡ length steps
    pub passed : passed_to steps ≡ take n news
    pub passing : new ≡ moments_in steps ++ old
    pub goes_on : (others : List (Append RoleCall)) → AreAppendsTo P own image (calls ++ take n news) (versions ++ take n made) others
        → AreAppendsTo P own image calls versions (steps ++ others)
    pub last : AtLast (IsKept (journal_front own image (calls ++ take n news))) new
