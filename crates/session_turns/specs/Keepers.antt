-- What a keeper of commits is asked, and what it answers.
use Rattle.std.specs.Prelude.{◌≡◌, ◌⊎◌, ◌<◌, ◌≤◌, ◌+◌, ◌^◌, ℕ, Bool, true, List, length, Result, Ok, Err}
use Rattle.std.specs.List.{All}
use Rattle.lam_outside.specs.Causes.{Rose}
use Rattle.session_meaning.specs.Calls.{RoleCall}
use Rattle.session_turns.specs.Rows.{AreAlike}
use Rattle.session_turns.specs.Sharing.{IsCommit}
use Rattle.session_turns.specs.declared.commit.Commit.{Commit}
use Rattle.session_meaning.specs.Beginnings.{IsFront}

-- The commit fits a record: the number of its role has two bytes, and its argument's spelling is no longer than a value's may be.
pub record FitsRecord (commit : Commit) : Type 0 where
  pub role : commit.role.0 < 2 ^ 16
  pub argument : length commit.argument < 2 ^ 20 + 1

-- they are no more than a server may have, and each fits a record
pub record AreKeepable (commits : List Commit) : Type 0 where
  pub few : length commits ≤ 4095
  pub each : All FitsRecord commits

-- These commits are kept; or, where they were not, those that were kept before, and the first of the others.
abbrev pub KeepsOn : {T E : Type 0} → (List Commit → Type 0) → (before commits : List Commit) → Result T E → Type 0
KeepsOn Keeps before commits (Ok done) = Keeps commits
KeepsOn Keeps before commits (Err stop) = (kept : List Commit) × IsFront before kept × IsFront kept commits × Keeps kept

-- a keeper's count of faults stayed, and what it says
abbrev pub HasStayed : (faults faults' : ℕ) → (faulted faulted' : Bool) → Type 0
HasStayed faults faults' faulted faulted' = (faults' ≡ faults) × (faulted' ≡ faulted)

-- So it is; or it failed: the count rose, and it says so.
abbrev pub MayHaveFailed : (faults faults' : ℕ) → (faulted faulted' : Bool) → Type 0
MayHaveFailed faults faults' faulted faulted' = HasStayed faults faults' faulted faulted' ⊎ (Rose faults faults' × (faulted' ≡ true))

-- a keeper fails only where it doesn't keep
abbrev pub KeepCause : {T E : Type 0} → (faults faults' : ℕ) → (faulted faulted' : Bool) → Result T E → Type 0
KeepCause faults faults' faulted faulted' (Ok done) = HasStayed faults faults' faulted faulted'
KeepCause faults faults' faulted faulted' (Err stop) = MayHaveFailed faults faults' faulted faulted'

-- Commits are kept that begin with all that were told, and with which all that were made begin.
pub record KeepsBetween (Keeps : List Commit → Type 0) (told made : List RoleCall) : Type 0 where
  pub commits : List Commit
  pub calls : List RoleCall
  pub keeps : Keeps commits
  pub alike : AreAlike IsCommit commits calls
  pub all_told : IsFront told calls
  pub only_made : IsFront calls made
