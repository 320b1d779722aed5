-- What the sessions share in the code, and in the definitions.
use Rattle.std.specs.Prelude.{◌≡◌}
use Rattle.core_terms.specs.Formats.{Hash}
use Rattle.core_terms.specs.Spelling.{spelling}
use Rattle.core_terms.specs.Terms.{Program}
use Rattle.session_meaning.specs.Calls.{RoleCall}
use Rattle.session_meaning.specs.Server as meant
use Rattle.value_store.specs.Markings.{HasLimit}
use Rattle.value_store.specs.Stores.{nodes_in, store_lent}
use Rattle.session_turns.specs.Marks.{AreMarks}
use Rattle.session_turns.specs.Rows.{AreAlike}
use Rattle.session_turns.specs.Versions.{AreVersions}
use Rattle.session_turns.specs.declared.commit.Commit.{Commit}
use Rattle.session_turns.specs.declared.shared.Shared.{Shared}

-- The commit is this call: the number of its role, the spelling of its argument, and its fuel.
pub record IsCommit (commit : Commit) (call : RoleCall) : Type 0 where
  pub role : commit.role.0 ≡ call.role
  pub argument : commit.argument ≡ spelling call.argument
  pub fuel : commit.fuel ≡ call.fuel

-- The store has the limit of the program's format. Among the prover's nodes in it the versions stand for those of the definitions, and the
-- commits are the same calls. What is known of the marks of their spellings is so.
pub record Shares (hash : Hash) (P : Program) (shared : Shared) (same : meant.Shared) : Type 0 where
  pub limit : HasLimit P (store_lent shared.store)
  pub versions : AreVersions hash P (nodes_in shared.store) shared.versions.items same.versions
  pub commits : AreAlike IsCommit shared.commits.items same.commits
  pub marks : AreMarks hash P shared.marks same.versions

-- All but the known marks stays.
pub record AreKept (old new : Shared) : Type 0 where
  pub store : new.store ≡ old.store
  pub versions : new.versions ≡ old.versions
  pub commits : new.commits ≡ old.commits
