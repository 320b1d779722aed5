-- What is seen of a client's sessions: which of them wait for a reply, and what they call.
use Rattle.std.specs.Prelude.{◌≡◌, ℕ, zero, suc, ◌+◌, Bool, false, if◌then◌else◌, List, Option, Some, None}
use Rattle.core_terms.specs.RoleViews.{role_kind_of}
use Rattle.core_terms.specs.Terms.{Program}
use Rattle.core_terms.specs.TypeTables.{type_at}
use Rattle.core_terms.specs.Types.{Ty}
use Rattle.mode_vm.specs.Meanings.{program_of}
use Rattle.session_meaning.specs.Client as meant
use Rattle.session_meaning.specs.Tables.{find}
use Rattle.session_tables.specs.Tables.{rows_of}
use Rattle.ask_core.specs.Clients.{IsClient}
use Rattle.ask_core.specs.Turns.{waits_in}
use Rattle.ask_core.specs.declared.client.AskCore.{AskCore}
use Rattle.ask_core.specs.declared.seen.CalledRole.{CalledRole}
use Rattle.session_meaning.specs.Waiting.{called_in, is_calling}

-- the kind and the result's type of the role that a session calls are these; or the session doesn't call
abbrev pub IsCalledRole : List Ty → Program → Option meant.Standing → Option CalledRole → Type 0
IsCalledRole types P found (Some called) = (role_kind_of called.kind ≡ (called_in P found).kind) × (type_at types called.result ≡ (called_in P found).result)
IsCalledRole types P found None = is_calling found ≡ false

-- the client that a core stands for
abbrev pub StandsFor : {A : Type 0} → AskCore A → meant.Client → Type 0
StandsFor core c = IsClient (program_of core.code) core.closed (rows_of core.sessions) c

abbrev pub StandsForSome : {A : Type 0} → AskCore A → Type 0
StandsForSome core = (c : meant.Client) × StandsFor core c

-- how many of the numbers below one pass a test
abbrev pub count_below : ℕ → (ℕ → Bool) → ℕ
count_below zero test = zero
count_below (suc most) test = (if test most then 1 else 0) + count_below most test

-- how many sessions wait for a reply
unfoldable pub sessions_waiting : {A : Type 0} → AskCore A → ℕ
sessions_waiting core = count_below 65536 (λ number. waits_in (find number (rows_of core.sessions)))
