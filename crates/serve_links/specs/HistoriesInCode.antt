-- Cores that serve with a history.
use Rattle.std.specs.Prelude.{◌≡◌, ℕ, List}
use Rattle.core_terms.specs.Formats.{Hash}
use Rattle.core_terms.specs.Terms.{Program}
use Rattle.code_gen.specs.Programs.{program_in}
use Rattle.mode_vm.specs.Meanings.{program_of}
use Rattle.session_meaning.specs.Server.{Server, Heard, Step, handle, last_turn}
use Rattle.serve_core.specs.Serving.{Serves}
use Rattle.serve_core.specs.declared.server.ServeCore.{ServeCore}
use Rattle.serve_links.specs.Histories.{HasHistory}

-- The program of a core, the digest of its text, and the turn in which a run of so many calls ends.
abbrev pub program_served : {A G : Type 0} → ServeCore A G → Program
program_served core = program_of core.code

abbrev pub own_digest : {A G : Type 0} → ServeCore A G → List ℕ
own_digest core = (program_in core.code).text_digest.0

abbrev pub turns_of : {A G : Type 0} → ServeCore A G → ℕ → ℕ
turns_of core = last_turn core.slice

-- what the server of this core answers to a message
abbrev pub step_of : {A G : Type 0} → Hash → ServeCore A G → Server → Heard → Step
step_of hash core = handle hash (program_served core) (own_digest core) (turns_of core)

-- The core is such a server, of its own program and with its own turns.
pub record HasServed (hash : Hash) {A G : Type 0} (core : ServeCore A G) : Type 0 where
  pub server : Server
  pub history : HasHistory hash (program_served core) (own_digest core) (turns_of core) server
  pub serves : Serves hash core server

-- it goes on with the same code, and with turns of the same size
pub record HasSameCode {A G : Type 0} (old new : ServeCore A G) : Type 0 where
  pub code : new.code ≡ old.code
  pub slice : new.slice ≡ old.slice
