-- What a core is behind a connection.
use Rattle.std.specs.Prelude.{⊤, ℕ, Bool}
use Rattle.core_terms.specs.Formats.{Hash}
use Rattle.session_meaning.specs.Server.{Server}
use Rattle.session_turns.specs.Keepers.{HasStayed, MayHaveFailed}
use Rattle.serve_core.specs.Serving.{Serves}
use Rattle.serve_core.specs.declared.server.ServeCore.{ServeCore}
use Rattle.link_ends.specs.declared.end.ConnectionEnd.{ConnectionEnd}
use Rattle.link_ends.specs.declared.end.ConnectionEnd.TheVariants.{Over, LinkFault, Stopped}
use Rattle.serve_links.specs.HistoriesInCode.{HasServed}

-- The core goes on as a server with a history. Where it was stopped it is a server still.
abbrev pub StaysServer : Hash → {A G : Type 0} → ServeCore A G → ConnectionEnd → Type 0
StaysServer hash core Over = HasServed hash core
StaysServer hash core LinkFault = HasServed hash core
StaysServer hash core Stopped = (server : Server) × Serves hash core server

-- it broke off
abbrev pub IsBroken : ConnectionEnd → Type 0
IsBroken Over = ⊥
IsBroken LinkFault = ⊤
IsBroken Stopped = ⊤

-- all commits are kept behind it, unless it was stopped
abbrev pub KeepsAtEnd : Type 0 → ConnectionEnd → Type 0
KeepsAtEnd Kept Over = Kept
KeepsAtEnd Kept LinkFault = Kept
KeepsAtEnd Kept Stopped = ⊤

-- a keeper fails only where it was stopped
abbrev pub EndKeeperCause : (faults faults' : ℕ) → (faulted faulted' : Bool) → ConnectionEnd → Type 0
EndKeeperCause faults faults' faulted faulted' Over = HasStayed faults faults' faulted faulted'
EndKeeperCause faults faults' faulted faulted' LinkFault = HasStayed faults faults' faulted faulted'
EndKeeperCause faults faults' faulted faulted' Stopped = MayHaveFailed faults faults' faulted faulted'
