-- Links that are served one after another, as the functions that serve them tell it.
use Rattle.std.specs.Prelude.{◌≡◌, ◌⊎◌, ℕ, ◌<◌, ◌≤◌, Bool, true, List, [], ◌∷◌, ◌++◌, length, Option, Some, Result, Ok, Err}
use Rattle.core_terms.specs.Formats.{Hash}
use Rattle.lam_outside.specs.Causes.{Rose}
use Rattle.lam_outside.specs.Links.{Linked}
use Rattle.session_meaning.specs.Calls.{RoleCall}
use Rattle.session_meaning.specs.Server.{Server}
use Rattle.session_turns.specs.Keepers.{HasStayed, MayHaveFailed}
use Rattle.serve_core.specs.Serving.{Serves}
use Rattle.serve_core.specs.declared.server.ServeCore.{ServeCore}
use Rattle.link_ends.specs.Ends.{is_fault}
use Rattle.link_ends.specs.MoreLinks.{AreMore}
use Rattle.link_ends.specs.declared.end.ConnectionEnd.{ConnectionEnd}
use Rattle.link_ends.specs.declared.end.ConnectionEnd.TheVariants as connection
use Rattle.link_ends.specs.declared.link_stop.LinkStop.{LinkStop}
use Rattle.link_ends.specs.declared.link_stop.LinkStop.TheVariants as link_stop
use Rattle.link_ends.specs.declared.end.ServingEnd.{ServingEnd}
use Rattle.link_ends.specs.declared.end.ServingEnd.TheVariants.{Served, Stopped}
use Rattle.serve_links.specs.HistoriesInCode.{HasServed, own_digest, program_served, turns_of}
use Rattle.serve_links.specs.ServedLinks.{AreServed, AreServedInPart, IsServedOn}

-- A core served a server, on a net that listens to a port.
module _ (hash : Hash) (Kept : (told made : List RoleCall) → Type 0) {A G : Type 0} (old new : ServeCore A G) (server : Server) (port : ℕ) where
  -- Where the links are told, there is one more, to this port, and it was served.
  pub record IsOneServed (links : Option (List Linked)) (after : List Linked) (end : ConnectionEnd) : Type 0 where
    pub before : List Linked
    pub link : Linked
    pub behind : Server
    pub told : links ≡ Some before
    pub all : after ≡ before ++ link ∷ []
    pub at_port : link.port ≡ port
    pub served : IsServedOn hash (program_served old) (own_digest old) (turns_of old) Kept server link end behind
    pub serves : Serves hash new behind

  -- The same, not stopped: whether it ended in a link fault.
  pub record IsOneWhole (links : Option (List Linked)) (after : List Linked) (faulted : Bool) : Type 0 where
    pub end : ConnectionEnd
    pub one : IsOneServed links after end
    pub unstopped : end ≡ connection.Stopped → ⊥
    pub fault : faulted ≡ is_fault end

  -- so it is at an accepted link; where none was, the links and the core are the same
  abbrev pub ServesNext : (links links' : Option (List Linked)) → Result Bool LinkStop → Type 0
  ServesNext links links' (Ok faulted) = (after : List Linked) → links' ≡ Some after → IsOneWhole links after faulted
  ServesNext links links' (Err link_stop.LinkFault) = (links' ≡ links) × (new ≡ old)
  ServesNext links links' (Err link_stop.Stopped) = (after : List Linked) → links' ≡ Some after → IsOneServed links after connection.Stopped

  -- there are so many more, and they were served
  pub record AreMoreServed (links : Option (List Linked)) (after : List Linked) (faulted : Bool) (count : ℕ) : Type 0 where
    pub more : List Linked
    pub behind : Server
    pub are : AreMore port links after more
    pub number : length more ≡ count
    pub served : AreServed hash (program_served old) (own_digest old) (turns_of old) Kept server more faulted behind
    pub serves : Serves hash new behind

  -- there are at most so many more, and serving was stopped on the last one
  pub record AreMoreInPart (links : Option (List Linked)) (after : List Linked) (most : ℕ) : Type 0 where
    pub more : List Linked
    pub behind : Server
    pub are : AreMore port links after more
    pub number : length more ≤ most
    pub served : AreServedInPart hash (program_served old) (own_digest old) (turns_of old) Kept server more behind
    pub serves : Serves hash new behind

  -- As many links were served as there were to be, and a fault is told where one of them ended in one; or fewer, since an accept
  -- failed, which is told as a fault.
  pub record AreCounted (links : Option (List Linked)) (after : List Linked) (connections : ℕ) (link_fault : Bool) (accepts accepts' : ℕ) : Type 0 where
    pub faulted : Bool
    pub count : ℕ
    pub served : AreMoreServed links after faulted count
    pub number : ((count ≡ connections) × (link_fault ≡ faulted)) ⊎ ((count < connections) × (link_fault ≡ true) × Rose accepts accepts')

  -- Where the links behind the serving are told, those before it are, and there are so many more.
  abbrev pub ServesLinks : (links links' : Option (List Linked)) → (connections accepts accepts' : ℕ) → ServingEnd → Type 0
  ServesLinks links links' connections accepts accepts' (Served link_fault) =
      (after : List Linked) → links' ≡ Some after → AreCounted links after connections link_fault accepts accepts'
  ServesLinks links links' connections accepts accepts' Stopped = (after : List Linked) → links' ≡ Some after → AreMoreInPart links after connections

-- The core goes on as a server with a history. Where it was stopped it is a server still.
abbrev pub StaysOn : Hash → {A G : Type 0} → ServeCore A G → ServingEnd → Type 0
StaysOn hash core (Served link_fault) = HasServed hash core
StaysOn hash core Stopped = (server : Server) × Serves hash core server

-- All commits are kept behind the serving, unless it was stopped.
abbrev pub KeepsBehind : Type 0 → ServingEnd → Type 0
KeepsBehind Kept (Served link_fault) = Kept
KeepsBehind Kept Stopped = Unit {0}

-- a keeper fails only where the serving is stopped
abbrev pub KeeperCause : (faults faults' : ℕ) → (faulted faulted' : Bool) → ServingEnd → Type 0
KeeperCause faults faults' faulted faulted' (Served link_fault) = HasStayed faults faults' faulted faulted'
KeeperCause faults faults' faulted faulted' Stopped = MayHaveFailed faults faults' faulted faulted'
