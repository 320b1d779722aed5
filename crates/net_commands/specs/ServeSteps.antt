-- The steps of `serve` from `listen` on: what a step leaves, and how much of it was told.
use Rattle.std.specs.Prelude.{◌≡◌, ◌⊎◌, ◌<◌, ℕ, Bool, List, length, codes, Option, Result, Ok, Err}
use Rattle.std.specs.Io.KnownBytes.{append_known}
use Rattle.std.specs.List.{concat}
use Rattle.std.specs.Option.{ForSome}
use Rattle.sha2.specs.Sha256.{sha256}
use Rattle.lam_outside.specs.Links.{Linked}
use Rattle.lam_outside.specs.Told.{Stores}
use Rattle.serve_core.specs.Serving.{Serves}
use Rattle.serve_core.specs.declared.server.ServeCore.{ServeCore}
use Rattle.printed_lines.specs.Lines.{listening_line}
use Rattle.serve_links.specs.Connections.{AnyKept}
use Rattle.serve_links.specs.ServedLinksInCode.{KeeperCause, KeepsBehind}
use Rattle.session_meaning.specs.Calls.{RoleCall}
use Rattle.session_turns.specs.Keepers.{HasStayed}
use Rattle.session_meaning.specs.Server.{Server}
use Rattle.command_parts.specs.Answer.{Serving}
use Rattle.net_commands.specs.OnlineRuns.{NetSeen}
use Rattle.net_commands.specs.Courses.{AreLinesTold, Course, HasMadeLinks, NotListening, NotWritten, Served, WithoutMemory, course_status}
use Rattle.net_commands.specs.Serving.{IsStoredBy, IsTooLong, LacksMemory, HasGone, MakesLinks, Storage, course_lines, last_image, count_lines, storage_lines, storage_status}
use Rattle.images.specs.declared.fault.SaveFault.{SaveFault}
use Rattle.images.specs.declared.fault.SaveFault.TheVariants as save_fault
use Rattle.command_parts.specs.Telling.{TellsText}
use Rattle.command_parts.specs.declared.status.Status.{Status}
use Rattle.command_parts.specs.declared.status.Status.TheVariants.{NoMemory}
use Rattle.link_ends.specs.declared.end.ServingEnd.{ServingEnd}
use Rattle.link_ends.specs.declared.end.ServingEnd.TheVariants as end

-- The core is this server, and has a version.
pub record IsServer {A G : Type 0} (core : ServeCore A G) (server : Server) : Type 0 where
  pub serves : Serves sha256 core server
  pub some : 0 < length core.shared.versions.items

-- the links of such a serving, where those behind it are told
abbrev pub HasMade : ((told made : List RoleCall) → Type 0) → Serving → Course → Option (List Linked) → (after : List Linked) → (accepts accepts' : ℕ) → Server → Type 0
HasMade Kept s course links after accepts accepts' server = HasMadeLinks (λ made. MakesLinks Kept s course made accepts accepts' server) s.port links after

-- the lines of the course were told
abbrev pub IsCourseTold : Serving → Course → Server → Status → (old new : Option (List ℕ)) → (before now : ℕ) → Type 0
IsCourseTold s course server told old new before now = AreLinesTold s.port course (course_lines s course server) told old new before now

-- the course of links that ended so
abbrev pub ended_course : ServingEnd → Course
ended_course (end.Served faulted) = Served faulted
ended_course end.Stopped = WithoutMemory

-- no link was served
abbrev pub ServesNone : Course → Type 0
ServesNone NotListening = Unit {0}
ServesNone NotWritten = Unit {0}
ServesNone course = ⊥

-- How far the course was told: the line that stands before the links, where they were served; else all of it, which left this status.
abbrev pub IsToldSoFar : Serving → Course → Server → Result ServingEnd Status → (old new : Option (List ℕ)) → (before now : ℕ) → Type 0
IsToldSoFar s course server (Ok ended) old new before now =
    (course ≡ ended_course ended) × (new ≡ append_known old (listening_line s.port)) × (now ≡ before)
IsToldSoFar s course server (Err told) old new before now = ServesNone course × IsCourseTold s course server told old new before now

-- where serving was stopped and the links are told, the commits of the server that is left are kept so
abbrev pub KeptAtStop : ((told made : List RoleCall) → Type 0) → Result ServingEnd Status → Option (List Linked) → (made : List RoleCall) → Type 0
KeptAtStop Kept (Ok end.Stopped) links made = ForSome links (λ after. (told : List RoleCall) × Kept told made)
KeptAtStop Kept result links made = Unit {0}

-- The serving went some course, which was told so far, and the core is the server that is left.
pub record ServesCourse (Kept : (told made : List RoleCall) → Type 0) {A G : Type 0} (s : Serving) (net net' : NetSeen) (core : ServeCore A G) (result : Result ServingEnd Status)
    (old new : Option (List ℕ)) (before now : ℕ) : Type 0 where
  pub course : Course
  pub server : Server
  pub gone : HasGone Kept s net net' course server
  pub server_left : IsServer core server
  pub is_told : IsToldSoFar s course server result old new before now
  pub kept : KeptAtStop Kept result net'.links server.shared.commits

-- all commits are kept, unless the serving was stopped
abbrev pub KeepsSoFar : Type 0 → Result ServingEnd Status → Type 0
KeepsSoFar Kept (Ok ended) = KeepsBehind Kept ended
KeepsSoFar Kept (Err told) = Kept

-- a keeper fails only where it was
abbrev pub KeeperFails : (faults faults' : ℕ) → (faulted faulted' : Bool) → Result ServingEnd Status → Type 0
KeeperFails faults faults' faulted faulted' (Ok ended) = KeeperCause faults faults' faulted faulted' ended
KeeperFails faults faults' faulted faulted' (Err told) = HasStayed faults faults' faulted faulted'

-- The serving went some course, which was told, and the core is the server that is left.
pub record TellsCourse {A G : Type 0} (s : Serving) (net net' : NetSeen) (core : ServeCore A G) (told : Status) (old new : Option (List ℕ)) (before now : ℕ) : Type 0 where
  pub course : Course
  pub server : Server
  pub gone : HasGone AnyKept s net net' course server
  pub server_left : IsServer core server
  pub is_told : IsCourseTold s course server told old new before now

-- How the serving of links ended is told: so many versions and commits, and a fault; or the want of memory.
abbrev pub IsEndTold : (versions commits : ℕ) → ServingEnd → Status → (old new : Option (List ℕ)) → (before now : ℕ) → Type 0
IsEndTold versions commits (end.Served faulted) told old new before now =
    TellsText (course_status (Served faulted)) (concat (count_lines versions commits faulted)) told old new before now ⊎ TellsText NoMemory (codes "no memory\n") told old new before now
IsEndTold versions commits end.Stopped told old new before now = TellsText NoMemory (codes "no memory\n") told old new before now

-- what follows of the storing, behind lines that left this status, is told
abbrev pub IsStorageTold : Storage → (told ended : Status) → (old new : Option (List ℕ)) → (before now : ℕ) → Type 0
IsStorageTold storage told ended old new before now = TellsText (storage_status storage told) (concat (storage_lines storage told)) ended old new before now

-- That the image can't be stored is told so: that it is too long, or that memory was wanting, also for the line that says the first.
abbrev pub IsUnstoredTold : (told : Status) → SaveFault → (ended : Status) → (old new : Option (List ℕ)) → (before now : ℕ) → Type 0
IsUnstoredTold told save_fault.TooLong ended old new before now = IsStorageTold IsTooLong told ended old new before now ⊎ IsStorageTold LacksMemory told ended old new before now
IsUnstoredTold told save_fault.NoMemory ended old new before now = IsStorageTold LacksMemory told ended old new before now

-- The last version was stored under a name, behind lines that left this status, and that was told.
pub record StoresLast (s : Serving) (server : Server) (name : List ℕ) (told ended : Status) (stores stores' : Option Stores) (store_faults store_faults' : ℕ)
    (old new : Option (List ℕ)) (before now : ℕ) : Type 0 where
  pub storage : Storage
  pub stored : IsStoredBy storage (last_image s server) name stores stores' store_faults store_faults'
  pub is_told : IsStorageTold storage told ended old new before now
