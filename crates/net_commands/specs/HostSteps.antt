-- The steps of `host` from `listen` on.
use Rattle.std.specs.Prelude.{◌≡◌, ℕ, Bool, true, false, List, Option}
use Rattle.session_meaning.specs.Calls.{RoleCall}
use Rattle.session_meaning.specs.Server.{Server}
use Rattle.command_parts.specs.Answer.{Serving}
use Rattle.command_parts.specs.declared.status.Status.{Status}
use Rattle.command_parts.specs.declared.status.Status.TheVariants.{WriteFault}
use Rattle.journal_commands.specs.DisksSeen.{DiskSeen, FromChosen}
use Rattle.link_ends.specs.declared.end.ServingEnd.{ServingEnd}
use Rattle.net_commands.specs.Hosting.{AreKept, DiskFails, HostCourse, IfStoppedTold, IsHostTold, KeepsAll, KeepsJournal, links_course}
use Rattle.net_commands.specs.OnlineRuns.{NetSeen}
use Rattle.net_commands.specs.ServeSteps.{IsEndTold}
use Rattle.net_commands.specs.Serving.{HasGone}

-- The hosting went some course since the disk told `middle`, which was told, and the journal keeps what it must, since the disk told `first`.
pub record Hosts (s : Serving) (name : List ℕ) (net net' : NetSeen) (first middle disk' : DiskSeen) (told : Status) (old new : Option (List ℕ)) (before now : ℕ) : Type 0 where
  pub course : HostCourse
  pub server : Server
  pub kept : List RoleCall
  pub gone : HasGone (AreKept kept) s net net' (links_course course) server
  pub all : KeepsAll course kept server.shared.commits
  pub keeps : IfStoppedTold course net'.links (FromChosen name first disk' (KeepsJournal s server kept))
  pub fails : DiskFails course middle disk'
  pub is_told : IsHostTold s course server told old new before now

-- How the serving of links ended is told, unless the disk failed: then nothing more is.
abbrev pub IsHostEndTold : (faulted : Bool) → (versions commits : ℕ) → ServingEnd → Status → (old new : Option (List ℕ)) → (before now : ℕ) → Type 0
IsHostEndTold true versions commits end told old new before now = (told ≡ WriteFault) × (new ≡ old) × (now ≡ before)
IsHostEndTold false versions commits end told old new before now = IsEndTold versions commits end told old new before now
