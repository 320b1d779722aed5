-- The steps of `mirror` from `listen` on: what they leave, and how much of it was told.
use Rattle.std.specs.Prelude.{ℕ, List, codes, Option}
use Rattle.std.specs.List.{concat}
use Rattle.lam_outside.specs.Links.{Linked}
use Rattle.link_ends.specs.declared.end.ServingEnd.{ServingEnd}
use Rattle.link_ends.specs.declared.end.ServingEnd.TheVariants as end
use Rattle.command_parts.specs.Answer.{Mirroring}
use Rattle.command_parts.specs.Telling.{TellsText}
use Rattle.command_parts.specs.declared.status.Status.{Status}
use Rattle.command_parts.specs.declared.status.Status.TheVariants.{NoMemory}
use Rattle.net_commands.specs.Courses.{Course, HasMadeLinks, Served, course_status, fault_lines}
use Rattle.net_commands.specs.Mirroring.{AnswersOn, HasMirrored, IsMirroringTold}
use Rattle.net_commands.specs.OnlineRuns.{NetSeen}

-- the links on which a mirror answered, where those behind it are told
abbrev pub HasAnswered : Mirroring → Course → Option (List Linked) → (after : List Linked) → (accepts accepts' : ℕ) → Type 0
HasAnswered m course links after accepts accepts' = HasMadeLinks (λ made. AnswersOn m course made accepts accepts') m.port links after

-- it went some course, which was told
pub record TellsMirroring (m : Mirroring) (net net' : NetSeen) (told : Status) (old new : Option (List ℕ)) (before now : ℕ) : Type 0 where
  pub course : Course
  pub gone : HasMirrored m net net' course
  pub is_told : IsMirroringTold m.port course told old new before now

-- How the connections ended is told: a fault, else nothing; or the want of memory.
abbrev pub IsEndTold : ServingEnd → Status → (old new : Option (List ℕ)) → (before now : ℕ) → Type 0
IsEndTold (end.Served faulted) told old new before now = TellsText (course_status (Served faulted)) (concat (fault_lines faulted)) told old new before now
IsEndTold end.Stopped told old new before now = TellsText NoMemory (codes "no memory\n") told old new before now
