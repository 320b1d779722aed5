-- How a run of any words ends, as the functions that carry commands out tell it.
use Rattle.std.specs.Prelude.{◌≡◌, ◌⊎◌, ℕ, List, Option, Some, None}
use Rattle.command_words.specs.Invocations.{Invocation}
use Rattle.command_words.specs.declared.command.Command.{Command}
use Rattle.command_words.specs.declared.command.Command.TheVariants.{Ask, Draw, Found, Host, Mirror, Replay, Serve}
use Rattle.lam_outside.specs.Told.{Contents, Names}
use Rattle.command_parts.specs.Answer.{answer_with}
use Rattle.command_parts.specs.AnswerForms.{Answer}
use Rattle.command_parts.specs.RefusedAnswers.{usage_answer}
use Rattle.command_parts.specs.Ending.{EndsAs}
use Rattle.command_parts.specs.Outsides.{Outside}
use Rattle.command_parts.specs.Reaching.{IsReached}
use Rattle.journal_commands.specs.DiskCounts.{DiskCountsBy}
use Rattle.journal_commands.specs.DisksSeen.{DiskSeen}
use Rattle.journal_commands.specs.Founding.{EndsFounding}
use Rattle.journal_commands.specs.Replaying.{EndsReplaying}
use Rattle.net_commands.specs.Asking.{IsAsk}
use Rattle.net_commands.specs.NetCounts.{DialCounts, ListenCounts}
use Rattle.net_commands.specs.Drawing.{IsDraw}
use Rattle.net_commands.specs.HostCounts.{HostCounts}
use Rattle.net_commands.specs.Hosting.{IsHost}
use Rattle.net_commands.specs.Mirroring.{IsMirror}
use Rattle.net_commands.specs.OnlineRuns.{NetSeen}
use Rattle.net_commands.specs.Serving.{IsServe}
use Rattle.command_parts.specs.declared.status.Status.{Status}
use Rattle.command_parts.specs.declared.status.Status.TheVariants.{ReadFault}

-- The end of a run of a command with these texts behind it: that of a command on the net or on a disk, or that of another one, by its answer; with the
-- net and the disk as they were where it doesn't use them.
abbrev pub EndsCommand : Command → List (List ℕ) → (old new : Outside) → (net net' : NetSeen) → (disk disk' : DiskSeen) → Status → Type 0
EndsCommand Serve texts old new net net' disk disk' status =
    IsServe texts old new net net' status × ListenCounts old new net.faults net'.faults status × (disk' ≡ disk)
EndsCommand Ask texts old new net net' disk disk' status =
    IsAsk texts old new net net' status × DialCounts old new net.faults net'.faults status × (disk' ≡ disk)
EndsCommand Mirror texts old new net net' disk disk' status =
    IsMirror texts old new net net' status × ListenCounts old new net.faults net'.faults status × (disk' ≡ disk)
EndsCommand Draw texts old new net net' disk disk' status =
    IsDraw texts old new net net' status × DialCounts old new net.faults net'.faults status × (disk' ≡ disk)
EndsCommand Host texts old new net net' disk disk' status =
    IsHost texts old new net net' disk disk' status × HostCounts old new net.faults net'.faults disk disk' status
EndsCommand Found texts old new net net' disk disk' status =
    EndsFounding texts old new disk disk' status × DiskCountsBy old new disk disk' status × (net' ≡ net)
EndsCommand Replay texts old new net net' disk disk' status =
    EndsReplaying texts old new disk disk' status × DiskCountsBy old new disk disk' status × (net' ≡ net)
EndsCommand command texts old new net net' disk disk' status =
    EndsAs (answer_with command texts) old new status × (net' ≡ net) × (disk' ≡ disk)

-- the same of words that call it, or that call no command
abbrev pub EndsRun : Option Invocation → (old new : Outside) → (net net' : NetSeen) → (disk disk' : DiskSeen) → Status → Type 0
EndsRun None old new net net' disk disk' status = EndsAs (λ files. Some usage_answer) old new status × (net' ≡ net) × (disk' ≡ disk)
EndsRun (Some called) old new net net' disk disk' status = EndsCommand called.command called.texts old new net net' disk disk' status

-- where it ended in a fault, each file was read, or the one that was asked for last is one that the order of refusals had reached
abbrev pub IsReadFaultAt : (Contents → Option Answer) → Option Contents → Option Names → (before now : ℕ) → Status → Type 0
IsReadFaultAt answer contents asked before now status = status ≡ ReadFault → (now ≡ before) ⊎ IsReached answer contents asked
