-- A run of words, by whether they call a command on the net or on a disk.
use Rattle.std.proofs.Common.{◌≡◌, ◌⊎◌, ◌↔◌, ◌<◌, ◌-◌, ◌^◌, ℕ, List, Option, Some, None, inl, inr, sym, ap, subst}
use Rattle.std.specs.Option.{ForSome}
use Rattle.command_words.specs.Invocations.{Invocation, invocation_of}
use Rattle.command_words.specs.declared.command.Command.{Command}
use Rattle.command_words.specs.declared.command.Command.TheVariants.{Ask, Draw, Found, Host, Mirror, Replay, Serve}
use Rattle.lam_outside.specs.Causes.{Rose}
use Rattle.lam_outside.specs.Told.{Contents, Names}
use Rattle.command_parts.specs.Answer.{answer, answer_with, called_answer}
use Rattle.command_parts.specs.AnswerForms.{Answer}
use Rattle.command_parts.specs.RefusedAnswers.{usage_answer}
use Rattle.command_parts.specs.Codes.{code}
use Rattle.command_parts.specs.Ending.{EndsAs}
use Rattle.command_parts.specs.Outsides.{Outside}
use Rattle.command_parts.specs.Reaching.{IsReached}
use Rattle.command_parts.specs.ReachingInCode.{ReachedAt}
use Rattle.call_commands.specs.TrueFetches.{IsTrueFetch}
use Rattle.call_commands.specs.TrueLines.{IsTrueLine}
use Rattle.command_parts.specs.declared.status.Status.{Status}
use Rattle.command_parts.specs.declared.status.Status.TheVariants as status
use Rattle.journal_commands.specs.DisksSeen.{DiskSeen}
use Rattle.auth_cli.specs.NetRuns.{DialsNone, IfCalled, IsOfFiles, IsOffline, ListensToNone}
use Rattle.auth_cli.specs.RunsInCode.{EndsCommand, EndsRun, IsReadFaultAt}
use Rattle.net_commands.specs.OnlineRuns.{NetSeen}
use Rattle.auth_cli.proofs.Answered.{no_rise}
use Rattle.auth_cli.proofs.RunCounts.{AreBelow, ReadsRose, RunCounts, WritesRose, counts_fault, counts_rose, counts_writes, of_answer, of_disk, of_host, of_net}
use Rattle.auth_cli.proofs.TrueFetch.{true_fetch}
use Rattle.auth_cli.proofs.TrueLine.{true_line}

module _ (texts : List (List ℕ)) (old new : Outside) (net net' : NetSeen) (disk disk' : DiskSeen) (ended : Status) where
  -- a command of files ends by its answer
  command_offline : (command : Command) → IsOfFiles command → EndsCommand command texts old new net net' disk disk' ended → EndsAs (answer_with command texts) old new ended
  command_offline Serve offline ends = absurd offline.0
  command_offline Ask offline ends = absurd offline.0
  command_offline Mirror offline ends = absurd offline.0
  command_offline Draw offline ends = absurd offline.0
  command_offline Host offline ends = absurd offline.0
  command_offline Found offline ends = absurd offline.1
  command_offline Replay offline ends = absurd offline.1
  command_offline command offline ends = ends.0

-- ---- runs

-- what words call uses files alone, where this is called
pub called_offline : (found : Option Invocation) (called : Invocation) → found ≡ Some called → IsOfFiles called.command → IsOffline found
called_offline found called is offline = subst IsOffline (sym is) offline

pub command_is_offline : (found : Option Invocation) (called : Invocation) (command : Command) → found ≡ Some called → called.command ≡ command → IsOfFiles command → IsOffline found
command_is_offline found called command is same offline = called_offline found called is (subst IsOfFiles (sym same) offline)

module _ (old new : Outside) (net net' : NetSeen) (disk disk' : DiskSeen) (ended : Status) where
  -- an offline run ends by the answer to its words
  pub run_offline : (words : List (List ℕ)) → IsOffline (invocation_of words) → EndsRun (invocation_of words) old new net net' disk disk' ended → EndsAs (answer words) old new ended
  unfolding answer
  run_offline words offline ends = by (invocation_of words) offline ends
    where
      by : (found : Option Invocation) → IsOffline found → EndsRun found old new net net' disk disk' ended → EndsAs (called_answer found) old new ended
      by None offline ends = ends.0
      by (Some called) offline ends = command_offline called.texts old new net net' disk disk' ended called.command offline ends

  -- and a run that calls a command as that command does
  pub run_calls : (command : Command) (found : Option Invocation) (called : Invocation) → found ≡ Some called → called.command ≡ command → EndsRun found old new net net' disk disk' ended
      → EndsCommand command called.texts old new net net' disk disk' ended
  run_calls command found called is same ends =
      let run = subst (λ (found : Option Invocation). EndsRun found old new net net' disk disk' ended) is ends in
      subst (λ (command : Command). EndsCommand command called.texts old new net net' disk disk' ended) same run

  pub run_called : (words : List (List ℕ)) (called : Invocation) → invocation_of words ≡ Some called
      → EndsCommand called.command called.texts old new net net' disk disk' ended → EndsRun (invocation_of words) old new net net' disk disk' ended
  run_called words called is ends = subst (λ (found : Option Invocation). EndsRun found old new net net' disk disk' ended) (sym is) ends

  -- one of refused words
  pub run_refused : (words : List (List ℕ)) → invocation_of words ≡ None → EndsAs (λ files. Some usage_answer) old new ended → net' ≡ net → disk' ≡ disk
      → EndsRun (invocation_of words) old new net net' disk disk' ended
  run_refused words is ends same same' = subst (λ (found : Option Invocation). EndsRun found old new net net' disk disk' ended) (sym is) (ends, same, same')

-- ---- counts

module _ (old new : Outside) (net net' : NetSeen) (disk disk' : DiskSeen) where
  abbrev Counted : Status → Type 0
  Counted ended = RunCounts old new net.faults net'.faults disk disk' ended

  abbrev AnyRead : Type 0
  AnyRead = ReadsRose old new net.faults net'.faults disk disk'

  abbrev AnyWrite : Type 0
  AnyWrite = WritesRose old new net.faults net'.faults disk disk'

  same_net : net' ≡ net → net'.faults ≡ net.faults
  same_net same = ap (λ (n : NetSeen). n.faults) same

  command_counted : (command : Command) (texts : List (List ℕ)) (ended : Status) → EndsCommand command texts old new net net' disk disk' ended → Counted ended
  command_counted Serve texts ended ends = of_net old new net.faults net'.faults disk disk' ended ends.1.by_status ends.2
  command_counted Ask texts ended ends = of_net old new net.faults net'.faults disk disk' ended ends.1.by_status ends.2
  command_counted Mirror texts ended ends = of_net old new net.faults net'.faults disk disk' ended ends.1.by_status ends.2
  command_counted Draw texts ended ends = of_net old new net.faults net'.faults disk disk' ended ends.1.by_status ends.2
  command_counted Host texts ended ends = of_host old new net.faults net'.faults disk disk' ended ends.1
  command_counted Found texts ended ends = of_disk old new net.faults net'.faults disk disk' ended ends.1 (same_net ends.2)
  command_counted Replay texts ended ends = of_disk old new net.faults net'.faults disk disk' ended ends.1 (same_net ends.2)
  command_counted command texts ended ends = of_answer old new net.faults net'.faults disk disk' (answer_with command texts) ended ends.0 (same_net ends.1) ends.2

  counted : (found : Option Invocation) (ended : Status) → EndsRun found old new net net' disk disk' ended → Counted ended
  counted None ended ends = of_answer old new net.faults net'.faults disk disk' (λ files. Some usage_answer) ended ends.0 (same_net ends.1) ends.2
  counted (Some called) ended ends = command_counted called.command called.texts ended ends

  -- 8 only where a count of reading or of the net rose
  pub run_fault : (found : Option Invocation) (ended : Status) → EndsRun found old new net net' disk disk' ended → code ended ≡ 8 → AnyRead
  run_fault found ended ends is = counts_fault old new net.faults net'.faults disk disk' ended (counted found ended ends) is

  -- and there, 9 and 10 aside
  pub run_rose : old.read_faults < 2 ^ 64 - 1 → AreBelow net.faults → disk.read_faults < 2 ^ 64 - 1 → (found : Option Invocation) (ended : Status)
      → EndsRun found old new net net' disk disk' ended → AnyRead → (code ended ≡ 8) ⊎ ((code ended ≡ 9) ⊎ (code ended ≡ 10))
  run_rose reads below disk_reads found ended ends rose =
      counts_rose old new net.faults net'.faults disk disk' reads below disk_reads ended (counted found ended ends) rose

  -- 9 exactly where the count of the sink, of `store` or of writing the disk rose
  pub run_writes : old.write_faults < 2 ^ 64 - 1 → old.store_faults < 2 ^ 64 - 1 → disk.write_faults < 2 ^ 64 - 1 → (found : Option Invocation) (ended : Status)
      → EndsRun found old new net net' disk disk' ended → (code ended ≡ 9) ↔ AnyWrite
  run_writes writes stores disk_writes found ended ends =
      counts_writes old new net.faults net'.faults disk disk' writes stores disk_writes ended (counted found ended ends)

  -- `ask` and `draw` alone dial
  dials_as_before : net' ≡ net → net'.faults.dials ≡ net.faults.dials
  dials_as_before same = ap (λ (n : NetSeen). n.faults.dials) same

  command_dials : (command : Command) (texts : List (List ℕ)) (ended : Status) → DialsNone command → EndsCommand command texts old new net net' disk disk' ended
      → net'.faults.dials ≡ net.faults.dials
  command_dials Ask texts ended none ends = absurd none
  command_dials Draw texts ended none ends = absurd none
  command_dials Serve texts ended none ends = ends.1.dials
  command_dials Mirror texts ended none ends = ends.1.dials
  command_dials Host texts ended none ends = ends.1.dials
  command_dials Found texts ended none ends = dials_as_before ends.2
  command_dials Replay texts ended none ends = dials_as_before ends.2
  command_dials command texts ended none ends = dials_as_before ends.1

  pub run_dials : (found : Option Invocation) (ended : Status) → IfCalled DialsNone found → EndsRun found old new net net' disk disk' ended → net'.faults.dials ≡ net.faults.dials
  run_dials None ended none ends = dials_as_before ends.1
  run_dials (Some called) ended none ends = command_dials called.command called.texts ended none ends

  -- `serve`, `mirror` and `host` alone listen, and accept
  abbrev Listens : Type 0
  Listens = (net'.faults.listens ≡ net.faults.listens) × (net'.faults.accepts ≡ net.faults.accepts)

  listens_as_before : net' ≡ net → Listens
  listens_as_before same = (ap (λ (n : NetSeen). n.faults.listens) same, ap (λ (n : NetSeen). n.faults.accepts) same)

  command_listens : (command : Command) (texts : List (List ℕ)) (ended : Status) → ListensToNone command → EndsCommand command texts old new net net' disk disk' ended → Listens
  command_listens Serve texts ended none ends = absurd none
  command_listens Mirror texts ended none ends = absurd none
  command_listens Host texts ended none ends = absurd none
  command_listens Ask texts ended none ends = (ends.1.listens, ends.1.accepts)
  command_listens Draw texts ended none ends = (ends.1.listens, ends.1.accepts)
  command_listens Found texts ended none ends = listens_as_before ends.2
  command_listens Replay texts ended none ends = listens_as_before ends.2
  command_listens command texts ended none ends = listens_as_before ends.1

  pub run_listens : (found : Option Invocation) (ended : Status) → IfCalled ListensToNone found → EndsRun found old new net net' disk disk' ended → Listens
  run_listens None ended none ends = listens_as_before ends.1
  run_listens (Some called) ended none ends = command_listens called.command called.texts ended none ends

-- ---- the headline, and read faults

module _ (line : List (List ℕ)) (old new : Outside) (net net' : NetSeen) (disk disk' : DiskSeen) (ended : Status) (ends : EndsRun (invocation_of line) old new net net' disk disk' ended) where
  by_answer : (called : Invocation) → invocation_of line ≡ Some called → IsOfFiles called.command → EndsAs (answer line) old new ended
  by_answer called is offline = run_offline old new net net' disk disk' ended line (called_offline (invocation_of line) called is offline) ends

  -- a run of words that call `verify` is offline
  pub true_run : ForSome old.contents (λ files. IsTrueLine line files old new (code ended))
  true_run files known r state argument proof out calls tells = true_line line old new ended (by_answer _ calls.words (tt, tt)) files known r state argument proof out calls tells

  -- and so is one of words that call `fetch`
  pub fetched_run : ForSome old.contents (λ files. IsTrueFetch line files old new (code ended))
  fetched_run files known r state argument pieces calls tells = true_fetch line old new ended (by_answer _ calls.words (tt, tt)) files known r state argument pieces calls tells

-- what is said of a read fault of a command that is known
pub online_read : (command known : Command) (texts : List (List ℕ)) (contents : Option Contents) (asked : Option Names) (before now : ℕ) (ended : Status) → command ≡ known
    → (now ≡ before) ⊎ IsReached (answer_with known texts) contents asked → IsReadFaultAt (answer_with command texts) contents asked before now ended
online_read command known texts contents asked before now ended is_known reached is =
    subst (λ (command : Command). (now ≡ before) ⊎ IsReached (answer_with command texts) contents asked) (sym is_known) reached

module _ (answer : Contents → Option Answer) (contents : Option Contents) (asked : Option Names) (before now : ℕ) (ended : Status) where
  -- what is said of a read fault, where each file but the one asked for last was read
  pub reached_offline : ReachedAt ended answer contents asked → IsReadFaultAt answer contents asked before now ended
  reached_offline reached is = inr (reached is)

  pub reached_by : (found : Contents → Option Answer) → (IsReached found contents asked → IsReached answer contents asked) → IsReadFaultAt found contents asked before now ended
      → IsReadFaultAt answer contents asked before now ended
  reached_by found goes reached is = elim (reached is) [
    | inl same ↦ inl same
    | inr reached ↦ inr (goes reached)
  ]

  pub reached_risen : before < 2 ^ 64 - 1 → IsReadFaultAt answer contents asked before now ended → ended ≡ status.ReadFault → Rose before now → IsReached answer contents asked
  reached_risen below reached is rose = elim (reached is) [
    | inl same ↦ absurd (no_rise below same rose)
    | inr reached ↦ reached
  ]
