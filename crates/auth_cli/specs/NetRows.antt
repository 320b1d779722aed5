-- Rows for the counts of a run by its status, and for the commands that use a net or a disk. What each word takes, and what it refuses.
use Rattle.std.specs.Prelude.{◌≡◌, ◌⊎◌, ◌≤◌, true, false, ℕ, List, [], ◌∷◌, Option, Some, None, refl}
use Rattle.std.proofs.Common.{arith, ap, inl, inr}
use Rattle.command_words.specs.Invocations.{Invocation}
use Rattle.command_words.specs.declared.command.Command.TheVariants.{Check, Init, Ideal, Step, Shallow, Migrate, Prove, Verify, Audit, Library, Gen, Serve, Ask, Pieces, Fetch, Mirror, Draw, Found, Host, Replay, Emit}
use Rattle.lam_outside.specs.Causes.{Rose}
use Rattle.lam_outside.specs.Told.{Contents, Names}
use Rattle.command_parts.specs.Answer.{answer_with}
use Rattle.command_parts.specs.AnswerForms.{Answer}
use Rattle.command_parts.specs.RefusedAnswers.{usage_answer}
use Rattle.command_parts.specs.Ending.{EndsAs}
use Rattle.command_parts.specs.Outsides.{Outside}
use Rattle.command_parts.specs.Reaching.{IsReached}
use Rattle.net_commands.specs.Asking.{IsAsk}
use Rattle.net_commands.specs.NetCounts.{DialCounts, CountsBy, ListenCounts}
use Rattle.net_commands.specs.CourseRows.{faults, rose}
use Rattle.net_commands.specs.Drawing.{IsDraw}
use Rattle.net_commands.specs.HostCounts.{HostCounts}
use Rattle.net_commands.specs.Hosting.{IsHost}
use Rattle.net_commands.specs.Mirroring.{IsMirror}
use Rattle.net_commands.specs.NetFaults.{NetFaults, NetRose}
use Rattle.auth_cli.specs.NetRuns.{DialsNone, IfCalled, IsOfFiles, IsOffline, ListensToNone, Not, UsesNoDisk, UsesNoNet}
use Rattle.auth_cli.specs.RunsInCode.{EndsCommand, EndsRun, IsReadFaultAt}
use Rattle.net_commands.specs.OnlineRuns.{NetSeen}
use Rattle.net_commands.specs.Serving.{IsServe}
use Rattle.journal_commands.specs.DiskCounts.{DiskCountsBy}
use Rattle.journal_commands.specs.DisksSeen.{DiskSeen}
use Rattle.journal_commands.specs.Founding.{EndsFounding}
use Rattle.journal_commands.specs.Replaying.{EndsReplaying}
use Rattle.command_parts.specs.declared.status.Status.{Status}
use Rattle.command_parts.specs.declared.status.Status.TheVariants.{Done, ReadFault, WriteFault, NoMemory}

-- COUNTS
abbrev pub seen : (read_faults store_faults write_faults : ℕ) → Outside
seen read_faults store_faults write_faults =
    record { contents = None; stores = None; written = None; read_faults = read_faults; store_faults = store_faults; write_faults = write_faults }

abbrev pub still : NetFaults
still = faults 3 3 3 3

pub net_rose : NetRose still (faults 4 3 3 3) × NetRose still (faults 3 4 3 3) × NetRose still (faults 3 3 4 3) × NetRose still (faults 3 3 3 4)
net_rose = (inl rose, inr (inl rose), inr (inr (inl rose)), inr (inr (inr rose)))

pub none_rose : NetRose still still → ⊥
none_rose (inl r) = let k : 4 ≤ 3 = r in omega (arith, k)
none_rose (inr (inl r)) = let k : 4 ≤ 3 = r in omega (arith, k)
none_rose (inr (inr (inl r))) = let k : 4 ≤ 3 = r in omega (arith, k)
none_rose (inr (inr (inr r))) = let k : 4 ≤ 3 = r in omega (arith, k)

-- a read fault is counted by the files or by the net, a write fault by the sink or by `store`; want of memory lets the sink's and the store's stay
pub counts : CountsBy (seen 3 5 6) (seen 4 5 6) still still ReadFault × CountsBy (seen 3 5 6) (seen 3 5 6) still (faults 3 4 3 3) ReadFault × CountsBy (seen 3 5 3) (seen 3 5 4) still still WriteFault
    × CountsBy (seen 3 3 6) (seen 3 4 6) still still WriteFault × CountsBy (seen 3 5 6) (seen 4 5 6) still (faults 4 3 3 3) NoMemory × CountsBy (seen 3 5 6) (seen 3 5 6) still still Done
counts = ((inl rose, refl, refl), (inr (inr (inl rose)), refl, refl), inl rose, inr rose, (refl, refl), (refl, refl, refl, refl))

-- where no count rose there is no fault of either kind; and where one did it isn't done
pub no_read_fault : CountsBy (seen 3 5 6) (seen 3 5 6) still still ReadFault → ⊥
no_read_fault c = by c.0
  where
    by : Rose 3 3 ⊎ NetRose still still → ⊥
    by (inl r) = let k : 4 ≤ 3 = r in omega (arith, k)
    by (inr r) = none_rose r

pub no_write_fault : CountsBy (seen 3 3 3) (seen 4 3 3) still still WriteFault → ⊥
no_write_fault (inl r) = let k : 4 ≤ 3 = r in omega (arith, k)
no_write_fault (inr r) = let k : 4 ≤ 3 = r in omega (arith, k)

pub not_done : CountsBy (seen 3 5 6) (seen 3 5 6) still (faults 3 3 3 4) Done → ⊥
not_done c = let e : 4 ≡ 3 = ap (λ (f : NetFaults). f.dials) c.1 in omega (arith, e)

-- COMMANDS
pub says_not : (Not true → ⊥) × Not false
says_not = ((λ n. n), tt)

pub use_no_net : UsesNoNet Check × UsesNoNet Init × UsesNoNet Ideal × UsesNoNet Step × UsesNoNet Shallow × UsesNoNet Migrate × UsesNoNet Prove × UsesNoNet Verify × UsesNoNet Audit × UsesNoNet Library × UsesNoNet Gen
    × UsesNoNet Pieces × UsesNoNet Fetch × UsesNoNet Found × UsesNoNet Replay × UsesNoNet Emit
use_no_net = (tt, tt, tt, tt, tt, tt, tt, tt, tt, tt, tt, tt, tt, tt, tt, tt)

pub use_a_net : (UsesNoNet Serve → ⊥) × (UsesNoNet Ask → ⊥) × (UsesNoNet Mirror → ⊥) × (UsesNoNet Draw → ⊥) × (UsesNoNet Host → ⊥)
use_a_net = ((λ u. u), (λ u. u), (λ u. u), (λ u. u), (λ u. u))

pub use_no_disk : UsesNoDisk Check × UsesNoDisk Init × UsesNoDisk Ideal × UsesNoDisk Step × UsesNoDisk Shallow × UsesNoDisk Migrate × UsesNoDisk Prove × UsesNoDisk Verify × UsesNoDisk Audit × UsesNoDisk Library
    × UsesNoDisk Gen × UsesNoDisk Pieces × UsesNoDisk Fetch × UsesNoDisk Serve × UsesNoDisk Ask × UsesNoDisk Mirror × UsesNoDisk Draw × UsesNoDisk Emit
use_no_disk = (tt, tt, tt, tt, tt, tt, tt, tt, tt, tt, tt, tt, tt, tt, tt, tt, tt, tt)

pub use_a_disk : (UsesNoDisk Found → ⊥) × (UsesNoDisk Host → ⊥) × (UsesNoDisk Replay → ⊥)
use_a_disk = ((λ u. u), (λ u. u), (λ u. u))

-- either is enough to be no command of files
pub of_files : IsOfFiles Check × IsOfFiles Emit × IsOfFiles Migrate × IsOfFiles Fetch × (IsOfFiles Serve → ⊥) × (IsOfFiles Found → ⊥) × (IsOfFiles Host → ⊥) × (IsOfFiles Replay → ⊥)
of_files = ((tt, tt), (tt, tt), (tt, tt), (tt, tt), (λ o. o.0), (λ o. o.1), (λ o. o.0), (λ o. o.1))

pub dials : DialsNone Serve × DialsNone Mirror × DialsNone Verify × DialsNone Found × DialsNone Host × DialsNone Replay × (DialsNone Ask → ⊥) × (DialsNone Draw → ⊥)
dials = (tt, tt, tt, tt, tt, tt, (λ d. d), (λ d. d))

pub listens : ListensToNone Ask × ListensToNone Draw × ListensToNone Verify × ListensToNone Found × ListensToNone Replay
    × (ListensToNone Serve → ⊥) × (ListensToNone Mirror → ⊥) × (ListensToNone Host → ⊥)
listens = (tt, tt, tt, tt, tt, (λ l. l), (λ l. l), (λ l. l))

-- the same of words that call a command, or none
pub calls : (called : Invocation) → (IsOfFiles called.command → IsOffline (Some called)) × (UsesNoNet called.command → IfCalled UsesNoNet (Some called)) × (UsesNoDisk called.command → IfCalled UsesNoDisk (Some called))
    × (DialsNone called.command → IfCalled DialsNone (Some called)) × (ListensToNone called.command → IfCalled ListensToNone (Some called))
calls called = ((λ o. o), (λ u. u), (λ u. u), (λ d. d), (λ l. l))

pub no_call : IsOffline None × IfCalled UsesNoNet None × IfCalled UsesNoDisk None × IfCalled DialsNone None × IfCalled ListensToNone None
no_call = (tt, tt, tt, tt, tt)

abbrev pub replaying : Invocation
replaying = record { command = Replay; texts = [] }

pub on_a_disk : (IsOffline (Some replaying) → ⊥) × (IfCalled UsesNoDisk (Some replaying) → ⊥) × IfCalled UsesNoNet (Some replaying)
on_a_disk = ((λ o. o.1), (λ u. u), tt)

-- ENDS
module _ (texts : List (List ℕ)) (old new : Outside) (net net' : NetSeen) (disk disk' : DiskSeen) (status : Status) where
  -- each but `host`, `found` and `replay` leaves the disk as it was
  pub ends_serve : IsServe texts old new net net' status → ListenCounts old new net.faults net'.faults status → EndsCommand Serve texts old new net net' disk disk status
  ends_serve is counts = (is, counts, refl)

  pub ends_ask : IsAsk texts old new net net' status → DialCounts old new net.faults net'.faults status → EndsCommand Ask texts old new net net' disk disk status
  ends_ask is counts = (is, counts, refl)

  pub ends_mirror : IsMirror texts old new net net' status → ListenCounts old new net.faults net'.faults status → EndsCommand Mirror texts old new net net' disk disk status
  ends_mirror is counts = (is, counts, refl)

  pub ends_draw : IsDraw texts old new net net' status → DialCounts old new net.faults net'.faults status → EndsCommand Draw texts old new net net' disk disk status
  ends_draw is counts = (is, counts, refl)

  pub ends_host : IsHost texts old new net net' disk disk' status → HostCounts old new net.faults net'.faults disk disk' status → EndsCommand Host texts old new net net' disk disk' status
  ends_host is counts = (is, counts)

  -- these two leave the net
  pub ends_found : EndsFounding texts old new disk disk' status → DiskCountsBy old new disk disk' status → EndsCommand Found texts old new net net disk disk' status
  ends_found ends counts = (ends, counts, refl)

  pub ends_replay : EndsReplaying texts old new disk disk' status → DiskCountsBy old new disk disk' status → EndsCommand Replay texts old new net net disk disk' status
  ends_replay ends counts = (ends, counts, refl)

  -- all others leave both as they were
  pub ends_others : EndsAs (answer_with Verify texts) old new status → EndsCommand Verify texts old new net net disk disk status
  ends_others ends = (ends, refl, refl)

  pub ends_called : (called : Invocation) → EndsCommand called.command called.texts old new net net' disk disk' status → EndsRun (Some called) old new net net' disk disk' status
  ends_called called ends = ends

  pub ends_uncalled : EndsAs (λ files. Some usage_answer) old new status → EndsRun None old new net net disk disk status
  ends_uncalled ends = (ends, refl, refl)

  -- and so it is told
  pub leave_disk : (EndsCommand Serve texts old new net net' disk disk' status → disk' ≡ disk) × (EndsCommand Verify texts old new net net' disk disk' status → disk' ≡ disk)
      × (EndsRun None old new net net' disk disk' status → disk' ≡ disk)
  leave_disk = ((λ ends. ends.2), (λ ends. ends.2), (λ ends. ends.2))

  pub leave_net : (EndsCommand Found texts old new net net' disk disk' status → net' ≡ net) × (EndsCommand Replay texts old new net net' disk disk' status → net' ≡ net)
      × (EndsCommand Verify texts old new net net' disk disk' status → net' ≡ net)
  leave_net = ((λ ends. ends.2), (λ ends. ends.2), (λ ends. ends.1))

-- no command on a disk ends with too few texts, or too many
module _ (a b c d : List ℕ) (old new : Outside) (net net' : NetSeen) (disk disk' : DiskSeen) (status : Status) where
  pub found_takes_three : (EndsCommand Found [] old new net net' disk disk' status → ⊥) × (EndsCommand Found (a ∷ b ∷ []) old new net net' disk disk' status → ⊥)
      × (EndsCommand Found (a ∷ b ∷ c ∷ d ∷ []) old new net net' disk disk' status → ⊥)
  found_takes_three = ((λ ends. ends.0), (λ ends. ends.0), (λ ends. ends.0))

  pub replay_takes_three : (EndsCommand Replay [] old new net net' disk disk' status → ⊥) × (EndsCommand Replay (a ∷ b ∷ []) old new net net' disk disk' status → ⊥)
      × (EndsCommand Replay (a ∷ b ∷ c ∷ d ∷ []) old new net net' disk disk' status → ⊥)
  replay_takes_three = ((λ ends. ends.0), (λ ends. ends.0), (λ ends. ends.0))

  pub host_takes_five : EndsCommand Host (a ∷ b ∷ c ∷ d ∷ []) old new net net' disk disk' status → ⊥
  host_takes_five ends = by ends.0
    where
      by : IsHost (a ∷ b ∷ c ∷ d ∷ []) old new net net' disk disk' status → ⊥
      by (inl unhosted) = unhosted.0
      by (inr hosting) = hosting.of_words

-- where no count rose a read fault is of a reached file
pub read_fault_at : (answer : Contents → Option Answer) (contents : Option Contents) (asked : Option Names) (before now : ℕ) → IsReadFaultAt answer contents asked before now ReadFault
    → (now ≡ before) ⊎ IsReached answer contents asked
read_fault_at answer contents asked before now at = at refl
