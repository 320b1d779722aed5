-- Rows for what is answered for a journal, and for how a run on a disk ends. What each word takes, and what it refuses.
use Rattle.std.specs.Prelude.{◌≡◌, ℕ, List, [], ◌∷◌, true, false, map, codes, Option, Some, None, Ok, Err, refl}
use Rattle.std.proofs.Common.{ap, arith, inl, inr, lit≤}
use Rattle.core_terms.specs.Values.{BoolV}
use Rattle.ideal_meaning.specs.Examples.{bool_program}
use Rattle.images.specs.Images.{BadRecord as BadImageRecord}
use Rattle.images.specs.declared.fault.ImageFault.TheVariants as image_fault
use Rattle.lam_outside.specs.Disks.{Moments, settled}
use Rattle.lam_outside.specs.Told.{Contents}
use Rattle.printed_lines.specs.declared.refusal.ImageKind.TheVariants as image
use Rattle.printed_lines.specs.declared.refusal.JournalKind.TheVariants as kind
use Rattle.printed_lines.specs.declared.refusal.ProgramKind.{ProgramKind}
use Rattle.printed_lines.specs.declared.refusal.Refusal.TheVariants.{Program, Proof}
use Rattle.printed_lines.specs.declared.refusal.Rejection.{Rejection}
use Rattle.session_meaning.specs.Server.{Shared}
use Rattle.version_journal.specs.JournalRows.{gated, flip, new_journal, own, true_image}
use Rattle.version_journal.specs.Journals as journals
use Rattle.version_journal.specs.declared.fault.DiskCount.TheVariants.{Reads, Writes}
use Rattle.version_journal.specs.declared.fault.JournalFault.TheVariants as fault
use Rattle.command_parts.specs.Answer.{Founding}
use Rattle.command_parts.specs.AnswerForms.{Answer}
use Rattle.command_parts.specs.Outsides.{Outside}
use Rattle.command_parts.specs.FueledRoles.{DigestedProgram}
use Rattle.command_parts.specs.declared.report.Halt.TheVariants.{Usage, Refused, ReadFault, NoMemory}
use Rattle.command_parts.specs.declared.status.Status.{Status}
use Rattle.command_parts.specs.declared.status.Status.TheVariants as status
use Rattle.journal_commands.specs.DiskCounts.{DiskCountsBy}
use Rattle.journal_commands.specs.DisksSeen.{DiskSeen, FromChosen, WritesNothing, file_in, if_told, with_disk}
use Rattle.journal_commands.specs.Founding.{EndsFounding, LeavesDisk, LeavesFile}
use Rattle.journal_commands.specs.FoundingInCode.{LeavesOn, founding_of}
use Rattle.journal_commands.specs.JournalAnswers.{founded_answer, journal_kind, journal_read, last_of, making_answer, replayed_answer, with_journal, with_kept}
use Rattle.journal_commands.specs.OpenedJournals.{KeepsNow, OpensNamed}
use Rattle.journal_commands.specs.Replaying.{EndsReplaying}
use Rattle.journal_commands.specs.Stops.{DiskCause, WorkCause, of_journal_fault, of_kind}
use Rattle.journal_commands.specs.Works.{FindsKept, FindsMade, StopsAs}
use Rattle.journal_commands.specs.declared.stop.DiskStop.TheVariants.{Halts, WriteFault}

-- the program of the rows on journals, with its digest
abbrev pub digested : DigestedProgram
digested = record { program = bool_program; digest = own }

abbrev pub no_files : Contents
no_files name = None

-- ANSWERS
-- a journal is made in a file without bytes alone, and nothing is told
pub made_in_no_bytes : making_answer [] ≡ record { status = status.Done; lines = []; stored = [] }
made_in_no_bytes = refl

pub a_byte_is_refused : making_answer (0 ∷ []) ≡ record { status = status.InputRefused; lines = codes "input refused: journal not empty\n" ∷ []; stored = [] }
a_byte_is_refused = refl

-- the program's file is judged first
pub no_program : founded_answer (codes "P") (codes "IMG") (0 ∷ []) no_files ≡ None
no_program = refl

pub no_program_to_replay : replayed_answer (codes "P") (codes "OUT") [] no_files ≡ None
no_program_to_replay = refl

-- why a journal is refused
pub kinds_of : map journal_kind (journals.Magic ∷ journals.OtherProgram ∷ journals.Cut 100 ∷ journals.NoImage (BadImageRecord 1) ∷ journals.BadRecord 3 ∷ [])
    ≡ kind.Magic ∷ kind.OtherProgram ∷ kind.Cut 100 ∷ kind.Image (image.BadRecord 1) ∷ kind.BadRecord 3 ∷ []
kinds_of = refl

module _ (go : Shared → Option Answer) where
  pub a_fault_is_told : with_kept (journals.Faulty journals.OtherProgram) go ≡ Some (record { status = status.InputRefused; lines = codes "input refused: journal program\n" ∷ []; stored = [] })
  a_fault_is_told = refl

  -- a journal without bytes doesn't begin as one
  pub no_bytes_are_told : with_journal digested [] go ≡ Some (record { status = status.InputRefused; lines = codes "input refused: journal magic\n" ∷ []; stored = [] })
  unfolding journal_read
  no_bytes_are_told = refl

  -- what is kept is gone on with: the versions and the commits
  pub kept_goes_on : with_journal digested new_journal go ≡ go (record { versions = BoolV true ∷ []; commits = [] })
  unfolding journal_read
  kept_goes_on = refl

  pub commits_go_on : with_journal digested (gated 1) go ≡ go (record { versions = BoolV true ∷ BoolV false ∷ []; commits = flip ∷ [] })
  unfolding journal_read
  commits_go_on = refl

pub the_last : last_of (record { versions = BoolV true ∷ BoolV false ∷ []; commits = flip ∷ [] }) ≡ BoolV false
the_last = refl

-- STOPS
pub stops_of : map of_journal_fault (fault.NotEmpty ∷ fault.Cut 100 ∷ fault.Image (image_fault.BadRecord 1) ∷ fault.DiskFault Reads ∷ fault.DiskFault Writes ∷ fault.Failed ∷ fault.NoMemory ∷ [])
    ≡ of_kind kind.NotEmpty ∷ of_kind (kind.Cut 100) ∷ of_kind (kind.Image (image.BadRecord 1)) ∷ Halts ReadFault ∷ WriteFault ∷ WriteFault ∷ Halts NoMemory ∷ []
stops_of = refl

-- the count of reads rises at a read fault, that of writes at a write fault, and neither elsewhere
pub causes : DiskCause {T = ℕ} 0 0 0 0 (Ok 7) × DiskCause {T = ℕ} 0 1 0 0 (Err (Halts ReadFault)) × DiskCause {T = ℕ} 0 0 0 1 (Err WriteFault) × DiskCause {T = ℕ} 0 0 0 0 (Err (Halts NoMemory))
causes = ((refl, refl), (lit≤ tt, refl), (lit≤ tt, refl), (refl, refl))

pub no_causes : (rejection : Rejection) → (DiskCause {T = ℕ} 0 0 0 0 (Err (Halts ReadFault)) → ⊥) × (DiskCause {T = ℕ} 0 1 0 1 (Err WriteFault) → ⊥) × (DiskCause {T = ℕ} 0 0 0 0 (Err (Halts Usage)) → ⊥)
    × (DiskCause {T = ℕ} 0 0 0 0 (Err (Halts (Refused (Proof rejection)))) → ⊥)
no_causes rejection = ((λ c. let rose = c.0 in omega (arith, rose)), (λ c. let same = c.1 in omega (arith, same)), (λ c. c), (λ c. c))

-- a read fault is one of the files or of the disk
pub of_either : WorkCause {T = ℕ} 0 1 5 5 0 0 (Err (Halts ReadFault)) × WorkCause {T = ℕ} 5 5 0 1 0 0 (Err (Halts ReadFault)) × WorkCause {T = ℕ} 5 5 0 0 0 1 (Err WriteFault)
of_either = ((inl (lit≤ tt, refl), refl), (inr (refl, lit≤ tt), refl), (refl, refl, lit≤ tt))

of_neither : WorkCause {T = ℕ} 0 0 0 0 0 0 (Err (Halts ReadFault)) → ⊥
of_neither (inl (rose, same), kept) = omega (arith, rose)
of_neither (inr (same, rose), kept) = omega (arith, rose)

pub no_work_causes : (WorkCause {T = ℕ} 0 0 0 0 0 0 (Err (Halts ReadFault)) → ⊥) × (WorkCause {T = ℕ} 0 1 0 0 0 0 (Ok 7) → ⊥) × (WorkCause {T = ℕ} 0 0 0 0 0 0 (Err WriteFault) → ⊥)
no_work_causes = (of_neither, (λ c. let same = c.0 in omega (arith, same)), (λ c. let rose = c.2 in omega (arith, rose)))

-- DISKS
pub files_on : (file_in None (codes "J") ≡ []) × (file_in (Some no_files) (codes "J") ≡ []) × (file_in (Some (λ name. Some (1 ∷ 2 ∷ []))) (codes "J") ≡ 1 ∷ 2 ∷ [])
files_on = (refl, refl, refl)

pub told_of_both : (if_told {A = ℕ} (Some 1) (Some no_files) ≡ Some no_files) × (if_told {A = ℕ} None (Some no_files) ≡ None) × (if_told {A = ℕ} {B = Contents} (Some 1) None ≡ None)
told_of_both = (refl, refl, refl)

abbrev pub seen : (reads store_faults writes : ℕ) → Outside
seen reads store_faults writes = record { contents = Some no_files; stores = Some []; written = Some []; read_faults = reads; store_faults = store_faults; write_faults = writes }

abbrev pub on_disk : Option Moments → (reads writes : ℕ) → DiskSeen
on_disk moments reads writes = record { contents = Some no_files; moments = moments; read_faults = reads; write_faults = writes }

-- the reads of a disk count as those of files, its writes as those of `store`
pub counts_together : (with_disk (on_disk None 2 3) (seen 5 7 11)).read_faults ≡ 7 × ((with_disk (on_disk None 2 3) (seen 5 7 11)).store_faults ≡ 10)
    × ((with_disk (on_disk None 2 3) (seen 5 7 11)).write_faults ≡ 11)
counts_together = (refl, refl, refl)

-- a count of the disk rises by the status, too
pub counted : DiskCountsBy (seen 0 0 0) (seen 0 0 0) (on_disk None 0 0) (on_disk None 1 0) status.ReadFault × DiskCountsBy (seen 0 0 0) (seen 0 0 0) (on_disk None 0 0) (on_disk None 0 1) status.WriteFault
    × DiskCountsBy (seen 0 0 0) (seen 0 0 0) (on_disk None 0 0) (on_disk None 0 0) status.InputRefused
counted = ((inr (lit≤ tt), refl, refl, refl), inr (inr (lit≤ tt)), (refl, refl, refl, refl, refl))

pub not_counted : (DiskCountsBy (seen 0 0 0) (seen 0 0 0) (on_disk None 0 0) (on_disk None 1 0) status.Done → ⊥) × (DiskCountsBy (seen 0 0 0) (seen 0 0 0) (on_disk None 0 0) (on_disk None 0 1) status.NoMemory → ⊥)
not_counted = ((λ c. let same = c.1 in omega (arith, same)), (λ c. let same = c.2 in omega (arith, same)))

-- WHAT IS LEFT
abbrev pub founding : Founding
founding = founding_of digested true_image

-- a journal is made of no file that has bytes, and of none that wasn't chosen
pub made_of_no_bytes : (new : Moments) → (LeavesFile founding status.Done [] new → ⊥) × (LeavesFile founding status.Done (settled (1 ∷ []) ∷ []) new → ⊥)
made_of_no_bytes new = ((λ l. l.0), (λ l. let none = l.0 in omega (arith, none)))

-- a file that is refused stays, and so does one with bytes where the disk could not be written; of one without nothing is said
pub files_stay : LeavesFile founding status.InputRefused (settled (1 ∷ []) ∷ []) (settled (1 ∷ []) ∷ []) × ((new : Moments) → LeavesFile founding status.WriteFault (settled [] ∷ []) new)
files_stay = (refl, (λ new some. absurd (omega (arith, some))))

-- what the file reads at the last moment
abbrev pub last_reads : Moments → List ℕ
last_reads [] = []
last_reads (file ∷ past) = file.reads

pub files_change_not : (LeavesFile founding status.InputRefused (settled (1 ∷ []) ∷ []) (settled [] ∷ []) → ⊥) × (LeavesFile founding status.WriteFault (settled (1 ∷ []) ∷ []) (settled [] ∷ []) → ⊥)
files_change_not = ((λ same. let reads = ap last_reads same in cc (reads)), (λ stays. let reads = ap last_reads (stays (lit≤ tt)) in cc (reads)))

-- where a disk tells its files, the one that was chosen is told from then on
pub chosen_is_told : (P : Moments → Moments → Type 0) → FromChosen (codes "J") (on_disk None 0 0) (on_disk None 0 0) P → ⊥
chosen_is_told P (None, (file, is, reads), told) = cc (is)
chosen_is_told P (Some [], (file, is, reads), told) = cc (is)
chosen_is_told P (Some (file ∷ past), chooses, (now, is, holds)) = cc (is)

pub nothing_chosen : LeavesDisk founding (codes "J") (on_disk None 0 0) (on_disk None 1 0) status.ReadFault × LeavesOn founding (codes "J") (on_disk None 0 0) (on_disk None 1 0) (Err (Halts ReadFault))
    × WritesNothing (codes "J") (on_disk None 0 0) (on_disk None 1 0)
nothing_chosen = (inl refl, inl refl, inl refl)

-- RUNS
-- no other number of texts
pub no_texts : (disk : DiskSeen) → (EndsFounding [] (seen 0 0 0) (seen 0 0 0) disk disk status.Done → ⊥) × (EndsReplaying (codes "P" ∷ []) (seen 0 0 0) (seen 0 0 0) disk disk status.Done → ⊥)
no_texts disk = ((λ h. h), (λ h. h))

-- what the work finds
pub found_so : FindsMade (Some (making_answer [])) (Ok tt) × FindsMade (Some (making_answer (1 ∷ []))) (Err (of_kind kind.NotEmpty)) × StopsAs None WriteFault × StopsAs None (Halts ReadFault)
found_so = (refl, refl, tt, tt)

-- the status of an answer, where there is one
abbrev pub status_in : Option Answer → Option Status
status_in None = None
status_in (Some a) = Some a.status

pub not_found_so : (FindsMade None (Ok tt) → ⊥) × (FindsMade (Some (making_answer [])) (Err (of_kind kind.NotEmpty)) → ⊥) × (FindsKept (codes "OUT") None (Err (of_kind kind.Magic)) → ⊥)
not_found_so = ((λ e. cc (e)), (λ e. let told : Some status.Done ≡ Some status.InputRefused = ap status_in e in cc (told)), (λ e. cc (e)))

-- a file without bytes keeps nothing, and where a disk tells its files a halt is that of the journal
pub keeps_nothing : (kept : Shared) → KeepsNow digested true_image kept (settled []) → ⊥
keeps_nothing kept keeps = let holds = keeps.holds in cc (holds)

pub halts_as_the_journal : (k : ProgramKind) → OpensNamed digested (codes "J") (on_disk None 0 0) (on_disk None 0 0) (Err (Halts (Refused (Program k 1 1)))) → ⊥
unfolding journal_read
halts_as_the_journal k opens = let told : Some status.InputRefused ≡ Some status.ProgramRefused = ap status_in (opens no_files refl (λ kept. None)) in cc (told)
