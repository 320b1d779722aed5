-- How the faults of a journal end the work of a command, and which counts of faults rose.
use Rattle.std.specs.Prelude.{◌≡◌, ◌⊎◌, ℕ, Option, Some, None, Result, Ok, Err}
use Rattle.command_parts.specs.Halting.{image_kind}
use Rattle.command_parts.specs.declared.report.Halt.TheVariants.{Usage, Refused, ReadFault, NoMemory}
use Rattle.images.specs.declared.fault.ImageFault.{ImageFault}
use Rattle.lam_outside.specs.Causes.{Rose}
use Rattle.printed_lines.specs.declared.refusal.ImageKind.{ImageKind}
use Rattle.printed_lines.specs.declared.refusal.InputFault.TheVariants as input_fault
use Rattle.printed_lines.specs.declared.refusal.JournalKind.{JournalKind}
use Rattle.printed_lines.specs.declared.refusal.JournalKind.TheVariants as kind
use Rattle.printed_lines.specs.declared.refusal.Refusal.TheVariants as refusal
use Rattle.version_journal.specs.declared.fault.DiskCount.TheVariants.{Reads, Writes}
use Rattle.version_journal.specs.declared.fault.JournalFault.{JournalFault}
use Rattle.version_journal.specs.declared.fault.JournalFault.TheVariants as fault
use Rattle.journal_commands.specs.declared.stop.DiskStop.{DiskStop}
use Rattle.journal_commands.specs.declared.stop.DiskStop.TheVariants.{Halts, WriteFault}

-- the journal is refused
abbrev pub of_kind : JournalKind → DiskStop
of_kind k = Halts (Refused (refusal.Input (input_fault.Journal k)))

-- its image is, or memory was wanting for it
abbrev pub of_image_kind : Option ImageKind → DiskStop
of_image_kind (Some image) = of_kind (kind.Image image)
of_image_kind None = Halts NoMemory

abbrev pub of_image_fault : ImageFault → DiskStop
of_image_fault fault = of_image_kind (image_kind fault)

abbrev pub of_journal_fault : JournalFault → DiskStop
of_journal_fault fault.NotEmpty = of_kind kind.NotEmpty
of_journal_fault fault.Magic = of_kind kind.Magic
of_journal_fault (fault.Cut bytes) = of_kind (kind.Cut bytes)
of_journal_fault fault.OtherProgram = of_kind kind.OtherProgram
of_journal_fault (fault.Image refused) = of_image_fault refused
of_journal_fault (fault.BadRecord number) = of_kind (kind.BadRecord number)
of_journal_fault (fault.DiskFault Reads) = Halts ReadFault
of_journal_fault (fault.DiskFault Writes) = WriteFault
of_journal_fault fault.Failed = WriteFault
of_journal_fault fault.NoMemory = Halts NoMemory

-- What the counts of a disk tell of work on it: that of reads rose at a read fault, that of writes at a write fault, and neither elsewhere. No words and
-- no proof are refused by it.
abbrev pub DiskCause : {T : Type 0} → (reads reads' writes writes' : ℕ) → Result T DiskStop → Type 0
DiskCause reads reads' writes writes' (Ok done) = (reads' ≡ reads) × (writes' ≡ writes)
DiskCause reads reads' writes writes' (Err (Halts Usage)) = ⊥
DiskCause reads reads' writes writes' (Err (Halts (Refused (refusal.Proof cause)))) = ⊥
DiskCause reads reads' writes writes' (Err (Halts ReadFault)) = Rose reads reads' × (writes' ≡ writes)
DiskCause reads reads' writes writes' (Err (Halts halt)) = (reads' ≡ reads) × (writes' ≡ writes)
DiskCause reads reads' writes writes' (Err WriteFault) = Rose writes writes' × (reads' ≡ reads)

-- the same of work that reads files before: a read fault is one of these or of the disk
abbrev pub WorkCause : {T : Type 0} → (files files' reads reads' writes writes' : ℕ) → Result T DiskStop → Type 0
WorkCause files files' reads reads' writes writes' (Ok done) = (files' ≡ files) × (reads' ≡ reads) × (writes' ≡ writes)
WorkCause files files' reads reads' writes writes' (Err (Halts Usage)) = ⊥
WorkCause files files' reads reads' writes writes' (Err (Halts (Refused (refusal.Proof cause)))) = ⊥
WorkCause files files' reads reads' writes writes' (Err (Halts ReadFault)) =
    ((Rose files files' × (reads' ≡ reads)) ⊎ ((files' ≡ files) × Rose reads reads')) × (writes' ≡ writes)
WorkCause files files' reads reads' writes writes' (Err (Halts halt)) = (files' ≡ files) × (reads' ≡ reads) × (writes' ≡ writes)
WorkCause files files' reads reads' writes writes' (Err WriteFault) = (files' ≡ files) × (reads' ≡ reads) × Rose writes writes'
