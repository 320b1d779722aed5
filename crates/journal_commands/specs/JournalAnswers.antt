-- What is answered for a journal, by the bytes of its file.
use Rattle.std.specs.Prelude.{◌-◌, ℕ, List, [], ◌∷◌, length, Option, Some}
use Rattle.core_terms.specs.Values.{Value}
use Rattle.lam_outside.specs.Told.{Contents}
use Rattle.printed_lines.specs.Lines.{versions_line}
use Rattle.printed_lines.specs.declared.refusal.InputFault.TheVariants.{Journal as BadJournal}
use Rattle.printed_lines.specs.declared.refusal.JournalKind.{JournalKind}
use Rattle.printed_lines.specs.declared.refusal.JournalKind.TheVariants as kind
use Rattle.session_meaning.specs.Server.{Shared, version_at}
use Rattle.version_journal.specs.Journals.{Faulty, Holds, Journal, JournalFault, journal_of}
use Rattle.version_journal.specs.Journals as journals
use Rattle.command_parts.specs.Answer.{with_founding}
use Rattle.command_parts.specs.OutcomeAnswers.{storing}
use Rattle.command_parts.specs.FileInputs.{image_kind, with_program_file}
use Rattle.command_parts.specs.AnswerForms.{Answer, says}
use Rattle.command_parts.specs.RefusedAnswers.{input_refused}
use Rattle.command_parts.specs.FueledRoles.{DigestedProgram}
use Rattle.command_parts.specs.declared.status.Status.TheVariants.{Done}

-- why the bytes of a journal are refused
abbrev pub journal_kind : JournalFault → JournalKind
journal_kind journals.Magic = kind.Magic
journal_kind journals.OtherProgram = kind.OtherProgram
journal_kind (journals.Cut bytes) = kind.Cut bytes
journal_kind (journals.NoImage fault) = kind.Image (image_kind fault)
journal_kind (journals.BadRecord number) = kind.BadRecord number

-- bytes as a journal of a program
unfoldable pub journal_read : DigestedProgram → List ℕ → Journal
journal_read p bytes = journal_of p.program p.digest bytes

-- goes on with the versions and the commits that a journal keeps, and with those in bytes
abbrev pub with_kept : Journal → (Shared → Option Answer) → Option Answer
with_kept (Holds versions commits) go = go (record { versions = versions; commits = commits })
with_kept (Faulty fault) go = Some (input_refused (BadJournal (journal_kind fault)))

abbrev pub with_journal : DigestedProgram → List ℕ → (Shared → Option Answer) → Option Answer
with_journal p bytes go = with_kept (journal_read p bytes) go

-- what is answered for a journal that is to be made, by the bytes that its file has before
abbrev pub making_answer : List ℕ → Answer
making_answer [] = record { status = Done; lines = []; stored = [] }
making_answer (b ∷ bytes) = input_refused (BadJournal kind.NotEmpty)

-- `found P IMG JOURNAL`: a journal of the image, without commits
abbrev pub founded_answer : (program image : List ℕ) → (before : List ℕ) → Contents → Option Answer
founded_answer program image before files = with_founding program image files (λ f. Some (making_answer before))

-- the last version
abbrev pub last_of : Shared → Value
last_of kept = version_at kept.versions (length kept.versions - 1)

-- what is answered for the versions and commits of a journal: how many they are, with the image of the last version stored under a name
abbrev pub last_answer : DigestedProgram → Shared → List ℕ → Answer
last_answer p kept name = storing p (last_of kept) name (says Done (versions_line (length kept.versions) (length kept.commits)))

-- `replay P JOURNAL OUT`: the last version that the journal keeps
abbrev pub replayed_answer : (program out : List ℕ) → (journal : List ℕ) → Contents → Option Answer
replayed_answer program out journal files =
    with_program_file (files program) (λ p. with_journal p.digested journal (λ kept. Some (last_answer p.digested kept out)))
