use Rattle.std.proofs.Common.{ℕ, List, Option, Some, None, Err, refl, ap, ◌∙◌}
use Rattle.code_gen.specs.Programs.{program_in}
use Rattle.session_meaning.specs.Server.{Shared}
use Rattle.command_parts.specs.UnansweredInCode.{unreplayed_answer}
use Rattle.command_parts.specs.FileInputs.{with_program_file}
use Rattle.command_parts.specs.AnswerForms.{Answer}
use Rattle.command_parts.specs.FueledRoles.{DigestedProgram, NamedProgram}
use Rattle.command_parts.specs.ReadPrograms.{digested_of}
use Rattle.command_parts.proofs.Reached.{is_missing}
use Rattle.command_parts.proofs.Steps.{hand_cause, hand_found}
use Rattle.journal_commands.specs.DisksSeen.{disk_seen, file_in}
use Rattle.journal_commands.specs.JournalAnswers.{last_answer, replayed_answer, with_journal}
use Rattle.journal_commands.specs.declared.stop.DiskStop.TheVariants.{Halts}
use Rattle.journal_commands.proofs.CountsOnDisk.{halted_at}
use Rattle.journal_commands.proofs.JournalsOpened.{named_stops, output_kept, stopped_kept}
use Rattle.journal_commands.proofs.StopCauses.{halt_cause, is_err}
use Rattle.journal_commands.proofs.ToldMoments.{disk_told, files_told}
use Rattle.journal_commands.proofs.replay.find_last.Goals as goal

-- what stands behind the journal, and behind the program
abbrev behind_journal : DigestedProgram → (name : List ℕ) → Shared → Option Answer
behind_journal p name kept = Some (last_answer p kept name)

abbrev behind_program : (name bytes : List ℕ) → NamedProgram → Option Answer
behind_program name bytes p = with_journal p.digested bytes (behind_journal p.digested name)

pub returns-in_err-code-clause-finds : goal.returns-in_err-code-clause-finds
returns-in_err-code-clause-finds g c = λ name told known.
    let bytes = file_in (g.D.Disk.contents c.args.disk.now) c.args.journal.now in
    stopped_kept name (replayed_answer c.args.program.now name bytes told) _ c.from_residual.result refl (Halts c.in_err-code.field-0.0) (is_err c.from_residual.result _ c.from_residual.ensures.1)
    (c.in_err-code.ensures.goes told (files_told _ _ told known) (behind_program name bytes))

pub returns-in_err-opened-clause-finds : goal.returns-in_err-opened-clause-finds
returns-in_err-opened-clause-finds g c = λ name told known.
    let on = disk_seen g.D.Disk.contents g.D.Disk.moments g.D.Disk.read_faults g.D.Disk.write_faults in
    let p = digested_of (program_in c.in_ok-code.code) in
    let journal = c.args.journal.now in
    let disk = disk_told _ _ told known in
    let bytes = file_in (g.D.Disk.contents c.args.disk.now) journal in
    let residual = c.from_residual-in_err-opened in
    stopped_kept name (replayed_answer c.args.program.now name bytes told) (with_journal p (file_in (Some disk.0) journal) (behind_journal p name)) residual.result
    (c.in_ok-code.ensures.goes told (files_told _ _ told known) (behind_program name bytes) ∙ ap (λ contents. with_journal p (file_in contents journal) (behind_journal p name)) disk.1)
    c.in_err-opened.field-0.0 (is_err residual.result _ residual.ensures.1)
    (named_stops p journal (on c.args.disk.now) (on c.open_named.new.disk) c.in_err-opened.field-0.0 c.in_err-opened.ensures.opens disk.0 disk.1 (behind_journal p name))

pub last_output-requires : goal.last_output-requires
last_output-requires g c = let is = c.in_ok-opened.ensures.opens.0 in (is.stands.same, is.stands.shares)

pub returns-in_err-last_output-clause-finds : goal.returns-in_err-last_output-clause-finds
returns-in_err-last_output-clause-finds g c = λ name told known.
    let p = digested_of (program_in c.in_ok-code.code) in
    let journal = c.args.journal.now in
    let disk = disk_told _ _ told known in
    let bytes = file_in (g.D.Disk.contents c.args.disk.now) journal in
    let opened = c.in_ok-opened.ensures.opens in
    let stands = opened.0.stands in
    let residual = c.from_residual-in_err-last_output in
    let halt = c.in_err-last_output.field-0.0 in
    stopped_kept name (replayed_answer c.args.program.now name bytes told) (Some (last_answer p stands.same name)) residual.result
    (c.in_ok-code.ensures.goes told (files_told _ _ told known) (behind_program name bytes) ∙ ap (λ contents. with_journal p (file_in contents journal) (behind_journal p name)) disk.1
    ∙ opened.1 disk.0 disk.1 (behind_journal p name))
    (Halts halt) (is_err residual.result _ residual.ensures.1)
    (hand_found name (Some (last_answer p stands.same name)) (Err halt) (c.in_err-last_output.ensures.finds name stands.same stands.shares))

pub returns-in_err-last_output-clause-cause : goal.returns-in_err-last_output-clause-cause
returns-in_err-last_output-clause-cause g c =
    let p = digested_of (program_in c.in_ok-code.code) in
    let opened = c.in_ok-opened.ensures in
    let stands = opened.opens.0.stands in
    let residual = c.from_residual-in_err-last_output in
    let halt = c.in_err-last_output.field-0.0 in
    halt_cause _ _ _ _ _ _ _ halt residual.result (is_err residual.result _ residual.ensures.1) opened.cause.0 opened.cause.1
    (hand_cause (λ name. Some (last_answer p stands.same name)) (Err halt) _ _ (λ name. c.in_err-last_output.ensures.finds name stands.same stands.shares) c.in_ok-code.ensures.cause)

pub returns-clause-finds : goal.returns-clause-finds
returns-clause-finds g c = λ name told known.
    let p = digested_of (program_in c.in_ok-code.code) in
    let journal = c.args.journal.now in
    let disk = disk_told _ _ told known in
    let bytes = file_in (g.D.Disk.contents c.args.disk.now) journal in
    let opened = c.in_ok-opened.ensures.opens in
    let stands = opened.0.stands in
    output_kept name (replayed_answer c.args.program.now name bytes told) (Some (last_answer p stands.same name)) c.in_ok-last_output.field-0
    (c.in_ok-code.ensures.goes told (files_told _ _ told known) (behind_program name bytes) ∙ ap (λ contents. with_journal p (file_in contents journal) (behind_journal p name)) disk.1
    ∙ opened.1 disk.0 disk.1 (behind_journal p name))
    (c.in_ok-last_output.ensures.finds name stands.same stands.shares)

pub returns-in_err-code-clause-reached : goal.returns-in_err-code-clause-reached
returns-in_err-code-clause-reached g c =
    let program = c.args.program.now in
    halted_at (unreplayed_answer program) program _ _ _ _ c.in_err-code.field-0.0 (λ files known. ap (λ file. with_program_file file (λ p. None)) (is_missing program files))
    c.in_err-code.ensures.cause c.in_err-code.ensures.asked
