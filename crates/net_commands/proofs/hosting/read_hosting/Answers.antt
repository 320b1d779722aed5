use Rattle.std.proofs.Common.{None, refl, ap, sym, subst}
use Rattle.code_gen.specs.Programs.{program_in}
use Rattle.command_parts.specs.Answer.{with_serving_numbers}
use Rattle.command_parts.specs.UnansweredInCode.{unhosted_answer}
use Rattle.command_parts.specs.FileInputs.{with_program_file}
use Rattle.command_parts.specs.declared.report.Halt.TheVariants.{NoMemory}
use Rattle.command_parts.proofs.Reached.{is_missing}
use Rattle.command_parts.proofs.Steps.{hand_halts}
use Rattle.journal_commands.proofs.CountsOnDisk.{halted_at}
use Rattle.journal_commands.proofs.StopCauses.{halt_cause, is_err}
use Rattle.net_commands.specs.PreparedServers.{numbers_of}
use Rattle.net_commands.specs.ToldNumbers.{TellNumbers}
use Rattle.net_commands.proofs.HostReading.{hand_cause, host_read, journal_halts, memory_halts, numbers_halt, program_halts}
use Rattle.net_commands.proofs.ServeRuns.{same_numbers}
use Rattle.net_commands.proofs.hosting.read_hosting.Goals as goal

pub returns-in_err-code-clause-reads : goal.returns-in_err-code-clause-reads
returns-in_err-code-clause-reads g c =
    let residual = c.from_residual in
    program_halts c.args.words.now _ _ _ _ residual.result (is_err residual.result _ residual.ensures.1) c.in_err-code.ensures.goes

pub returns-in_err-numbers-clause-reads : goal.returns-in_err-numbers-clause-reads
returns-in_err-numbers-clause-reads g c =
    let words = c.args.words.now in
    let residual = c.from_residual-in_err-numbers in
    numbers_halt words _ _ _ (program_in c.in_ok-code.code) c.in_ok-code.ensures.goes _ residual.result (is_err residual.result _ residual.ensures.1)
    (hand_halts (with_serving_numbers words.port.now words.connections.now words.slice.now) numbers_of _ c.in_err-numbers.ensures.goes)

pub returns-in_err-opened-clause-reads : goal.returns-in_err-opened-clause-reads
returns-in_err-opened-clause-reads g c =
    let residual = c.from_residual-in_err-opened in
    journal_halts c.args.words.now _ _ _ (program_in c.in_ok-code.code) c.in_ok-code.ensures.goes (numbers_of c.in_ok-numbers.numbers) c.in_ok-numbers.ensures.goes _
    residual.result (is_err residual.result _ residual.ensures.1) c.in_err-opened.ensures.opens

pub returns-in_err-prepare-clause-reads : goal.returns-in_err-prepare-clause-reads
returns-in_err-prepare-clause-reads g c =
    let residual = c.from_residual-in_err-prepare in memory_halts c.args.words.now _ _ _ residual.result (is_err residual.result _ residual.ensures.1)

pub returns-clause-reads : goal.returns-clause-reads
returns-clause-reads g c =
    let opens = c.in_ok-opened.ensures.opens in
    host_read c.args.words.now _ _ _ (program_in c.in_ok-code.code) c.in_ok-code.ensures.goes (numbers_of c.in_ok-numbers.numbers) c.in_ok-numbers.ensures.goes
    c.in_ok-prepare.field-0 c.in_ok-opened.opened opens (c.in_ok-prepare.ensures.prepared _ _ _ opens.0)

pub returns-clause-numbers : goal.returns-clause-numbers
returns-clause-numbers g c =
    let words = c.args.words.now in
    let prepared = c.in_ok-prepare.ensures.prepared _ _ _ c.in_ok-opened.ensures.opens.0 in
    subst (TellNumbers words.port.now words.connections.now words.slice.now) (sym (same_numbers c.in_ok-prepare.field-0.server.value _ prepared.server)) c.in_ok-numbers.ensures.goes

pub prepare-requires-clause-stands : goal.prepare-requires-clause-stands
prepare-requires-clause-stands g c = c.in_ok-opened.ensures.opens.0.stands

pub returns-in_err-code-clause-reached : goal.returns-in_err-code-clause-reached
returns-in_err-code-clause-reached g c =
    let words = c.args.words.now in
    let program = words.program.now in
    halted_at (unhosted_answer program words.port.now words.connections.now words.slice.now) program _ _ _ _ _
    (λ files known. ap (λ file. with_program_file file (λ p. with_serving_numbers words.port.now words.connections.now words.slice.now (λ numbers. None))) (is_missing program files))
    c.in_err-code.ensures.cause c.in_err-code.ensures.asked

pub returns-in_err-code-clause-cause : goal.returns-in_err-code-clause-cause
returns-in_err-code-clause-cause g c =
    let residual = c.from_residual in halt_cause _ _ _ _ _ _ _ _ residual.result (is_err residual.result _ residual.ensures.1) refl refl c.in_err-code.ensures.cause

pub returns-in_err-numbers-clause-cause : goal.returns-in_err-numbers-clause-cause
returns-in_err-numbers-clause-cause g c =
    let words = c.args.words.now in
    let residual = c.from_residual-in_err-numbers in
    hand_cause (with_serving_numbers words.port.now words.connections.now words.slice.now) numbers_of _ _ _ _ _ residual.result (is_err residual.result _ residual.ensures.1)
    c.in_ok-code.ensures.cause c.in_err-numbers.ensures.goes

pub returns-in_err-prepare-clause-cause : goal.returns-in_err-prepare-clause-cause
returns-in_err-prepare-clause-cause g c =
    let residual = c.from_residual-in_err-prepare in
    let opened = c.in_ok-opened.ensures in
    halt_cause _ _ _ _ _ _ _ NoMemory residual.result (is_err residual.result _ residual.ensures.1) opened.cause.0 opened.cause.1 c.in_ok-code.ensures.cause
