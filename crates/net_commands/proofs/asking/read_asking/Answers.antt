use Rattle.std.proofs.Common.{None, Err, ap, sym, subst, ◌∙◌}
use Rattle.std.proofs.lemmas.Result.{err_from_is_err_and}
use Rattle.code_gen.specs.Programs.{program_in}
use Rattle.command_parts.specs.Answer.{Asking, with_asked}
use Rattle.command_parts.specs.UnansweredInCode.{unasked_answer}
use Rattle.command_parts.specs.FileInputs.{with_program_file}
use Rattle.net_commands.specs.PreparedClients.{FitProgram, asked_by}
use Rattle.net_commands.specs.ToldNumbers.{TellsPort}
use Rattle.command_parts.specs.ReadPrograms.{named_of}
use Rattle.command_parts.specs.Reaching.{without}
use Rattle.net_commands.specs.declared.asking.AskInputs.{AskInputs}
use Rattle.command_parts.proofs.Reached.{faults_reached, is_missing}
use Rattle.command_parts.proofs.RoleSteps.{program_reached}
use Rattle.command_parts.proofs.Steps.{halts_behind, halts_first}
use Rattle.net_commands.proofs.AskReading.{asked_of_sources}
use Rattle.net_commands.proofs.asking.read_asking.Goals as goal

pub returns-in_err-code-clause-goes : goal.returns-in_err-code-clause-goes
returns-in_err-code-clause-goes g c = λ told known.
    let words = c.args.words.now in
    let err = err_from_is_err_and c.from_residual.result c.from_residual.ensures.1 in
    halts_first (with_program_file (told words.program.now)) (λ p go. with_asked p words.state.now words.port.now words.script.now told go) asked_by c.from_residual.result _ (cc)
    (c.in_err-code.ensures.goes told known)

pub returns-in_err-code-clause-reached : goal.returns-in_err-code-clause-reached
returns-in_err-code-clause-reached g c =
    let words = c.args.words.now in
    let program = words.program.now in
    let err = err_from_is_err_and c.from_residual.result c.from_residual.ensures.1 in
    faults_reached (unasked_answer program words.state.now words.port.now words.script.now) program _ _ _ c.from_residual.result (cc)
    (λ files known. ap (λ file. with_program_file file (λ p. with_asked p words.state.now words.port.now words.script.now (without program files) (λ a. None)))
    (is_missing program files)) c.in_err-code.ensures.asked

pub prepare-requires : goal.prepare-requires
prepare-requires g c = rw c.program.ensures at c.in-Ok.ensures.fits

pub returns-in-Ok-clause-goes : goal.returns-in-Ok-clause-goes
returns-in-Ok-clause-goes g c = λ told known go.
    let words = c.args.words.now in
    let inputs = rw c.program.ensures at c.in-Ok.ensures.goes in
    c.in_ok-code.ensures.goes told known (λ p. with_asked p words.state.now words.port.now words.script.now told go)
    ∙ (inputs told (c.in_ok-code.ensures.contents ∙ known) go ∙ ap go (sym c.prepare.ensures.asks))

pub returns-in-Ok-clause-port : goal.returns-in-Ok-clause-port
returns-in-Ok-clause-port g c =
    subst (TellsPort c.args.words.now.port.now) (sym (ap (λ (a : Asking). a.port) c.prepare.ensures.asks)) c.in-Ok.ensures.port

pub returns-in-Ok-clause-of_sources : goal.returns-in-Ok-clause-of_sources
returns-in-Ok-clause-of_sources g c =
    asked_of_sources c.program.result.now (program_in c.in_ok-code.code) c.in-Ok.inputs (asked_by c.prepare.result) c.program.ensures c.in-Ok.ensures.script c.in_ok-code.ensures.source c.prepare.ensures.asks

pub returns-in-Err-clause-goes : goal.returns-in-Err-clause-goes
returns-in-Err-clause-goes g c = λ told known go.
    let words = c.args.words.now in
    let halted = rw c.program.ensures at c.in-Err.ensures.goes in
    halts_behind _ _ c.in-Err.halt (c.in_ok-code.ensures.goes told known (λ p. with_asked p words.state.now words.port.now words.script.now told go))
    (halted told (c.in_ok-code.ensures.contents ∙ known) go)

pub returns-in-Err-clause-reached : goal.returns-in-Err-clause-reached
returns-in-Err-clause-reached g c =
    let words = c.args.words.now in
    let reached = rw c.program.ensures at c.in-Err.ensures.reached in
    program_reached words.program.now (λ p told. with_asked p words.state.now words.port.now words.script.now told (λ a. None)) _ _
    (named_of (program_in c.in_ok-code.code)) c.in_ok-code.ensures.goes {T = AskInputs} _ (Err c.in-Err.halt) c.in_ok-code.ensures.contents reached
