use Rattle.std.proofs.Common.{None, Err, ap, ◌∙◌}
use Rattle.std.proofs.lemmas.Result.{err_from_is_err_and}
use Rattle.code_gen.specs.Programs.{program_in}
use Rattle.command_parts.specs.Answer.{with_drawn}
use Rattle.command_parts.specs.UnansweredInCode.{undrawn_answer}
use Rattle.command_parts.specs.FileInputs.{with_program_file}
use Rattle.command_parts.specs.ReadPrograms.{named_of}
use Rattle.command_parts.specs.Reaching.{without}
use Rattle.command_parts.specs.RolesCalled.{role_of}
use Rattle.command_parts.proofs.Reached.{faults_reached, is_missing}
use Rattle.command_parts.proofs.RoleSteps.{program_reached}
use Rattle.command_parts.proofs.Steps.{halts_behind, halts_first}
use Rattle.net_commands.specs.PreparedDrawings.{drawing_of}
use Rattle.net_commands.specs.declared.drawing.DrawInputs.{DrawInputs}
use Rattle.net_commands.proofs.DrawReading.{role_told}
use Rattle.net_commands.proofs.drawing.read_drawing.Goals as goal

pub returns-in_err-code-clause-goes : goal.returns-in_err-code-clause-goes
returns-in_err-code-clause-goes g c = λ told known.
    let words = c.args.words.now in
    let err = err_from_is_err_and c.from_residual.result c.from_residual.ensures.1 in
    halts_first (with_program_file (told words.call.program.now))
    (λ p go. with_drawn p words.call.role.now words.state.now words.call.argument.now words.call.fuel.now words.port.now told go) drawing_of c.from_residual.result _ (cc)
    (c.in_err-code.ensures.goes told known)

pub returns-in_err-code-clause-reached : goal.returns-in_err-code-clause-reached
returns-in_err-code-clause-reached g c =
    let words = c.args.words.now in
    let program = words.call.program.now in
    let err = err_from_is_err_and c.from_residual.result c.from_residual.ensures.1 in
    faults_reached (undrawn_answer program words.call.role.now words.state.now words.call.argument.now words.call.fuel.now words.port.now) program _ _ _ c.from_residual.result (cc)
    (λ files known. ap (λ file. with_program_file file (λ p. with_drawn p words.call.role.now words.state.now words.call.argument.now words.call.fuel.now words.port.now (without program files) (λ d. None)))
    (is_missing program files)) c.in_err-code.ensures.asked

pub returns-in-Ok-clause-goes : goal.returns-in-Ok-clause-goes
returns-in-Ok-clause-goes g c = λ told known go.
    let words = c.args.words.now in
    let inputs = rw c.program.ensures at c.in-Ok.ensures.goes in
    c.in_ok-code.ensures.goes told known (λ p. with_drawn p words.call.role.now words.state.now words.call.argument.now words.call.fuel.now words.port.now told go)
    ∙ inputs told (c.in_ok-code.ensures.contents ∙ known) go

pub returns-in-Ok-clause-ready : goal.returns-in-Ok-clause-ready
returns-in-Ok-clause-ready g c = rw c.program.ensures at c.in-Ok.ensures.called

pub returns-in-Ok-clause-of_sources : goal.returns-in-Ok-clause-of_sources
returns-in-Ok-clause-of_sources g c =
    let words = c.args.words.now in
    let p = program_in c.in_ok-code.code in
    let role = rw c.program.ensures at c.in-Ok.ensures.role in
    let told = role_told (named_of p) words.call.role.now words.call.fuel.now (role_of p c.in-Ok.field-0.call.called) role in
    record { program = c.in_ok-code.ensures.source; called = told.1; words = (told.0, told.2, c.in-Ok.ensures.port) }

pub returns-in-Err-clause-goes : goal.returns-in-Err-clause-goes
returns-in-Err-clause-goes g c = λ told known go.
    let words = c.args.words.now in
    let halted = rw c.program.ensures at c.in-Err.ensures.goes in
    halts_behind _ _ c.in-Err.halt
    (c.in_ok-code.ensures.goes told known (λ p. with_drawn p words.call.role.now words.state.now words.call.argument.now words.call.fuel.now words.port.now told go))
    (halted told (c.in_ok-code.ensures.contents ∙ known) go)

pub returns-in-Err-clause-reached : goal.returns-in-Err-clause-reached
returns-in-Err-clause-reached g c =
    let words = c.args.words.now in
    let reached = rw c.program.ensures at c.in-Err.ensures.reached in
    program_reached words.call.program.now (λ p told. with_drawn p words.call.role.now words.state.now words.call.argument.now words.call.fuel.now words.port.now told (λ d. None)) _ _
    (named_of (program_in c.in_ok-code.code)) c.in_ok-code.ensures.goes {T = DrawInputs} _ (Err c.in-Err.halt) c.in_ok-code.ensures.contents reached
