use Rattle.std.proofs.Common.{ap, sym, ◌∙◌, subst}
use Rattle.std.proofs.lemmas.Result.{err_from_is_err_and}
use Rattle.code_gen.specs.Programs.{program_in}
use Rattle.command_parts.specs.Answer.{fetched_answer}
use Rattle.command_parts.specs.FileInputs.{with_program_file}
use Rattle.call_commands.specs.AnswersBehind.{fetched_behind}
use Rattle.command_parts.specs.Halting.{Finds}
use Rattle.command_parts.specs.ReadPrograms.{named_of}
use Rattle.command_parts.specs.Reaching.{without}
use Rattle.command_parts.proofs.Reached.{faults_reached, is_missing}
use Rattle.command_parts.proofs.RoleSteps.{program_reached}
use Rattle.command_parts.proofs.Steps.{finds_halt}
use Rattle.call_commands.proofs.fetch_call.find_fetched.Goals as goal

pub returns-in_err-code-clause-finds : goal.returns-in_err-code-clause-finds
returns-in_err-code-clause-finds g c = λ told known.
    let words = c.args.words.now in
    let err = err_from_is_err_and c.from_residual.result c.from_residual.ensures.1 in
    finds_halt _ c.from_residual.result _ (cc) (c.in_err-code.ensures.goes told known (λ p. fetched_behind p words told))

pub returns-clause-finds : goal.returns-clause-finds
returns-clause-finds g c = λ told known.
    let words = c.args.words.now in
    subst (λ answer. Finds answer c.fetch_named.result) (sym (c.in_ok-code.ensures.goes told known (λ p. fetched_behind p words told)))
    (c.fetch_named.ensures.finds told (c.in_ok-code.ensures.contents ∙ known))

pub returns-in_err-code-clause-reached : goal.returns-in_err-code-clause-reached
returns-in_err-code-clause-reached g c =
    let words = c.args.words.now in
    let program = words.call.program.now in
    let err = err_from_is_err_and c.from_residual.result c.from_residual.ensures.1 in
    faults_reached (fetched_answer program words.call.role.now words.state.now words.call.argument.now words.call.fuel.now words.mirror.now) program _ _ _ c.from_residual.result (cc)
    (λ files known. ap (λ file. with_program_file file (λ p. fetched_behind p words (without program files))) (is_missing program files))
    c.in_err-code.ensures.asked

pub returns-clause-reached : goal.returns-clause-reached
returns-clause-reached g c =
    let words = c.args.words.now in
    program_reached words.call.program.now (λ p files. fetched_behind p words files) _ _ (named_of (program_in c.in_ok-code.code)) c.in_ok-code.ensures.goes
    _ c.fetch_named.result c.in_ok-code.ensures.contents c.fetch_named.ensures.reached
