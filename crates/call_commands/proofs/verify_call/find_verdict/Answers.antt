use Rattle.std.proofs.Common.{ap, sym, ◌∙◌, subst}
use Rattle.std.proofs.lemmas.Result.{err_from_is_err_and}
use Rattle.code_gen.specs.Programs.{program_in}
use Rattle.command_parts.specs.FileInputs.{with_program_file}
use Rattle.command_parts.specs.ReadPrograms.{named_of}
use Rattle.command_parts.specs.Reaching.{without}
use Rattle.call_commands.specs.AnswersBehind.{answer_behind, answer_to, name_of, out_of}
use Rattle.command_parts.specs.Storing.{FindsOutput}
use Rattle.command_parts.proofs.Reached.{faults_reached, is_missing}
use Rattle.command_parts.proofs.RoleSteps.{program_reached}
use Rattle.command_parts.proofs.Steps.{output_halt}
use Rattle.call_commands.proofs.verify_call.find_verdict.Goals as goal

pub returns-in_err-code-clause-finds : goal.returns-in_err-code-clause-finds
returns-in_err-code-clause-finds g c = λ told known.
    let words = c.args.words.now in
    let err = err_from_is_err_and c.from_residual.result c.from_residual.ensures.1 in
    output_halt (name_of (out_of words)) _ c.from_residual.result _ (cc) (c.in_err-code.ensures.goes told known (λ p. answer_behind p words told))

pub returns-clause-finds : goal.returns-clause-finds
returns-clause-finds g c = λ told known.
    let words = c.args.words.now in
    subst (λ answer. FindsOutput (name_of (out_of words)) answer c.find_judgement.result)
    (sym (c.in_ok-code.ensures.goes told known (λ p. answer_behind p words told)))
    (c.find_judgement.ensures.finds told (c.in_ok-code.ensures.contents ∙ known))

pub returns-in_err-code-clause-reached : goal.returns-in_err-code-clause-reached
returns-in_err-code-clause-reached g c =
    let words = c.args.words.now in
    let program = words.call.program.now in
    let err = err_from_is_err_and c.from_residual.result c.from_residual.ensures.1 in
    faults_reached (answer_to words) program _ _ _ c.from_residual.result (cc)
    (λ files known. ap (λ file. with_program_file file (λ p. answer_behind p words (without program files))) (is_missing program files))
    c.in_err-code.ensures.asked

pub returns-clause-reached : goal.returns-clause-reached
returns-clause-reached g c =
    let words = c.args.words.now in
    program_reached words.call.program.now (λ p files. answer_behind p words files) _ _ (named_of (program_in c.in_ok-code.code)) c.in_ok-code.ensures.goes
    _ c.find_judgement.result c.in_ok-code.ensures.contents c.find_judgement.ensures.reached
