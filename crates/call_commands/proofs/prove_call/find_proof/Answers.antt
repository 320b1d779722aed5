use Rattle.std.proofs.Common.{ap, sym, ◌∙◌, subst}
use Rattle.std.proofs.lemmas.Result.{err_from_is_err_and}
use Rattle.code_gen.specs.Programs.{program_in}
use Rattle.command_parts.specs.Answer.{proved_answer}
use Rattle.command_parts.specs.FileInputs.{with_program_file}
use Rattle.call_commands.specs.AnswersBehind.{proved_behind}
use Rattle.command_parts.specs.ReadPrograms.{named_of}
use Rattle.command_parts.specs.Reaching.{without}
use Rattle.command_parts.specs.Storing.{FindsOutput}
use Rattle.command_parts.proofs.Reached.{faults_reached, is_missing}
use Rattle.command_parts.proofs.RoleSteps.{program_reached}
use Rattle.command_parts.proofs.Steps.{output_halt}
use Rattle.call_commands.proofs.prove_call.find_proof.Goals as goal

pub returns-in_err-code-clause-finds : goal.returns-in_err-code-clause-finds
returns-in_err-code-clause-finds g c = λ name told known.
    let words = c.args.words.now in
    let err = err_from_is_err_and c.from_residual.result c.from_residual.ensures.1 in
    output_halt name _ c.from_residual.result _ (cc)
    (c.in_err-code.ensures.goes told known (λ p. proved_behind words.role.now c.args.image.now words.argument.now words.fuel.now c.args.kept.now name p told))

pub returns-clause-finds : goal.returns-clause-finds
returns-clause-finds g c = λ name told known.
    let words = c.args.words.now in
    subst (λ answer. FindsOutput name answer c.prove_named.result)
    (sym (c.in_ok-code.ensures.goes told known (λ p. proved_behind words.role.now c.args.image.now words.argument.now words.fuel.now c.args.kept.now name p told)))
    (c.prove_named.ensures.finds name told (c.in_ok-code.ensures.contents ∙ known))

pub returns-in_err-code-clause-reached : goal.returns-in_err-code-clause-reached
returns-in_err-code-clause-reached g c = λ name.
    let words = c.args.words.now in
    let program = words.program.now in
    let image = c.args.image.now in
    let kept = c.args.kept.now in
    let err = err_from_is_err_and c.from_residual.result c.from_residual.ensures.1 in
    faults_reached (proved_answer program words.role.now image words.argument.now words.fuel.now kept name) program _ _ _ c.from_residual.result (cc)
    (λ files known. ap (λ file. with_program_file file (λ p. proved_behind words.role.now image words.argument.now words.fuel.now kept name p (without program files))) (is_missing program files))
    c.in_err-code.ensures.asked

pub returns-clause-reached : goal.returns-clause-reached
returns-clause-reached g c = λ name.
    let words = c.args.words.now in
    program_reached words.program.now (proved_behind words.role.now c.args.image.now words.argument.now words.fuel.now c.args.kept.now name) _ _ (named_of (program_in c.in_ok-code.code)) c.in_ok-code.ensures.goes
    _ c.prove_named.result c.in_ok-code.ensures.contents (c.prove_named.ensures.reached name)
