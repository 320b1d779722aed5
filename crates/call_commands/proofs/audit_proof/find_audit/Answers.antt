use Rattle.std.proofs.Common.{ap, sym, ◌∙◌, subst}
use Rattle.std.proofs.lemmas.Result.{err_from_is_err_and}
use Rattle.code_gen.specs.Programs.{program_in}
use Rattle.command_parts.specs.Answer.{audited_answer}
use Rattle.command_parts.specs.FileInputs.{with_program_file}
use Rattle.call_commands.specs.AnswersBehind.{audited_behind}
use Rattle.command_parts.specs.Halting.{Finds}
use Rattle.command_parts.specs.ReadPrograms.{named_of}
use Rattle.command_parts.specs.Reaching.{without}
use Rattle.command_parts.proofs.Reached.{faults_reached, is_missing}
use Rattle.command_parts.proofs.RoleSteps.{program_reached}
use Rattle.command_parts.proofs.Steps.{finds_halt}
use Rattle.call_commands.proofs.audit_proof.find_audit.Goals as goal

pub returns-in_err-code-clause-finds : goal.returns-in_err-code-clause-finds
returns-in_err-code-clause-finds g c = λ told known.
    let words = c.args.words.now in
    let err = err_from_is_err_and c.from_residual.result c.from_residual.ensures.1 in
    finds_halt _ c.from_residual.result _ (cc)
    (c.in_err-code.ensures.goes told known (λ p. audited_behind words.role.now c.args.image.now words.argument.now words.fuel.now c.args.proof.now p told))

pub returns-clause-finds : goal.returns-clause-finds
returns-clause-finds g c = λ told known.
    let words = c.args.words.now in
    subst (λ answer. Finds answer c.audit_named.result)
    (sym (c.in_ok-code.ensures.goes told known (λ p. audited_behind words.role.now c.args.image.now words.argument.now words.fuel.now c.args.proof.now p told)))
    (c.audit_named.ensures.finds told (c.in_ok-code.ensures.contents ∙ known))

pub returns-in_err-code-clause-reached : goal.returns-in_err-code-clause-reached
returns-in_err-code-clause-reached g c =
    let words = c.args.words.now in
    let program = words.program.now in
    let image = c.args.image.now in
    let proof = c.args.proof.now in
    let err = err_from_is_err_and c.from_residual.result c.from_residual.ensures.1 in
    faults_reached (audited_answer program words.role.now image words.argument.now words.fuel.now proof) program _ _ _ c.from_residual.result (cc)
    (λ files known. ap (λ file. with_program_file file (λ p. audited_behind words.role.now image words.argument.now words.fuel.now proof p (without program files))) (is_missing program files))
    c.in_err-code.ensures.asked

pub returns-clause-reached : goal.returns-clause-reached
returns-clause-reached g c =
    let words = c.args.words.now in
    program_reached words.program.now (audited_behind words.role.now c.args.image.now words.argument.now words.fuel.now c.args.proof.now) _ _ (named_of (program_in c.in_ok-code.code)) c.in_ok-code.ensures.goes
    _ c.audit_named.result c.in_ok-code.ensures.contents c.audit_named.ensures.reached
