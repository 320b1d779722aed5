use Rattle.std.proofs.Common.{ℕ, List, Option, Some, refl, ap, sym, ◌∙◌, subst}
use Rattle.std.proofs.lemmas.Result.{err_from_is_err_and}
use Rattle.core_terms.specs.Programs.{meaning}
use Rattle.lam_outside.specs.Told.{Contents}
use Rattle.command_parts.specs.Answer.{filed_answer, pieces_answer, state_pieces}
use Rattle.command_parts.specs.FileInputs.{with_image_file, with_program_file}
use Rattle.command_parts.specs.AnswerForms.{Answer}
use Rattle.command_parts.specs.FueledRoles.{NamedProgram}
use Rattle.command_parts.specs.ReadPrograms.{named_of}
use Rattle.command_parts.specs.Reaching.{without}
use Rattle.command_parts.specs.Storing.{FindsOutput}
use Rattle.command_parts.proofs.Reached.{behind, faults_reached, is_missing, output_reached}
use Rattle.command_parts.proofs.Steps.{halts_behind, hand_cause, hand_found, output_halt}
use Rattle.file_commands.proofs.file_pieces.find_pieces.Goals as goal

-- what stands behind the program
abbrev behind_program : (image name : List ℕ) → Contents → NamedProgram → Option Answer
behind_program image name files p = with_image_file p.digested (files image) (λ v. Some (pieces_answer (state_pieces p.digested.program v) name))

pub returns-in_err-program-clause-finds : goal.returns-in_err-program-clause-finds
returns-in_err-program-clause-finds g c = λ name told known.
    let err = err_from_is_err_and c.from_residual.result c.from_residual.ensures.1 in
    output_halt name _ c.from_residual.result _ (cc) (c.in_err-program.ensures.goes told known (behind_program c.args.image.now name told))

pub returns-in_err-state-clause-finds : goal.returns-in_err-state-clause-finds
returns-in_err-state-clause-finds g c = λ name told known.
    let err = err_from_is_err_and c.from_residual-in_err-state.result c.from_residual-in_err-state.ensures.1 in
    output_halt name _ c.from_residual-in_err-state.result _ (cc)
    (halts_behind _ _ _ (c.in_ok-program.ensures.goes told known (behind_program c.args.image.now name told))
    (c.in_err-state.ensures.goes told (c.in_ok-program.ensures.contents ∙ known) (λ v. Some (pieces_answer (state_pieces (meaning c.in_ok-program.program) v) name))))

pub returns-clause-finds : goal.returns-clause-finds
returns-clause-finds g c = λ name told known.
    let state = c.in_ok-state.ensures.goes told (c.in_ok-program.ensures.contents ∙ known) in
    let answer = Some (pieces_answer (state_pieces (meaning c.in_ok-program.program) state.0) name) in
    subst (λ answer. FindsOutput name answer c.file_pieces.result)
    (sym (c.in_ok-program.ensures.goes told known (behind_program c.args.image.now name told) ∙ state.1 (λ v. Some (pieces_answer (state_pieces (meaning c.in_ok-program.program) v) name))))
    (hand_found name answer c.file_pieces.result (c.file_pieces.ensures.finds name state.0 state.2))

pub returns-clause-cause : goal.returns-clause-cause
returns-clause-cause g c =
    let stands = c.in_ok-state.ensures.stands in
    hand_cause (λ name. Some (pieces_answer (state_pieces (meaning c.in_ok-program.program) stands.0) name)) c.file_pieces.result _ _
    (λ name. c.file_pieces.ensures.finds name stands.0 stands.1) (c.in_ok-state.ensures.cause ∙ c.in_ok-program.ensures.cause)

pub returns-in_err-program-clause-reached : goal.returns-in_err-program-clause-reached
returns-in_err-program-clause-reached g c = λ name.
    let program = c.args.program.now in
    let image = c.args.image.now in
    let err = err_from_is_err_and c.from_residual.result c.from_residual.ensures.1 in
    faults_reached (filed_answer program image name) program _ _ _ c.from_residual.result (cc)
    (λ files known. ap (λ file. with_program_file file (behind_program image name (without program files))) (is_missing program files)) c.in_err-program.ensures.asked

pub returns-in_err-state-clause-reached : goal.returns-in_err-state-clause-reached
returns-in_err-state-clause-reached g c = λ name.
    let program = c.args.program.now in
    let image = c.args.image.now in
    let p = named_of c.in_ok-program.program in
    let err = err_from_is_err_and c.from_residual-in_err-state.result c.from_residual-in_err-state.ensures.1 in
    faults_reached (filed_answer program image name) image _ _ _ c.from_residual-in_err-state.result (cc)
    (λ files known. behind with_program_file program image files p (behind_program image name (without image files)) refl (c.in_ok-program.ensures.goes files known)
    (ap (λ file. with_image_file p.digested file (λ v. Some (pieces_answer (state_pieces p.digested.program v) name))) (is_missing image files)))
    c.in_err-state.ensures.asked

pub returns-clause-reached : goal.returns-clause-reached
returns-clause-reached g c = λ name.
    let stands = c.in_ok-state.ensures.stands in
    output_reached name _ (filed_answer c.args.program.now c.args.image.now name) _ _ c.file_pieces.result (c.file_pieces.ensures.finds name stands.0 stands.1)
