use Rattle.std.proofs.Common.{◌≡◌, ℕ, List, Option, Some, None, Err, refl, ap, sym, ◌∙◌, subst}
use Rattle.std.proofs.lemmas.Result.{err_from_is_err_and}
use Rattle.core_terms.specs.Programs.{meaning}
use Rattle.core_terms.specs.Values.{Value}
use Rattle.images.specs.Images.{Root, image_of}
use Rattle.printed_lines.specs.declared.refusal.Argument.TheVariants as named
use Rattle.command_parts.specs.Answer.{migrated_answer, migration_fault, moved_answer}
use Rattle.command_parts.specs.FileInputs.{with_declared_file, with_image}
use Rattle.command_parts.specs.AnswerForms.{Answer}
use Rattle.command_parts.specs.ReadPrograms.{declared_of, digested_of, named_of}
use Rattle.command_parts.specs.Reaching.{without}
use Rattle.command_parts.specs.Storing.{FindsOutput}
use Rattle.file_commands.proofs.MovedStates.{behind_both, behind_one, bytes_then_state, comes_to_image, keeps_states, without_image}
use Rattle.command_parts.proofs.Reached.{behind, faults_reached, is_missing, output_reached}
use Rattle.command_parts.proofs.Steps.{halts_behind, hand_cause, hand_found, image_goes, output_halt}
use Rattle.file_commands.proofs.migrate_state.find_moved.Goals as goal

pub returns-in_err-from-clause-finds : goal.returns-in_err-from-clause-finds
returns-in_err-from-clause-finds g c = λ name told known.
    let err = err_from_is_err_and c.from_residual.result c.from_residual.ensures.1 in
    output_halt name _ c.from_residual.result _ (cc) (c.in_err-from.ensures.goes told known (behind_one c.args.image.now c.args.other.now name told))

pub returns-in_err-from-clause-reached : goal.returns-in_err-from-clause-reached
returns-in_err-from-clause-reached g c = λ name.
    let program = c.args.program.now in
    let image = c.args.image.now in
    let other = c.args.other.now in
    let err = err_from_is_err_and c.from_residual.result c.from_residual.ensures.1 in
    faults_reached (migrated_answer program image other name) program _ _ _ c.from_residual.result (cc)
    (λ files known. ap (λ file. with_declared_file named.Program file (behind_one image other name (without program files))) (is_missing program files)) c.in_err-from.ensures.asked

pub returns-in_err-to-clause-finds : goal.returns-in_err-to-clause-finds
returns-in_err-to-clause-finds g c = λ name told known.
    let p = declared_of c.in_ok-from.from in
    let image = c.args.image.now in
    let other = c.args.other.now in
    let err = err_from_is_err_and c.from_residual-in_err-to.result c.from_residual-in_err-to.ensures.1 in
    output_halt name _ c.from_residual-in_err-to.result _ (cc)
    (halts_behind _ _ _ (c.in_ok-from.ensures.goes told known (behind_one image other name told))
    (c.in_err-to.ensures.goes told (c.in_ok-from.ensures.contents ∙ known) (behind_both image name told p)))

pub returns-in_err-to-clause-reached : goal.returns-in_err-to-clause-reached
returns-in_err-to-clause-reached g c = λ name.
    let p = declared_of c.in_ok-from.from in
    let program = c.args.program.now in
    let image = c.args.image.now in
    let other = c.args.other.now in
    let err = err_from_is_err_and c.from_residual-in_err-to.result c.from_residual-in_err-to.ensures.1 in
    faults_reached (migrated_answer program image other name) other _ _ _ c.from_residual-in_err-to.result (cc)
    (λ files known. behind (with_declared_file named.Program) program other files p (behind_one image other name (without other files)) refl (c.in_ok-from.ensures.goes files known)
    (ap (λ file. with_declared_file named.Other file (behind_both image name (without other files) p)) (is_missing other files)))
    c.in_err-to.ensures.asked

pub returns-in_err-image-clause-finds : goal.returns-in_err-image-clause-finds
returns-in_err-image-clause-finds g c = λ name told known.
    let p = declared_of c.in_ok-from.from in
    let q = declared_of c.in_ok-to.to in
    let image = c.args.image.now in
    let later = c.in_ok-from.ensures.contents ∙ known in
    let none : migration_fault p q ≡ None = sym c.in_ok-fault.ensures ∙ c.in_default.is in
    let moved : Value → Option Answer = λ v. Some (moved_answer q.named v name) in
    let err = err_from_is_err_and c.from_residual-in_err-image.result c.from_residual-in_err-image.ensures.1 in
    output_halt name _ c.from_residual-in_err-image.result c.in_err-image.field-0.0 (err.1 ∙ ap Err err.2)
    (halts_behind _ _ _ (comes_to_image c.args.program.now image c.args.other.now name told p q (c.in_ok-from.ensures.goes told known) (c.in_ok-to.ensures.goes told later) none
    ∙ bytes_then_state p.named.digested moved (told image))
    (c.in_err-image.ensures.goes told (c.in_ok-to.ensures.contents ∙ later) (λ bytes. with_image p.named.digested bytes moved)))

pub returns-in_err-image-clause-reached : goal.returns-in_err-image-clause-reached
returns-in_err-image-clause-reached g c = λ name.
    let p = declared_of c.in_ok-from.from in
    let q = declared_of c.in_ok-to.to in
    let program = c.args.program.now in
    let image = c.args.image.now in
    let other = c.args.other.now in
    let none : migration_fault p q ≡ None = sym c.in_ok-fault.ensures ∙ c.in_default.is in
    let err = err_from_is_err_and c.from_residual-in_err-image.result c.from_residual-in_err-image.ensures.1 in
    faults_reached (migrated_answer program image other name) image _ _ _ c.from_residual-in_err-image.result (err.1 ∙ ap Err err.2)
    (λ files known. without_image program image other name files p q (c.in_ok-from.ensures.goes files known) (c.in_ok-to.ensures.goes files (c.in_ok-from.ensures.contents ∙ known)) none)
    c.in_err-image.ensures.asked

pub move_state-requires : goal.move_state-requires
move_state-requires g c =
    let p = c.in_ok-from.from in
    let q = c.in_ok-to.to in
    let none : migration_fault (declared_of p) (declared_of q) ≡ None = sym c.in_ok-fault.ensures ∙ c.in_default.is in
    let root = c.in_ok-image.ensures.image in (
      meaning p,
      p.text_digest.0,
      root.0,
      keeps_states c.equal_texts_are_equal_tables.ensures p q none c.in_ok-from.ensures.text c.in_ok-to.ensures.text,
      subst (λ (bytes : List ℕ). image_of (meaning p) p.text_digest.0 bytes ≡ Root root.0) (sym c.deref_mut.ensures.value) root.1,
    )

pub returns-clause-finds : goal.returns-clause-finds
returns-clause-finds g c = λ name told known.
    let p = c.in_ok-from.from in
    let q = c.in_ok-to.to in
    let image = c.args.image.now in
    let later = c.in_ok-from.ensures.contents ∙ known in
    let none : migration_fault (declared_of p) (declared_of q) ≡ None = sym c.in_ok-fault.ensures ∙ c.in_default.is in
    let keeps = keeps_states c.equal_texts_are_equal_tables.ensures p q none c.in_ok-from.ensures.text c.in_ok-to.ensures.text in
    let moved : Value → Option Answer = λ v. Some (moved_answer (named_of q) v name) in
    let root = c.in_ok-image.ensures.image in
    let bytes = c.in_ok-image.ensures.goes told (c.in_ok-to.ensures.contents ∙ later) in
    let judged = subst (λ (bytes : List ℕ). image_of (meaning p) p.text_digest.0 bytes ≡ Root root.0) bytes.2 root.1 in
    let held = subst (λ (bytes : List ℕ). image_of (meaning p) p.text_digest.0 bytes ≡ Root root.0) (sym c.deref_mut.ensures.value) root.1 in
    let comes = comes_to_image c.args.program.now image c.args.other.now name told (declared_of p) (declared_of q) (c.in_ok-from.ensures.goes told known) (c.in_ok-to.ensures.goes told later) none
    ∙ bytes_then_state (digested_of p) moved (told image)
    ∙ bytes.1 (λ bytes. with_image (digested_of p) bytes moved)
    ∙ image_goes (digested_of p) bytes.0 root.0 judged moved in
    subst (λ answer. FindsOutput name answer c.move_state.result) (sym comes)
    (hand_found name (moved root.0) c.move_state.result (c.move_state.ensures.finds name (meaning p) p.text_digest.0 root.0 keeps held))

pub returns-clause-reached : goal.returns-clause-reached
returns-clause-reached g c = λ name.
    let p = c.in_ok-from.from in
    let q = c.in_ok-to.to in
    let none : migration_fault (declared_of p) (declared_of q) ≡ None = sym c.in_ok-fault.ensures ∙ c.in_default.is in
    let keeps = keeps_states c.equal_texts_are_equal_tables.ensures p q none c.in_ok-from.ensures.text c.in_ok-to.ensures.text in
    let root = c.in_ok-image.ensures.image in
    let held = subst (λ (bytes : List ℕ). image_of (meaning p) p.text_digest.0 bytes ≡ Root root.0) (sym c.deref_mut.ensures.value) root.1 in
    output_reached name (Some (moved_answer (named_of q) root.0 name)) (migrated_answer c.args.program.now c.args.image.now c.args.other.now name) _ _ c.move_state.result
    (c.move_state.ensures.finds name (meaning p) p.text_digest.0 root.0 keeps held)

pub returns-clause-cause : goal.returns-clause-cause
returns-clause-cause g c =
    let p = c.in_ok-from.from in
    let q = c.in_ok-to.to in
    let none : migration_fault (declared_of p) (declared_of q) ≡ None = sym c.in_ok-fault.ensures ∙ c.in_default.is in
    let keeps = keeps_states c.equal_texts_are_equal_tables.ensures p q none c.in_ok-from.ensures.text c.in_ok-to.ensures.text in
    let root = c.in_ok-image.ensures.image in
    let held = subst (λ (bytes : List ℕ). image_of (meaning p) p.text_digest.0 bytes ≡ Root root.0) (sym c.deref_mut.ensures.value) root.1 in
    hand_cause (λ name. Some (moved_answer (named_of q) root.0 name)) c.move_state.result _ _
    (λ name. c.move_state.ensures.finds name (meaning p) p.text_digest.0 root.0 keeps held) (c.in_ok-image.ensures.cause ∙ (c.in_ok-to.ensures.cause ∙ c.in_ok-from.ensures.cause))
