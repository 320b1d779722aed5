use Rattle.std.proofs.Common.{◌≡◌, sym, ◌∙◌, subst}
use Rattle.core_terms.specs.Programs.{meaning}
use Rattle.images.specs.Images.{Image, Refused}
use Rattle.images.specs.Loads.{TellsFault}
use Rattle.command_parts.specs.ReadPrograms.{digested_of}
use Rattle.command_parts.specs.StoredStates.{IsStoredState}
use Rattle.command_parts.proofs.MarkedStates.{image_by_types, stored}
use Rattle.command_parts.proofs.Steps.{image_goes, image_refused_for}
use Rattle.command_parts.proofs.stored_states.load_state.Goals as goal

pub returns-in_err-load_image-clause-goes : goal.returns-in_err-load_image-clause-goes
returns-in_err-load_image-clause-goes c =
    let p = c.args.program.now in
    let same = image_by_types p c.types-types.result.now c.text_digest-digest.result.now c.args.bytes.now c.types-types.ensures c.text_digest-digest.ensures in
    image_refused_for (digested_of p) c.args.bytes.now (IsStoredState (meaning p)) c.in_err-load_image.field-0.0 c.from_residual-in_err-load_image.result c.from_residual-in_err-load_image.ensures.1
    (subst (λ (image : Image). TellsFault (λ f. image ≡ Refused f) c.in_err-load_image.field-0.0) same c.in_err-load_image.ensures.loads)

pub returns-clause-goes : goal.returns-clause-goes
returns-clause-goes c =
    let p = c.args.program.now in
    let same = image_by_types p c.types-types.result.now c.text_digest-digest.result.now c.args.bytes.now c.types-types.ensures c.text_digest-digest.ensures in
    let root = c.in_ok-load_image.ensures.loads in
    (root.0, image_goes (digested_of p) c.args.bytes.now root.0 (sym same ∙ root.1), stored p c.types-types.result.now c.types-types.ensures c.in_ok-load_image.field-0 root.0 c.in_ok-load_image.ensures.limit root.2)

pub returns-clause-stands : goal.returns-clause-stands
returns-clause-stands c =
    let root = c.in_ok-load_image.ensures.loads in
    (root.0, stored c.args.program.now c.types-types.result.now c.types-types.ensures c.in_ok-load_image.field-0 root.0 c.in_ok-load_image.ensures.limit root.2)
