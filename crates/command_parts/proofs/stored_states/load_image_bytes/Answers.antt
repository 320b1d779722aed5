use Rattle.std.proofs.Common.{◌≡◌, ℕ, List, Option, sym, ap, ◌∙◌, subst}
use Rattle.std.proofs.lemmas.Result.{err_from_is_err_and}
use Rattle.core_terms.specs.Limits.{most_file_bytes}
use Rattle.core_terms.specs.Programs.{meaning}
use Rattle.core_terms.specs.Values.{Value}
use Rattle.images.specs.Images.{Root, image_of}
use Rattle.printed_lines.specs.declared.refusal.Argument.TheVariants.{Image}
use Rattle.command_parts.specs.FileInputs.{with_file, with_image}
use Rattle.command_parts.specs.AnswerForms.{Answer}
use Rattle.command_parts.specs.FueledRoles.{DigestedProgram}
use Rattle.command_parts.specs.ReadPrograms.{digested_of}
use Rattle.command_parts.specs.StoredStates.{IsStoredState}
use Rattle.command_parts.proofs.ImageBytes.{hand_halts_for, is_image}
use Rattle.command_parts.proofs.Steps.{halts_behind, halts_first_for}
use Rattle.command_parts.proofs.stored_states.load_image_bytes.Goals as goal

-- bytes as an image, which are gone on with
abbrev judged : DigestedProgram → List ℕ → (List ℕ → Option Answer) → Option Answer
judged p bytes go = with_image p bytes (λ v. go bytes)

pub returns-in_err-image-clause-goes : goal.returns-in_err-image-clause-goes
returns-in_err-image-clause-goes g c = λ told known.
    let halted = err_from_is_err_and c.from_residual.result c.from_residual.ensures.1 in
    halts_first_for (with_file most_file_bytes Image (told c.args.name.now)) (judged (digested_of c.args.program.now)) (λ bytes image. bytes.items ≡ image) c.from_residual.result _ (cc)
    (c.in_err-image.ensures.goes told known)

pub returns-in_err-load_state-clause-goes : goal.returns-in_err-load_state-clause-goes
returns-in_err-load_state-clause-goes g c = λ told known.
    let p = digested_of c.args.program.now in
    let bytes = c.deref.result.now in
    let file = with_file most_file_bytes Image (told c.args.name.now) in
    let halted = err_from_is_err_and c.from_residual-in_err-load_state.result c.from_residual-in_err-load_state.ensures.1 in
    let image_is : (go : List ℕ → Option Answer) → file go ≡ go bytes = λ go. c.in_ok-image.ensures.goes told known go ∙ ap go (sym c.deref.ensures.value) in
    halts_first_for (λ go. file (λ bytes. judged p bytes go)) (λ bytes go. go bytes) (λ bytes image. bytes.items ≡ image) c.from_residual-in_err-load_state.result _ (cc)
    (λ go. halts_behind _ _ _ (image_is (λ bytes. judged p bytes go))
    (hand_halts_for (with_image p bytes) (IsStoredState (meaning c.args.program.now)) _ c.in_err-load_state.ensures.goes (λ v. go bytes)))

pub returns-clause-goes : goal.returns-clause-goes
returns-clause-goes g c = λ told known.
    let p = digested_of c.args.program.now in
    let bytes = c.deref.result.now in
    let root = c.in_ok-load_state.ensures.goes in
    let image_is : (go : List ℕ → Option Answer) → with_file most_file_bytes Image (told c.args.name.now) go ≡ go bytes = λ go. c.in_ok-image.ensures.goes told known go ∙ ap go (sym c.deref.ensures.value) in
    (bytes, (λ go. image_is (λ bytes. judged p bytes go) ∙ root.1 (λ v. go bytes)), sym c.deref.ensures.value)

pub returns-clause-image : goal.returns-clause-image
returns-clause-image g c =
    let p = digested_of c.args.program.now in
    let root = c.in_ok-load_state.ensures.goes in
    subst (λ (bytes : List ℕ). (v : Value) × (image_of p.program p.digest bytes ≡ Root v)) c.deref.ensures.value (is_image p c.deref.result.now root.0 root.1)
