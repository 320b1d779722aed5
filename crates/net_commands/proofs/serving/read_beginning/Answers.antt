use Rattle.std.proofs.Common.{◌≡◌, Option, None, refl, ap, subst, ◌∙◌}
use Rattle.std.proofs.lemmas.Result.{err_from_is_err_and}
use Rattle.code_gen.specs.Programs.{program_in}
use Rattle.core_terms.specs.Programs.{meaning}
use Rattle.core_terms.specs.Values.{Value}
use Rattle.core_terms.specs.declared.program.Program.{Program}
use Rattle.command_parts.specs.StoredStates.{IsStoredState}
use Rattle.command_parts.specs.Answer.{Serving, first_shared, serving_of, with_serving_numbers}
use Rattle.command_parts.specs.FileInputs.{with_image_file}
use Rattle.command_parts.specs.AnswerForms.{Answer}
use Rattle.net_commands.specs.PreparedServers.{BeginsWith, numbers_of, with_beginning}
use Rattle.command_parts.specs.ReadPrograms.{digested_of}
use Rattle.command_parts.specs.Reaching.{without}
use Rattle.command_parts.proofs.Reached.{faults_reached, hand_reached, is_missing}
use Rattle.net_commands.proofs.ServeReading.{image_halts}
use Rattle.command_parts.proofs.Steps.{hand_halts, halts_first_for}
use Rattle.net_commands.proofs.serving.read_beginning.Goals as goal

pub returns-in_err-numbers-clause-goes : goal.returns-in_err-numbers-clause-goes
returns-in_err-numbers-clause-goes g c = λ told known.
    let p = program_in c.args.code.now in
    let words = c.args.words.now in
    let first = with_serving_numbers words.port.now words.connections.now words.slice.now in
    let err = err_from_is_err_and c.from_residual.result c.from_residual.ensures.1 in
    halts_first_for first (λ numbers go. with_image_file (digested_of p) (told words.image.now) (λ v. go (serving_of (digested_of p) numbers (first_shared v)))) (BeginsWith p) c.from_residual.result _ (cc)
    (hand_halts first numbers_of _ c.in_err-numbers.ensures.goes)

pub returns-in_err-numbers-clause-reached : goal.returns-in_err-numbers-clause-reached
returns-in_err-numbers-clause-reached g c =
    let p = digested_of (program_in c.args.code.now) in
    let words = c.args.words.now in
    let err = err_from_is_err_and c.from_residual.result c.from_residual.ensures.1 in
    hand_reached (with_serving_numbers words.port.now words.connections.now words.slice.now) numbers_of
    (λ told. with_beginning p words.image.now words.port.now words.connections.now words.slice.now told (λ s. None)) _ _ _ c.from_residual.result (cc) c.in_err-numbers.ensures.goes

pub returns-in_err-state-clause-goes : goal.returns-in_err-state-clause-goes
returns-in_err-state-clause-goes g c = λ told known.
    let words = c.args.words.now in
    let err = err_from_is_err_and c.from_residual-in_err-state.result c.from_residual-in_err-state.ensures.1 in
    image_halts (program_in c.args.code.now) c.program.result.now c.program.ensures (with_serving_numbers words.port.now words.connections.now words.slice.now) (numbers_of c.in_ok-numbers.numbers)
    (told words.image.now) c.in_ok-numbers.ensures.goes c.from_residual-in_err-state.result _ (cc) (c.in_err-state.ensures.goes told known)

pub returns-in_err-state-clause-reached : goal.returns-in_err-state-clause-reached
returns-in_err-state-clause-reached g c =
    let p = digested_of (program_in c.args.code.now) in
    let words = c.args.words.now in
    let image = words.image.now in
    let numbers = numbers_of c.in_ok-numbers.numbers in
    let err = err_from_is_err_and c.from_residual-in_err-state.result c.from_residual-in_err-state.ensures.1 in
    faults_reached (λ told. with_beginning p image words.port.now words.connections.now words.slice.now told (λ s. None)) image _ _ _ c.from_residual-in_err-state.result (cc)
    (λ files known. c.in_ok-numbers.ensures.goes (λ numbers. with_image_file p (without image files image) (λ v. None))
    ∙ ap (λ file. with_image_file p file (λ v. None)) (is_missing image files))
    c.in_err-state.ensures.asked

pub returns-clause-goes : goal.returns-clause-goes
returns-clause-goes g c = λ told known.
    let p = program_in c.args.code.now in
    let words = c.args.words.now in
    let numbers = numbers_of c.in_ok-numbers.numbers in
    let state = subst (λ (q : Program). (v : Value) × ((go : Value → Option Answer) → with_image_file (digested_of q) (told words.image.now) go ≡ go v) × IsStoredState (meaning q) c.in_ok-state.state v)
    c.program.ensures (c.in_ok-state.ensures.goes told known) in (
      serving_of (digested_of p) numbers (first_shared state.0),
      (λ go. c.in_ok-numbers.ensures.goes (λ numbers. with_image_file (digested_of p) (told words.image.now) (λ v. go (serving_of (digested_of p) numbers (first_shared v))))
          ∙ state.1 (λ v. go (serving_of (digested_of p) numbers (first_shared v)))),
      record { state = state.0; stands = state.2; is = refl },
    )

pub returns-clause-stands : goal.returns-clause-stands
returns-clause-stands g c = rw (← c.program.ensures) c.in_ok-state.ensures.stands

pub returns-clause-numbers : goal.returns-clause-numbers
returns-clause-numbers g c = c.in_ok-numbers.ensures.goes
