use Rattle.std.proofs.Common.{ℕ, List, Option, None, refl, ap, ◌∙◌}
use Rattle.std.proofs.lemmas.Result.{err_from_is_err_and}
use Rattle.core_terms.specs.Programs.{meaning}
use Rattle.lam_outside.specs.Told.{Contents}
use Rattle.printed_lines.specs.declared.refusal.Argument.TheVariants.{Port}
use Rattle.command_parts.specs.Answer.{Asking, with_asked, with_script_file}
use Rattle.command_parts.specs.FileInputs.{with_number, with_state_file}
use Rattle.command_parts.specs.AnswerForms.{Answer}
use Rattle.command_parts.specs.Arguments.{most_port, positive_within}
use Rattle.command_parts.specs.FueledRoles.{NamedProgram}
use Rattle.net_commands.specs.PreparedClients.{asked_with}
use Rattle.command_parts.specs.ReadPrograms.{named_of}
use Rattle.command_parts.specs.Reaching.{without}
use Rattle.command_parts.proofs.Reached.{behind, faults_reached, hand_reached, is_missing}
use Rattle.command_parts.proofs.Steps.{halted, halts_behind, halts_first, hand_halts}
use Rattle.net_commands.proofs.asking.read_inputs.Goals as goal

-- what stands behind the port, and what behind the state
abbrev behind_state : NamedProgram → (script : List ℕ) → Contents → ℕ → List ℕ → (Asking → Option Answer) → Option Answer
behind_state p script files port state go = with_script_file p (files script) (λ steps. go (record { program = p; state = state; port = port; steps = steps }))

abbrev behind_port : NamedProgram → (state script : List ℕ) → Contents → ℕ → (Asking → Option Answer) → Option Answer
behind_port p state script files port go = with_state_file p.digested.program (files state) (λ bytes. behind_state p script files port bytes go)

pub returns-in_err-port-clause-goes : goal.returns-in_err-port-clause-goes
returns-in_err-port-clause-goes g c = λ told known.
    let p = c.args.program.now in
    let words = c.args.words.now in
    let err = err_from_is_err_and c.from_residual.result c.from_residual.ensures.1 in
    let first = with_number Port (positive_within most_port words.port.now) in
    halts_first first (behind_port (named_of p) words.state.now words.script.now told) (asked_with p) c.from_residual.result _ (cc) (hand_halts first (λ (n : ℕ). n) _ c.in_err-port.ensures.goes)

pub returns-in_err-port-clause-reached : goal.returns-in_err-port-clause-reached
returns-in_err-port-clause-reached g c =
    let p = named_of c.args.program.now in
    let words = c.args.words.now in
    let err = err_from_is_err_and c.from_residual.result c.from_residual.ensures.1 in
    hand_reached (with_number Port (positive_within most_port words.port.now)) (λ (n : ℕ). n)
    (λ told. with_asked p words.state.now words.port.now words.script.now told (λ asking. None)) _ _ _ c.from_residual.result (cc) c.in_err-port.ensures.goes

pub returns-in_err-state-clause-goes : goal.returns-in_err-state-clause-goes
returns-in_err-state-clause-goes g c = λ told known.
    let p = c.args.program.now in
    let words = c.args.words.now in
    let port = c.in_ok-port.port in
    let err = err_from_is_err_and c.from_residual-in_err-state.result c.from_residual-in_err-state.ensures.1 in
    halted (with_asked (named_of p) words.state.now words.port.now words.script.now told) (asked_with p) c.from_residual-in_err-state.result _ (cc)
    (λ go. halts_behind _ _ _ (c.in_ok-port.ensures.goes (λ n. behind_port (named_of p) words.state.now words.script.now told n go))
    (c.in_err-state.ensures.goes told known (λ bytes. behind_state (named_of p) words.script.now told port bytes go)))

pub returns-in_err-state-clause-reached : goal.returns-in_err-state-clause-reached
returns-in_err-state-clause-reached g c =
    let p = named_of c.args.program.now in
    let words = c.args.words.now in
    let state = words.state.now in
    let port = c.in_ok-port.port in
    let err = err_from_is_err_and c.from_residual-in_err-state.result c.from_residual-in_err-state.ensures.1 in
    faults_reached (λ told. with_asked p state words.port.now words.script.now told (λ asking. None)) state _ _ _ c.from_residual-in_err-state.result (cc)
    (λ files known. c.in_ok-port.ensures.goes (λ n. behind_port p state words.script.now (without state files) n (λ asking. None))
    ∙ ap (λ file. with_state_file p.digested.program file (λ bytes. behind_state p words.script.now (without state files) port bytes (λ asking. None))) (is_missing state files))
    c.in_err-state.ensures.asked

pub returns-in_err-steps-clause-goes : goal.returns-in_err-steps-clause-goes
returns-in_err-steps-clause-goes g c = λ told known.
    let p = c.args.program.now in
    let words = c.args.words.now in
    let port = c.in_ok-port.port in
    let state = c.in_ok-state.state.items in
    let err = err_from_is_err_and c.from_residual-in_err-steps.result c.from_residual-in_err-steps.ensures.1 in
    halted (with_asked (named_of p) words.state.now words.port.now words.script.now told) (asked_with p) c.from_residual-in_err-steps.result _ (cc)
    (λ go. halts_behind _ _ _ (c.in_ok-port.ensures.goes (λ n. behind_port (named_of p) words.state.now words.script.now told n go)
    ∙ c.in_ok-state.ensures.goes told known (λ bytes. behind_state (named_of p) words.script.now told port bytes go))
    (c.in_err-steps.ensures.goes told (c.in_ok-state.ensures.contents ∙ known) (λ steps. go (record { program = named_of p; state = state; port = port; steps = steps }))))

pub returns-in_err-steps-clause-reached : goal.returns-in_err-steps-clause-reached
returns-in_err-steps-clause-reached g c =
    let p = named_of c.args.program.now in
    let words = c.args.words.now in
    let script = words.script.now in
    let port = c.in_ok-port.port in
    let state = c.in_ok-state.state.items in
    let err = err_from_is_err_and c.from_residual-in_err-steps.result c.from_residual-in_err-steps.ensures.1 in
    faults_reached (λ told. with_asked p words.state.now words.port.now script told (λ asking. None)) script _ _ _ c.from_residual-in_err-steps.result (cc)
    (λ files known. c.in_ok-port.ensures.goes (λ n. behind_port p words.state.now script (without script files) n (λ asking. None))
    ∙ behind (with_state_file p.digested.program) words.state.now script files state (λ bytes. behind_state p script (without script files) port bytes (λ asking. None)) refl
    (c.in_ok-state.ensures.goes files known)
    (ap (λ file. with_script_file p file (λ steps. None)) (is_missing script files)))
    c.in_err-steps.ensures.asked

pub returns-clause-goes : goal.returns-clause-goes
returns-clause-goes g c = λ told known go.
    let p = c.args.program.now in
    let words = c.args.words.now in
    let port = c.in_ok-port.port in
    let state = c.in_ok-state.state.items in
    c.in_ok-port.ensures.goes (λ n. behind_port (named_of p) words.state.now words.script.now told n go)
    ∙ (c.in_ok-state.ensures.goes told known (λ bytes. behind_state (named_of p) words.script.now told port bytes go)
    ∙ c.in_ok-steps.ensures.goes told (c.in_ok-state.ensures.contents ∙ known) (λ steps. go (record { program = named_of p; state = state; port = port; steps = steps })))

pub returns-clause-port : goal.returns-clause-port
returns-clause-port g c = c.in_ok-port.ensures.goes
