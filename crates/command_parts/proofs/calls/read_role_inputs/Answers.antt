use Rattle.std.proofs.Common.{ℕ, List, Option, ap, ◌∙◌}
use Rattle.std.proofs.lemmas.Result.{err_from_is_err_and}
use Rattle.command_parts.specs.RoleInputs.{RoleCall, with_role_call}
use Rattle.command_parts.specs.AnswerForms.{Answer}
use Rattle.command_parts.specs.FueledRoles.{FueledRole}
use Rattle.command_parts.specs.Reaching.{without}
use Rattle.command_parts.specs.RolesCalled.{role_of}
use Rattle.command_parts.specs.RolesJudged.{call_meant, with_spelled}
use Rattle.command_parts.proofs.Reached.{call_step, faults_reached, hand_reached, is_missing}
use Rattle.command_parts.proofs.Steps.{halted, halts_behind, hand_halts}
use Rattle.command_parts.proofs.calls.read_role_inputs.Goals as goal

-- what stands behind the state
abbrev behind_state : (argument : List ℕ) → FueledRole → (RoleCall → Option Answer) → List ℕ → Option Answer
behind_state argument r go s = with_spelled r argument (λ a. go (record { role = r; state = s; argument = a }))

pub returns-in_err-state-clause-goes : goal.returns-in_err-state-clause-goes
returns-in_err-state-clause-goes g c = λ told known.
    let p = c.args.program.now in
    let r = role_of p c.args.called in
    let argument = c.args.argument.now in
    let err = err_from_is_err_and c.from_residual.result c.from_residual.ensures.1 in
    halted (with_role_call r c.args.state.now argument told) (call_meant p) c.from_residual.result _ (cc)
    (λ go. c.in_err-state.ensures.goes told known (behind_state argument r go))

pub returns-in_err-state-clause-reached : goal.returns-in_err-state-clause-reached
returns-in_err-state-clause-reached g c = λ next.
    let r = role_of c.args.program.now c.args.called in
    let state = c.args.state.now in
    let argument = c.args.argument.now in
    let err = err_from_is_err_and c.from_residual.result c.from_residual.ensures.1 in
    faults_reached (λ told. with_role_call r state argument told (next told)) state _ _ _ c.from_residual.result (cc)
    (λ files known. ap (λ file. call_step r argument file (next (without state files))) (is_missing state files)) c.in_err-state.ensures.asked

pub returns-in_err-argument-clause-goes : goal.returns-in_err-argument-clause-goes
returns-in_err-argument-clause-goes g c = λ told known.
    let p = c.args.program.now in
    let r = role_of p c.args.called in
    let argument = c.args.argument.now in
    let state = c.in_ok-state.state.items in
    let err = err_from_is_err_and c.from_residual-in_err-argument.result c.from_residual-in_err-argument.ensures.1 in
    halted (with_role_call r c.args.state.now argument told) (call_meant p) c.from_residual-in_err-argument.result _ (cc)
    (λ go. halts_behind _ _ _ (c.in_ok-state.ensures.goes told known (behind_state argument r go))
    (hand_halts (with_spelled r argument) (λ (a : List ℕ). a) _ c.in_err-argument.ensures (λ a. go (record { role = r; state = state; argument = a }))))

pub returns-in_err-argument-clause-reached : goal.returns-in_err-argument-clause-reached
returns-in_err-argument-clause-reached g c = λ next.
    let r = role_of c.args.program.now c.args.called in
    let argument = c.args.argument.now in
    let err = err_from_is_err_and c.from_residual-in_err-argument.result c.from_residual-in_err-argument.ensures.1 in
    hand_reached (with_spelled r argument) (λ (a : List ℕ). a)
    (λ told. with_role_call r c.args.state.now argument told (next told)) _ _ _ c.from_residual-in_err-argument.result (cc) c.in_err-argument.ensures

pub returns-clause-goes : goal.returns-clause-goes
returns-clause-goes g c = λ told known go.
    let r = role_of c.args.program.now c.args.called in
    let state = c.in_ok-state.state.items in
    c.in_ok-state.ensures.goes told known (behind_state c.args.argument.now r go)
    ∙ c.in_ok-argument.ensures (λ a. go (record { role = r; state = state; argument = a }))
