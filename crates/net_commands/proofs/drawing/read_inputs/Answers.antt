use Rattle.std.proofs.Common.{ℕ, Option, None, sym, subst, ◌∙◌}
use Rattle.std.proofs.lemmas.Result.{err_from_is_err_and}
use Rattle.lam_outside.specs.Told.{Contents}
use Rattle.printed_lines.specs.declared.refusal.Argument.TheVariants.{Port}
use Rattle.command_parts.specs.Answer.{Drawing, with_drawn}
use Rattle.command_parts.specs.RoleInputs.{with_fueled_role, with_role_call}
use Rattle.command_parts.specs.FileInputs.{with_number}
use Rattle.command_parts.specs.AnswerForms.{Answer}
use Rattle.command_parts.specs.Arguments.{most_port, positive_within}
use Rattle.command_parts.specs.FueledRoles.{FueledRole}
use Rattle.command_parts.specs.ReadPrograms.{named_of}
use Rattle.command_parts.specs.RolesCalled.{IsCalled, role_of}
use Rattle.command_parts.specs.declared.roles.Callee.TheVariants.{OfState}
use Rattle.command_parts.proofs.Reached.{hand_reached, same_fault}
use Rattle.command_parts.proofs.Steps.{halted, halts_behind, halts_first, hand_halts}
use Rattle.net_commands.specs.PreparedDrawings.{TellsRole, drawn_with}
use Rattle.net_commands.specs.declared.drawing.DrawWords.{DrawWords}
use Rattle.net_commands.proofs.drawing.read_inputs.Goals as goal

-- what stands behind the port, and what behind the role
abbrev behind_port : DrawWords → Contents → FueledRole → (Drawing → Option Answer) → ℕ → Option Answer
behind_port words files r go n = with_role_call r words.state.now words.call.argument.now files (λ call. go (record { call = call; port = n }))

abbrev on_port : DrawWords → (ℕ → Option Answer) → Option Answer
on_port words go = with_number Port (positive_within most_port words.port.now) go

abbrev behind_role : DrawWords → Contents → FueledRole → (Drawing → Option Answer) → Option Answer
behind_role words files r go = on_port words (behind_port words files r go)

pub returns-in_err-called-clause-goes : goal.returns-in_err-called-clause-goes
returns-in_err-called-clause-goes g c = λ told known.
    let p = c.args.program.now in
    let words = c.args.words.now in
    let err = err_from_is_err_and c.from_residual.result c.from_residual.ensures.1 in
    let first = with_fueled_role OfState (named_of p) words.call.role.now words.call.fuel.now in
    halts_first first (behind_role words told) (drawn_with p) c.from_residual.result _ (cc) (hand_halts first (role_of p) _ c.in_err-called.ensures.goes)

pub returns-in_err-called-clause-reached : goal.returns-in_err-called-clause-reached
returns-in_err-called-clause-reached g c =
    let p = c.args.program.now in
    let words = c.args.words.now in
    let err = err_from_is_err_and c.from_residual.result c.from_residual.ensures.1 in
    hand_reached (with_fueled_role OfState (named_of p) words.call.role.now words.call.fuel.now) (role_of p)
    (λ told. with_drawn (named_of p) words.call.role.now words.state.now words.call.argument.now words.call.fuel.now words.port.now told (λ drawing. None)) _ _ _ c.from_residual.result (cc)
    c.in_err-called.ensures.goes

pub returns-in_err-port-clause-goes : goal.returns-in_err-port-clause-goes
returns-in_err-port-clause-goes g c = λ told known.
    let p = c.args.program.now in
    let words = c.args.words.now in
    let r = role_of p c.in_ok-called.called in
    let err = err_from_is_err_and c.from_residual-in_err-port.result c.from_residual-in_err-port.ensures.1 in
    halted (with_drawn (named_of p) words.call.role.now words.state.now words.call.argument.now words.call.fuel.now words.port.now told) (drawn_with p) c.from_residual-in_err-port.result _ (cc)
    (λ go. halts_behind _ _ _ (c.in_ok-called.ensures.goes (λ r. behind_role words told r go)) (hand_halts (on_port words) (λ (n : ℕ). n) _ c.in_err-port.ensures.goes (behind_port words told r go)))

pub returns-in_err-port-clause-reached : goal.returns-in_err-port-clause-reached
returns-in_err-port-clause-reached g c =
    let p = c.args.program.now in
    let words = c.args.words.now in
    let err = err_from_is_err_and c.from_residual-in_err-port.result c.from_residual-in_err-port.ensures.1 in
    hand_reached (on_port words) (λ (n : ℕ). n)
    (λ told. with_drawn (named_of p) words.call.role.now words.state.now words.call.argument.now words.call.fuel.now words.port.now told (λ drawing. None)) _ _ _
    c.from_residual-in_err-port.result (cc) c.in_err-port.ensures.goes

pub read_role_inputs-requires : goal.read_role_inputs-requires
read_role_inputs-requires g c = (OfState, c.in_ok-called.ensures.valid)

pub returns-in_err-call-clause-goes : goal.returns-in_err-call-clause-goes
returns-in_err-call-clause-goes g c = λ told known.
    let p = c.args.program.now in
    let words = c.args.words.now in
    let r = role_of p c.in_ok-called.called in
    let port = c.in_ok-port.port in
    let err = err_from_is_err_and c.from_residual-in_err-call.result c.from_residual-in_err-call.ensures.1 in
    halted (with_drawn (named_of p) words.call.role.now words.state.now words.call.argument.now words.call.fuel.now words.port.now told) (drawn_with p) c.from_residual-in_err-call.result _ (cc)
    (λ go. halts_behind _ _ _ (c.in_ok-called.ensures.goes (λ r. behind_role words told r go) ∙ c.in_ok-port.ensures.goes (behind_port words told r go))
    (c.in_err-call.ensures.goes told known (λ call. go (record { call = call; port = port }))))

pub returns-in_err-call-clause-reached : goal.returns-in_err-call-clause-reached
returns-in_err-call-clause-reached g c =
    let p = c.args.program.now in
    let words = c.args.words.now in
    let r = role_of p c.in_ok-called.called in
    let err = err_from_is_err_and c.from_residual-in_err-call.result c.from_residual-in_err-call.ensures.1 in
    same_fault (λ told. with_drawn (named_of p) words.call.role.now words.state.now words.call.argument.now words.call.fuel.now words.port.now told (λ drawing. None))
    (λ told. with_role_call r words.state.now words.call.argument.now told (λ call. None)) _ _ _ c.from_residual-in_err-call.result (cc)
    (λ files. c.in_ok-called.ensures.goes (λ r. behind_role words files r (λ drawing. None)) ∙ c.in_ok-port.ensures.goes (behind_port words files r (λ drawing. None)))
    (c.in_err-call.ensures.reached (λ files call. None))

pub returns-clause-goes : goal.returns-clause-goes
returns-clause-goes g c = λ told known go.
    let words = c.args.words.now in
    let r = role_of c.args.program.now c.in_ok-called.called in
    let port = c.in_ok-port.port in
    c.in_ok-called.ensures.goes (λ r. behind_role words told r go)
    ∙ (c.in_ok-port.ensures.goes (behind_port words told r go) ∙ c.in_ok-call.ensures.goes told known (λ call. go (record { call = call; port = port })))

pub returns-clause-called : goal.returns-clause-called
returns-clause-called g c = subst (λ called. IsCalled OfState c.args.program.now called) (sym c.in_ok-call.ensures.role) c.in_ok-called.ensures.valid

pub returns-clause-role : goal.returns-clause-role
returns-clause-role g c =
    let p = c.args.program.now in
    let words = c.args.words.now in
    subst (λ called. TellsRole (named_of p) words.call.role.now words.call.fuel.now (role_of p called)) (sym c.in_ok-call.ensures.role) c.in_ok-called.ensures.goes

pub returns-clause-port : goal.returns-clause-port
returns-clause-port g c = c.in_ok-port.ensures.goes
