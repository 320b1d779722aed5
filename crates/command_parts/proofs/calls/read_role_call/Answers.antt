use Rattle.std.proofs.Common.{◌≡◌, Option, sym, subst}
use Rattle.std.proofs.lemmas.Result.{IfOk-weaker, err_from_is_err_and}
use Rattle.command_parts.specs.RoleInputs.{with_fueled_role, with_role_call}
use Rattle.command_parts.specs.AnswerForms.{Answer}
use Rattle.command_parts.specs.FueledRoles.{FueledRole}
use Rattle.command_parts.specs.ReadPrograms.{named_of}
use Rattle.command_parts.specs.RolesCalled.{IsCalled, role_of}
use Rattle.command_parts.specs.RolesJudged.{call_meant, with_named_call}
use Rattle.command_parts.specs.declared.calls.RoleCall.{RoleCall as Call}
use Rattle.command_parts.proofs.Reached.{hand_reached, reached_as}
use Rattle.command_parts.proofs.Steps.{follows_on, halts_first, hand_halts}
use Rattle.command_parts.proofs.calls.read_role_call.Goals as goal

pub returns-in_err-called-clause-goes : goal.returns-in_err-called-clause-goes
returns-in_err-called-clause-goes g c = λ told known.
    let p = c.args.program.now in
    let words = c.args.words.now in
    let err = err_from_is_err_and c.from_residual.result c.from_residual.ensures.1 in
    let first = with_fueled_role c.args.callee (named_of p) words.role.now words.fuel.now in
    halts_first first (λ r go. with_role_call r c.args.state.now words.argument.now told go) (call_meant p) c.from_residual.result _ (cc) (hand_halts first (role_of p) _ c.in_err-called.ensures.goes)

pub returns-in_err-called-clause-reached : goal.returns-in_err-called-clause-reached
returns-in_err-called-clause-reached g c = λ next.
    let p = c.args.program.now in
    let words = c.args.words.now in
    let err = err_from_is_err_and c.from_residual.result c.from_residual.ensures.1 in
    hand_reached (with_fueled_role c.args.callee (named_of p) words.role.now words.fuel.now) (role_of p)
    (λ told. with_named_call c.args.callee (named_of p) words.role.now words.fuel.now c.args.state.now words.argument.now told (next told)) _ _ _ c.from_residual.result (cc) c.in_err-called.ensures.goes

pub read_role_inputs-requires : goal.read_role_inputs-requires
read_role_inputs-requires g c = (c.args.callee, c.in_ok-called.ensures.valid)

pub returns-clause-goes : goal.returns-clause-goes
returns-clause-goes g c = λ told known.
    let p = c.args.program.now in
    let words = c.args.words.now in
    follows_on (with_fueled_role c.args.callee (named_of p) words.role.now words.fuel.now) (role_of p c.in_ok-called.called)
    (λ r go. with_role_call r c.args.state.now words.argument.now told go) (call_meant p) c.read_role_inputs.result c.in_ok-called.ensures.goes (c.read_role_inputs.ensures.goes told known)

pub returns-clause-role : goal.returns-clause-role
returns-clause-role g c =
    let p = c.args.program.now in
    let words = c.args.words.now in
    IfOk-weaker c.read_role_inputs.result _ _ (λ (call : Call) is (go : FueledRole → Option Answer).
    subst (λ called. with_fueled_role c.args.callee (named_of p) words.role.now words.fuel.now go ≡ go (role_of p called)) (sym is) (c.in_ok-called.ensures.goes go)) c.read_role_inputs.ensures.role

pub returns-clause-valid : goal.returns-clause-valid
returns-clause-valid g c =
    IfOk-weaker c.read_role_inputs.result _ _ (λ (call : Call) is. subst (λ called. IsCalled c.args.callee c.args.program.now called) (sym is) c.in_ok-called.ensures.valid) c.read_role_inputs.ensures.role

pub returns-clause-reached : goal.returns-clause-reached
returns-clause-reached g c = λ next.
    let p = c.args.program.now in
    let words = c.args.words.now in
    let r = role_of p c.in_ok-called.called in
    reached_as (λ told. with_named_call c.args.callee (named_of p) words.role.now words.fuel.now c.args.state.now words.argument.now told (next told))
    (λ told. with_role_call r c.args.state.now words.argument.now told (next told)) _ _ c.read_role_inputs.result
    (λ files. c.in_ok-called.ensures.goes (λ r. with_role_call r c.args.state.now words.argument.now files (next files))) (c.read_role_inputs.ensures.reached next)
