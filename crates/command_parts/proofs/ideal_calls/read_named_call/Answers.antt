use Rattle.std.proofs.Common.{ap, sym, ◌∙◌}
use Rattle.std.proofs.lemmas.Result.{IfOk-weaker, err_from_is_err_and}
use Rattle.command_parts.specs.RoleInputs.{with_fueled_role, with_ideal_call}
use Rattle.command_parts.specs.CallsInStores.{HoldsCall, with_called}
use Rattle.command_parts.specs.ReadPrograms.{named_of}
use Rattle.command_parts.specs.Reaching.{without}
use Rattle.command_parts.specs.RolesCalled.{role_of}
use Rattle.command_parts.proofs.Reached.{at_reached, hand_reached, inputs_step, is_missing}
use Rattle.command_parts.proofs.Steps.{follows, halts_first_for, hand_halts}
use Rattle.command_parts.proofs.ideal_calls.read_named_call.Goals as goal

pub returns-in_err-called-clause-goes : goal.returns-in_err-called-clause-goes
returns-in_err-called-clause-goes g c = λ told known.
    let p = c.args.program.now in
    let words = c.args.words.now in
    let first = with_fueled_role c.args.callee (named_of p) words.role.now words.fuel.now in
    let err = err_from_is_err_and c.from_residual.result c.from_residual.ensures.1 in
    halts_first_for first (λ r go. with_ideal_call r c.args.image.now words.argument.now told go) (HoldsCall c.args.callee p) c.from_residual.result _ (cc)
    (hand_halts first (role_of p) _ c.in_err-called.ensures.goes)

pub returns-in_err-called-clause-reached : goal.returns-in_err-called-clause-reached
returns-in_err-called-clause-reached g c = λ next.
    let p = c.args.program.now in
    let words = c.args.words.now in
    let err = err_from_is_err_and c.from_residual.result c.from_residual.ensures.1 in
    hand_reached (with_fueled_role c.args.callee (named_of p) words.role.now words.fuel.now) (role_of p)
    (λ told. with_called c.args.callee (named_of p) words.role.now c.args.image.now words.argument.now words.fuel.now told (next told)) _ _ _ c.from_residual.result (cc) c.in_err-called.ensures.goes

pub read_ideal_call-requires : goal.read_ideal_call-requires
read_ideal_call-requires g c = (c.args.callee, c.in_ok-called.ensures.valid)

pub returns-clause-goes : goal.returns-clause-goes
returns-clause-goes g c = λ told known.
    let p = c.args.program.now in
    let words = c.args.words.now in
    follows (with_fueled_role c.args.callee (named_of p) words.role.now words.fuel.now) (role_of p c.in_ok-called.called)
    (λ r go. with_ideal_call r c.args.image.now words.argument.now told go) (HoldsCall c.args.callee p) c.read_ideal_call.result
    c.in_ok-called.ensures.goes (c.read_ideal_call.ensures.goes c.args.callee c.in_ok-called.ensures.valid told known)

pub returns-clause-holds : goal.returns-clause-holds
returns-clause-holds g c = c.read_ideal_call.ensures.holds c.args.callee c.in_ok-called.ensures.valid

pub returns-clause-role : goal.returns-clause-role
returns-clause-role g c =
    IfOk-weaker c.read_ideal_call.result _ _ (λ held same go. c.in_ok-called.ensures.goes go ∙ ap (λ called. go (role_of c.args.program.now called)) (sym same)) c.read_ideal_call.ensures.called

pub returns-clause-reached : goal.returns-clause-reached
returns-clause-reached g c = λ next.
    let p = c.args.program.now in
    let words = c.args.words.now in
    let image = c.args.image.now in
    let r = role_of p c.in_ok-called.called in
    at_reached (λ told. with_called c.args.callee (named_of p) words.role.now image words.argument.now words.fuel.now told (next told)) image _ _ c.read_ideal_call.result
    (λ files known. c.in_ok-called.ensures.goes (λ r. with_ideal_call r image words.argument.now (without image files) (next (without image files)))
    ∙ ap (λ file. inputs_step r words.argument.now file (next (without image files))) (is_missing image files)) c.read_ideal_call.ensures.asked
