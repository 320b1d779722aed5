use Rattle.std.proofs.Common.{◌∙◌, ap, refl, sym}
use Rattle.session_meaning.specs.Messages as meant
use Rattle.wire_form.specs.MessageViews.{request_meant}
use Rattle.wire_form.proofs.Bodies.{handed_on, of_field, call_end, call_fuel, call_role}
use Rattle.wire_form.proofs.body.call.Goals as goal

pub returns-in_err-session : goal.returns-in_err-session
returns-in_err-session c =
    let r = c.from_residual in
    handed_on request_meant _ c.in_err-session.field-0.0 r.result r.ensures.1
    (of_field (meant.session_field c.args.body.now) _ _ call_role refl c.in_err-session.ensures.requests)

pub returns-in_err-role : goal.returns-in_err-role
returns-in_err-role c =
    let r = c.from_residual-in_err-role in
    handed_on request_meant _ c.in_err-role.field-0.0 r.result r.ensures.1
    (of_field (meant.field 2 meant.u16_in 3 c.in_ok-session.behind.now) _ _ (call_fuel c.in_ok-session.session)
    (c.in_ok-session.ensures.requests call_role) c.in_err-role.ensures.requests)

pub returns-in_err-fuel : goal.returns-in_err-fuel
returns-in_err-fuel c =
    let r = c.from_residual-in_err-fuel in
    handed_on request_meant _ c.in_err-fuel.field-0.0 r.result r.ensures.1
    (of_field (meant.field 8 meant.u64_in 5 c.in_ok-role.behind.now) _ _ (call_end c.in_ok-session.session c.in_ok-role.role)
    (c.in_ok-session.ensures.requests call_role ∙ c.in_ok-role.ensures.requests (call_fuel c.in_ok-session.session)) c.in_err-fuel.ensures)

pub returns : goal.returns
returns c =
    c.in_ok-session.ensures.requests call_role ∙ c.in_ok-role.ensures.requests (call_fuel c.in_ok-session.session) ∙ c.in_ok-fuel.ensures (call_end c.in_ok-session.session c.in_ok-role.role)
    ∙ ap (call_end c.in_ok-session.session c.in_ok-role.role c.in_ok-fuel.fuel) (sym (c.in_ok-argument.ensures))
