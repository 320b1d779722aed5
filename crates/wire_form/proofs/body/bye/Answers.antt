use Rattle.std.proofs.Common.{◌∙◌, refl}
use Rattle.session_meaning.specs.Messages as meant
use Rattle.wire_form.specs.MessageViews.{request_meant}
use Rattle.wire_form.proofs.Bodies.{handed_on, of_field, bye_end}
use Rattle.wire_form.proofs.body.bye.Goals as goal

pub returns-in_err-session : goal.returns-in_err-session
returns-in_err-session c =
    let r = c.from_residual in
    handed_on request_meant _ c.in_err-session.field-0.0 r.result r.ensures.1
    (of_field (meant.session_field c.args.body.now) _ _ bye_end refl c.in_err-session.ensures.requests)

pub returns-in_err-end : goal.returns-in_err-end
returns-in_err-end c =
    let r = c.from_residual-in_err-end in
    handed_on request_meant _ c.in_err-end.field-0.0 r.result r.ensures.1
    (of_field (meant.ends_at 3 c.in_ok-session.behind.now) _ _ (meant.Bye c.in_ok-session.session)
    (c.in_ok-session.ensures.requests bye_end) c.in_err-end.ensures.requests)

pub returns : goal.returns
returns c =
    c.in_ok-session.ensures.requests bye_end ∙ c.in_ok-end.ensures.requests (meant.Bye c.in_ok-session.session)
