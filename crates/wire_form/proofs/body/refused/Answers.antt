use Rattle.std.proofs.Common.{◌∙◌, refl}
use Rattle.session_meaning.specs.Messages as meant
use Rattle.wire_form.specs.MessageViews.{reply_meant}
use Rattle.wire_form.proofs.Bodies.{handed_on, of_field, cause_end, cause_number}
use Rattle.wire_form.proofs.body.refused.Goals as goal

pub returns-in_err-session : goal.returns-in_err-session
returns-in_err-session c =
    let r = c.from_residual in
    handed_on reply_meant _ c.in_err-session.field-0.0 r.result r.ensures.1
    (of_field (meant.field 2 meant.u16_in 1 c.args.body.now) _ _ (cause_number meant.Refused) refl c.in_err-session.ensures.replies)

pub returns-in_err-cause : goal.returns-in_err-cause
returns-in_err-cause c =
    let r = c.from_residual-in_err-cause in
    handed_on reply_meant _ c.in_err-cause.field-0.0 r.result r.ensures.1
    (of_field (meant.field 1 meant.u8_in 3 c.in_ok-session.behind.now) _ _ (cause_end meant.Refused c.in_ok-session.session)
    (c.in_ok-session.ensures.replies (cause_number meant.Refused)) c.in_err-cause.ensures)

pub returns-in_err-end : goal.returns-in_err-end
returns-in_err-end c =
    let r = c.from_residual-in_err-end in
    handed_on reply_meant _ c.in_err-end.field-0.0 r.result r.ensures.1
    (of_field (meant.ends_at 4 c.in_ok-cause.behind.now) _ _ (meant.Refused c.in_ok-session.session c.in_ok-cause.cause)
    (c.in_ok-session.ensures.replies (cause_number meant.Refused) ∙ c.in_ok-cause.ensures (cause_end meant.Refused c.in_ok-session.session)) c.in_err-end.ensures.replies)

pub returns : goal.returns
returns c =
    c.in_ok-session.ensures.replies (cause_number meant.Refused) ∙ c.in_ok-cause.ensures (cause_end meant.Refused c.in_ok-session.session) ∙ c.in_ok-end.ensures.replies (meant.Refused c.in_ok-session.session c.in_ok-cause.cause)
