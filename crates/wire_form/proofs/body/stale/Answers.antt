use Rattle.std.proofs.Common.{◌∙◌, ap, refl, sym}
use Rattle.session_meaning.specs.Messages as meant
use Rattle.wire_form.specs.MessageViews.{reply_meant}
use Rattle.wire_form.proofs.Bodies.{handed_on, of_field}
use Rattle.wire_form.proofs.body.stale.Goals as goal

pub returns-in_err-session : goal.returns-in_err-session
returns-in_err-session c =
    let r = c.from_residual in
    handed_on reply_meant _ c.in_err-session.field-0.0 r.result r.ensures.1
    (of_field (meant.session_field c.args.body.now) _ _ (λ session state. meant.Says (meant.Stale session state))
    refl c.in_err-session.ensures.replies)

pub returns : goal.returns
returns c =
    c.in_ok-session.ensures.replies (λ session state. meant.Says (meant.Stale session state))
    ∙ ap (λ bytes. meant.Says (meant.Stale c.in_ok-session.session bytes)) (sym (c.in_ok-state.ensures))
