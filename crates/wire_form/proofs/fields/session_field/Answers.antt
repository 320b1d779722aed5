use Rattle.std.proofs.Common.{◌∙◌, refl}
use Rattle.session_meaning.specs.Messages as meant
use Rattle.wire_form.proofs.Bodies.{handed_field, refused_zero, taken_session, unless_zero}
use Rattle.wire_form.proofs.fields.session_field.Goals as goal

pub returns-in_err-session-clause-requests : goal.returns-in_err-session-clause-requests
returns-in_err-session-clause-requests c =
    handed_field _ _ _ (meant.field 2 meant.in_two 1 c.args.body.now) unless_zero c.in_err-session.field-0.0 c.from_residual.result (λ go. refl) c.from_residual.ensures.1 c.in_err-session.ensures.requests

pub returns-then-session-eq0-clause-requests : goal.returns-then-session-eq0-clause-requests
returns-then-session-eq0-clause-requests c =
    λ go. c.in_ok-session.ensures.requests (unless_zero go) ∙ refused_zero go c.in_ok-session.session c.in_ok-session.behind.now c.if-session-eq0.true

pub returns-clause-requests : goal.returns-clause-requests
returns-clause-requests c =
    λ go. c.in_ok-session.ensures.requests (unless_zero go) ∙ taken_session go c.in_ok-session.session c.in_ok-session.behind.now c.if-session-eq0.false

pub returns-in_err-session-clause-replies : goal.returns-in_err-session-clause-replies
returns-in_err-session-clause-replies c =
    handed_field _ _ _ (meant.field 2 meant.in_two 1 c.args.body.now) unless_zero c.in_err-session.field-0.0 c.from_residual.result (λ go. refl) c.from_residual.ensures.1 c.in_err-session.ensures.replies

pub returns-then-session-eq0-clause-replies : goal.returns-then-session-eq0-clause-replies
returns-then-session-eq0-clause-replies c =
    λ go. c.in_ok-session.ensures.replies (unless_zero go) ∙ refused_zero go c.in_ok-session.session c.in_ok-session.behind.now c.if-session-eq0.true

pub returns-clause-replies : goal.returns-clause-replies
returns-clause-replies c =
    λ go. c.in_ok-session.ensures.replies (unless_zero go) ∙ taken_session go c.in_ok-session.session c.in_ok-session.behind.now c.if-session-eq0.false
