use Rattle.std.proofs.Common.{◌∙◌, refl}
use Rattle.session_meaning.specs.Messages as meant
use Rattle.wire_form.proofs.Bodies.{handed_nothing, refused_session, taken_zero, where_zero}
use Rattle.wire_form.proofs.fields.zero_field.Goals as goal

pub returns-in_err-session-clause-requests : goal.returns-in_err-session-clause-requests
returns-in_err-session-clause-requests c =
    handed_nothing _ _ (meant.field 2 meant.u16_in 1 c.args.body.now) where_zero c.in_err-session.field-0.0 c.from_residual.result (λ go. refl) c.from_residual.ensures.1 c.in_err-session.ensures.requests

pub returns-then-session-ne0-clause-requests : goal.returns-then-session-ne0-clause-requests
returns-then-session-ne0-clause-requests c =
    λ go. c.in_ok-session.ensures.requests (where_zero go) ∙ refused_session go c.in_ok-session.session c.in_ok-session.behind.now c.if-session-ne0.true

pub returns-clause-requests : goal.returns-clause-requests
returns-clause-requests c =
    λ go. c.in_ok-session.ensures.requests (where_zero go) ∙ taken_zero go c.in_ok-session.session c.in_ok-session.behind.now c.if-session-ne0.false

pub returns-in_err-session-clause-fetches : goal.returns-in_err-session-clause-fetches
returns-in_err-session-clause-fetches c =
    handed_nothing _ _ (meant.field 2 meant.u16_in 1 c.args.body.now) where_zero c.in_err-session.field-0.0 c.from_residual.result (λ go. refl) c.from_residual.ensures.1 c.in_err-session.ensures.fetches

pub returns-then-session-ne0-clause-fetches : goal.returns-then-session-ne0-clause-fetches
returns-then-session-ne0-clause-fetches c =
    λ go. c.in_ok-session.ensures.fetches (where_zero go) ∙ refused_session go c.in_ok-session.session c.in_ok-session.behind.now c.if-session-ne0.true

pub returns-clause-fetches : goal.returns-clause-fetches
returns-clause-fetches c =
    λ go. c.in_ok-session.ensures.fetches (where_zero go) ∙ taken_zero go c.in_ok-session.session c.in_ok-session.behind.now c.if-session-ne0.false

pub returns-in_err-session-clause-answers : goal.returns-in_err-session-clause-answers
returns-in_err-session-clause-answers c =
    handed_nothing _ _ (meant.field 2 meant.u16_in 1 c.args.body.now) where_zero c.in_err-session.field-0.0 c.from_residual.result (λ go. refl) c.from_residual.ensures.1 c.in_err-session.ensures.answers

pub returns-then-session-ne0-clause-answers : goal.returns-then-session-ne0-clause-answers
returns-then-session-ne0-clause-answers c =
    λ go. c.in_ok-session.ensures.answers (where_zero go) ∙ refused_session go c.in_ok-session.session c.in_ok-session.behind.now c.if-session-ne0.true

pub returns-clause-answers : goal.returns-clause-answers
returns-clause-answers c =
    λ go. c.in_ok-session.ensures.answers (where_zero go) ∙ taken_zero go c.in_ok-session.session c.in_ok-session.behind.now c.if-session-ne0.false
