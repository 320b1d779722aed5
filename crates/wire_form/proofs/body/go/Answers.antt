use Rattle.std.proofs.Common.{◌∙◌, refl}
use Rattle.session_meaning.specs.Messages as meant
use Rattle.wire_form.specs.MessageViews.{request_meant}
use Rattle.wire_form.proofs.Bodies.{where_zero, handed_on, of_field, go_end, go_rounds}
use Rattle.wire_form.proofs.body.go.Goals as goal

pub returns-in_err-behind : goal.returns-in_err-behind
returns-in_err-behind c =
    let r = c.from_residual in
    handed_on request_meant _ c.in_err-behind.field-0.0 r.result r.ensures.1
    (of_field (λ go. meant.field 2 meant.u16_in 1 c.args.body.now (where_zero go)) _ _ go_rounds refl c.in_err-behind.ensures.requests)

pub returns-in_err-rounds : goal.returns-in_err-rounds
returns-in_err-rounds c =
    let r = c.from_residual-in_err-rounds in
    handed_on request_meant _ c.in_err-rounds.field-0.0 r.result r.ensures.1
    (of_field (meant.field 4 meant.u32_in 3 c.in_ok-behind.behind.now) _ _ go_end (c.in_ok-behind.ensures.requests go_rounds) c.in_err-rounds.ensures)

pub returns-in_err-end : goal.returns-in_err-end
returns-in_err-end c =
    let r = c.from_residual-in_err-end in
    handed_on request_meant _ c.in_err-end.field-0.0 r.result r.ensures.1
    (of_field (meant.ends_at 7 c.in_ok-rounds.behind.now) _ _ (meant.Go c.in_ok-rounds.rounds)
    (c.in_ok-behind.ensures.requests go_rounds ∙ c.in_ok-rounds.ensures go_end) c.in_err-end.ensures.requests)

pub returns : goal.returns
returns c =
    c.in_ok-behind.ensures.requests go_rounds ∙ c.in_ok-rounds.ensures go_end ∙ c.in_ok-end.ensures.requests (meant.Go c.in_ok-rounds.rounds)
