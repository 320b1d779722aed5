use Rattle.std.proofs.Common.{◌∙◌, ap, refl, sym}
use Rattle.session_meaning.specs.Messages as meant
use Rattle.wire_form.specs.MessageViews.{request_meant}
use Rattle.wire_form.proofs.Bodies.{handed_on, of_field, hello_end, hello_number, hello_program}
use Rattle.wire_form.proofs.body.hello.Goals as goal

pub returns-in_err-session : goal.returns-in_err-session
returns-in_err-session c =
    let r = c.from_residual in
    handed_on request_meant _ c.in_err-session.field-0.0 r.result r.ensures.1
    (of_field (meant.session_field c.args.body.now) _ _ hello_program refl c.in_err-session.ensures.requests)

pub returns-in_err-program : goal.returns-in_err-program
returns-in_err-program c =
    let r = c.from_residual-in_err-program in
    handed_on request_meant _ c.in_err-program.field-0.0 r.result r.ensures.1
    (of_field (meant.program_field c.in_ok-session.behind.now) _ _ (hello_number c.in_ok-session.session)
    (c.in_ok-session.ensures.requests hello_program) c.in_err-program.ensures.requests)

pub returns-in_err-kept : goal.returns-in_err-kept
returns-in_err-kept c =
    let r = c.from_residual-in_err-kept in
    handed_on request_meant _ c.in_err-kept.field-0.0 r.result r.ensures.1
    (of_field (meant.field 2 meant.u16_in 35 c.in_ok-program.behind.now) _ _ (hello_end c.in_ok-session.session c.in_ok-program.program.0)
    (c.in_ok-session.ensures.requests hello_program ∙ c.in_ok-program.ensures.requests (hello_number c.in_ok-session.session)) c.in_err-kept.ensures.requests)

pub returns : goal.returns
returns c =
    c.in_ok-session.ensures.requests hello_program ∙ c.in_ok-program.ensures.requests (hello_number c.in_ok-session.session) ∙ c.in_ok-kept.ensures.requests (hello_end c.in_ok-session.session c.in_ok-program.program.0)
    ∙ ap (hello_end c.in_ok-session.session c.in_ok-program.program.0 c.in_ok-kept.kept) (sym (c.in_ok-state.ensures))
