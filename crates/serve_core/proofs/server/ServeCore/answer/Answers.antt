use Rattle.std.proofs.Common.{◌≡◌, ◌+◌, suc, refl, sym, subst, arith, lt-ltb}
use Rattle.mode_vm.specs.Meanings.{program_of}
use Rattle.session_meaning.specs.Server as meant
use Rattle.session_meaning.specs.Stopped.{Reaches}
use Rattle.wire_form.specs.MessageViews.{request_meant}
use Rattle.serve_core.specs.Serving.{HandlesAs, heard_meant}
use Rattle.code_gen.specs.Programs.{program_in}
use Rattle.std.proofs.lemmas.Result.{IfOk-weaker}
use Rattle.serve_core.specs.declared.heard.Heard.{Heard}
use Rattle.serve_core.proofs.Answering.{counted_reaches}
use Rattle.serve_core.proofs.Steps.{err_then, with_heard}
use Rattle.serve_core.proofs.server.ServeCore.answer.Goals as goal

pub request-requires-clause-serves : goal.request-requires-clause-serves
request-requires-clause-serves g c κs within =
    let core = c.args.self.now in
    let server = c.requires.serves.0 in
    let h = c.requires.serves.1 in
    let same = h.heard in
    let more : core.heard + 1 ≡ suc server.heard = omega (arith, same) in
    (record server { heard = suc server.heard }, with_heard g.H.Hash32.hash core _ server (suc server.heard) refl refl refl refl more h)

pub returns-else-self-ge-MAX_MESSAGES-clause-stopped : goal.returns-else-self-ge-MAX_MESSAGES-clause-stopped
returns-else-self-ge-MAX_MESSAGES-clause-stopped g c =
    err_then _ _ (λ f server h.
    let core = c.args.self.now in
    let hash = g.H.Hash32.hash in
    let P = program_of core.code in
    let ending = meant.last_turn core.slice in
    let same = h.heard in
    let more : core.heard + 1 ≡ suc server.heard = omega (arith, same) in
    let r = f (record server { heard = suc server.heard }) (with_heard hash core _ server (suc server.heard) refl refl refl refl more h) in
    let counts = let few = c.if-self-ge-MAX_MESSAGES.false in lt-ltb server.heard meant.messages_limit (omega (arith, few, same)) in
    let reached = counted_reaches hash P ending server (suc server.heard) (request_meant c.in-Request.request) r.0 counts r.1 in
    (r.0, subst (λ (m : Heard). Reaches hash P ending server (heard_meant m) r.0) (sym c.in-Request.is) reached, r.2))
    c.request.result c.request.ensures.stopped

pub returns-else-self-ge-MAX_MESSAGES-clause-handled : goal.returns-else-self-ge-MAX_MESSAGES-clause-handled
returns-else-self-ge-MAX_MESSAGES-clause-handled g c =
    IfOk-weaker c.request.result _ _ (λ replies f server h.
    let core = c.args.self.now in
    let hash = g.H.Hash32.hash in
    let P = program_of core.code in
    let own = (program_in core.code).text_digest.0 in
    let same = h.heard in
    let more : core.heard + 1 ≡ suc server.heard = omega (arith, same) in
    let r = f (record server { heard = suc server.heard }) (with_heard hash core _ server (suc server.heard) refl refl refl refl more h) in
    let counts = let few = c.if-self-ge-MAX_MESSAGES.false in lt-ltb server.heard meant.messages_limit (omega (arith, few, same)) in
    subst (λ (m : Heard). HandlesAs hash c.request.new.self replies (meant.handle hash P own (meant.last_turn core.slice) server (heard_meant m))) (sym c.in-Request.is) (rw counts r))
    c.request.ensures.answered
