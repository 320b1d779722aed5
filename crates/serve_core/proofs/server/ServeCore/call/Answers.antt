use Rattle.std.proofs.Common.{◌≡◌, ◌∙◌, List, ℕ, false, map, Result, Ok, refl, ap, sym, subst}
use Rattle.code_gen.specs.Programs.{program_in}
use Rattle.mode_vm.specs.Meanings.{program_of}
use Rattle.session_meaning.specs.Calls.{RoleCall}
use Rattle.session_meaning.specs.Causes as cause
use Rattle.session_meaning.specs.Server as meant
use Rattle.session_meaning.proofs.Orderly.{call_ok}
use Rattle.wire_form.specs.MessageViews.{reply_meant}
use Rattle.wire_form.specs.declared.message.Reply.{Reply}
use Rattle.serve_core.specs.Serving.{HandlesAs}
use Rattle.serve_core.proofs.server.ServeCore.call.Goals as goal

pub start-requires-clause-serves : goal.start-requires-clause-serves
start-requires-clause-serves g c κs within =
    let core = c.args.self.now in
    let hash = g.H.Hash32.hash in
    let server = c.requires.serves.0 in
    let is = c.in-Ok.ensures server c.requires.serves.1 in
    let call : RoleCall = record { role = c.args.role; argument = is.1; fuel = c.args.fuel } in
    let admits = call_ok hash (program_of core.code) (program_in core.code).text_digest.0 (meant.last_turn core.slice) server c.args.number c.args.role c.args.fuel c.as_bytes.result.now
    (record { session = is.0; call = call }) is.2 in
    (server, is.0, call, c.requires.serves.1, admits.there, is.3)

pub returns-in_ok-start-in-Ok-clause-answered : goal.returns-in_ok-start-in-Ok-clause-answered
returns-in_ok-start-in-Ok-clause-answered g c server serves =
    let core = c.args.self.now in
    let hash = g.H.Hash32.hash in
    let P = program_of core.code in
    let own = (program_in core.code).text_digest.0 in
    let ending = meant.last_turn core.slice in
    let is = c.in-Ok.ensures server serves in
    let call : RoleCall = record { role = c.args.role; argument = is.1; fuel = c.args.fuel } in
    let admitted : meant.Admitted = record { session = is.0; call = call } in
    let admits = call_ok hash P own ending server c.args.number c.args.role c.args.fuel c.as_bytes.result.now admitted is.2 in
    let tested = subst (λ (bytes : List ℕ). meant.call_test hash P own ending server c.args.number c.args.role c.args.fuel bytes ≡ Ok admitted) c.as_bytes.ensures is.2 in
    let started = c.in_ok-start-in-Ok.ensures.started server is.0 call serves admits.there is.3 (record { role = c.from.ensures; argument = sym c.as_bytes.ensures ∙ is.4; fuel = refl }) in
    subst (λ (t : Result meant.Admitted cause.Refusal). HandlesAs hash c.start.new.self (record { list = c.new.result; closing = false }) (meant.call_step t server c.args.number)) (sym tested)
    (record { serves = started; list = ap (λ (rs : List Reply). map reply_meant rs) c.new.ensures.items; closing = refl })
