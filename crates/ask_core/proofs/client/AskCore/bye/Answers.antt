use Rattle.std.proofs.Common.{◌∙◌}
use Rattle.code_gen.specs.Programs.{program_in}
use Rattle.mode_vm.specs.Meanings.{program_of}
use Rattle.session_meaning.specs.Client.{Byes, take_event}
use Rattle.session_tables.specs.Tables.{rows_of}
use Rattle.verifier_mode.proofs.Given.{gives_with}
use Rattle.ask_core.specs.Answers.{Asks}
use Rattle.ask_core.specs.Clients.{IsClient}
use Rattle.ask_core.specs.declared.standing.Standing.TheVariants.{Leaving}
use Rattle.ask_core.proofs.Asking.{leaves, refused_so}
use Rattle.ask_core.proofs.Refusing.{bye_refused}
use Rattle.ask_core.proofs.client.AskCore.bye.Goals as goal

pub returns-in_err-known-clause-answer : goal.returns-in_err-known-clause-answer
returns-in_err-known-clause-answer g c m is =
    let core = c.args.self.now in
    let P = program_of core.code in
    let own = (program_in core.code).text_digest.0 in
    let hash = g.H.Hash32.hash in
    let fault = c.in_err-known.field-0.0 in
    let later = rows_of c.take_idle.new.sessions in
    let t = take_event hash P own m (Byes c.args.session) in
    gives_with (Asks (IsClient P core.closed later) m t) fault _ c.from_residual.ensures.1
    (refused_so P core.closed (rows_of core.sessions) later m is t fault c.in_err-known.ensures.same
    (bye_refused hash P own core.closed (rows_of core.sessions) m is c.args.session fault c.in_err-known.ensures.refused))

pub returns-clause-answer : goal.returns-clause-answer
returns-clause-answer g c m is =
    let core = c.args.self.now in
    let P = program_of core.code in
    let own = (program_in core.code).text_digest.0 in
    leaves g.H.Hash32.hash P own core.closed (rows_of core.sessions) (rows_of c.put.new.self) m is c.args.session c.in_ok-known.known
    c.in_ok-known.ensures.open c.in_ok-known.ensures.idle (c.in_ok-put.ensures.ok ∙ c.in_ok-known.ensures.behind (Leaving c.in_ok-known.known))
