use Rattle.std.proofs.Common.{refl, sym, ap, ◌∙◌}
use Rattle.code_gen.specs.Programs.{program_in}
use Rattle.core_terms.specs.declared.digest.Digest.{Digest}
use Rattle.core_terms.specs.declared.program.Program.{Program}
use Rattle.mode_vm.specs.Meanings.{program_of}
use Rattle.session_meaning.specs.Client.{Hellos, take_event}
use Rattle.session_tables.specs.Tables.{rows_of}
use Rattle.verifier_mode.proofs.Given.{gives_with}
use Rattle.ask_core.specs.Answers.{Asks}
use Rattle.ask_core.specs.Clients.{IsClient}
use Rattle.ask_core.proofs.Asking.{greets, hello_faulty, refused_so}
use Rattle.ask_core.proofs.Refusing.{hello_refused, none_there}
use Rattle.ask_core.proofs.client.AskCore.hello.Goals as goal

pub returns-in-Some-clause-answer : goal.returns-in-Some-clause-answer
returns-in-Some-clause-answer g c m is =
    let core = c.args.self.now in
    let P = program_of core.code in
    let own = (program_in core.code).text_digest.0 in
    let hash = g.H.Hash32.hash in
    let rows = rows_of core.sessions in
    let t = take_event hash P own m (Hellos c.args.session c.args.size c.args.state.now) in
    refused_so P core.closed rows rows m is t c.in-Some.fault refl
    (hello_refused hash P own core.closed rows m is c.args.session c.args.size c.args.state.now c.in-Some.fault (sym c.greeting_refused.ensures ∙ c.in-Some.is))

pub returns-in_err-check_state-clause-answer : goal.returns-in_err-check_state-clause-answer
returns-in_err-check_state-clause-answer g c m is =
    let core = c.args.self.now in
    let P = program_of core.code in
    let own = (program_in core.code).text_digest.0 in
    let hash = g.H.Hash32.hash in
    let rows = rows_of core.sessions in
    let t = take_event hash P own m (Hellos c.args.session c.args.size c.args.state.now) in
    let fault = c.in_err-check_state.field-0.0 in
    let open_here = sym c.greeting_refused.ensures ∙ none_there c.greeting_refused.result c.in_default.not-Some in
    gives_with (Asks (IsClient P core.closed rows) m t) fault _ c.from_residual.ensures.1
    (hello_faulty hash P own core.closed rows rows m is c.args.session c.args.size c.args.state.now (Unit {0}) fault open_here c.in_err-check_state.ensures refl)

pub returns-clause-answer : goal.returns-clause-answer
returns-clause-answer g c m is =
    let core = c.args.self.now in
    let P = program_of core.code in
    let own = (program_in core.code).text_digest.0 in
    greets g.H.Hash32.hash P own core.closed (rows_of core.sessions) (rows_of c.put.new.self) m is c.args.session c.args.size c.args.state.now
    c.in_ok-standing.standing (sym c.greeting_refused.ensures ∙ none_there c.greeting_refused.result c.in_default.not-Some)
    c.in_ok-check_state.ensures c.in_ok-standing.ensures c.text_digest-program.result.now
    (ap (λ (d : Digest). d.0) (c.text_digest-program.ensures ∙ ap (λ (p : Program). p.text_digest) c.program.ensures))
    c.new-state.result (c.new-state.ensures ∙ c.in_ok-from_slice.ensures.items) c.in_ok-put.ensures.ok
