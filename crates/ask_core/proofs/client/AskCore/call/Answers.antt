use Rattle.std.proofs.Common.{refl, sym, ◌∙◌}
use Rattle.code_gen.specs.Programs.{program_in}
use Rattle.mode_vm.specs.Meanings.{program_of}
use Rattle.session_meaning.specs.Client.{Calls, take_event}
use Rattle.session_meaning.specs.Tables.{find}
use Rattle.session_tables.specs.Tables.{rows_of}
use Rattle.verifier_mode.proofs.Given.{gives_with}
use Rattle.ask_core.specs.Answers.{Asks}
use Rattle.ask_core.specs.Clients.{IsClient}
use Rattle.ask_core.specs.declared.standing.Standing.TheVariants.{Calling}
use Rattle.ask_core.proofs.Asking.{call_faulty, calls, refused_so}
use Rattle.ask_core.proofs.Refusing.{call_refused, idle_there, none_there}
use Rattle.ask_core.proofs.client.AskCore.call.Goals as goal

pub returns-in-Some-clause-answer : goal.returns-in-Some-clause-answer
returns-in-Some-clause-answer g c m is =
    let core = c.args.self.now in
    let P = program_of core.code in
    let own = (program_in core.code).text_digest.0 in
    let hash = g.H.Hash32.hash in
    let rows = rows_of core.sessions in
    let t = take_event hash P own m (Calls c.args.session c.args.role c.args.fuel c.args.argument.now) in
    refused_so P core.closed rows rows m is t c.in-Some.fault refl
    (call_refused hash P own core.closed rows m is c.args.session c.args.role c.args.fuel c.args.argument.now c.in-Some.fault (sym c.idle_refused.ensures ∙ c.in-Some.is))

pub returns-in_err-asked-clause-answer : goal.returns-in_err-asked-clause-answer
returns-in_err-asked-clause-answer g c m is =
    let core = c.args.self.now in
    let P = program_of core.code in
    let own = (program_in core.code).text_digest.0 in
    let hash = g.H.Hash32.hash in
    let rows = rows_of core.sessions in
    let t = take_event hash P own m (Calls c.args.session c.args.role c.args.fuel c.args.argument.now) in
    let fault = c.in_err-asked.field-0.0 in
    let open_here = sym c.idle_refused.ensures ∙ none_there c.idle_refused.result c.in_default.not-Some in
    let there = idle_there core.closed (find c.args.session rows) open_here in
    gives_with (Asks (IsClient P core.closed rows) m t) fault _ c.from_residual.ensures.1
    (call_faulty hash P own core.closed rows rows m is c.args.session c.args.role c.args.fuel c.args.argument.now there.0 fault open_here there.1
    c.in_err-asked.ensures refl)

pub returns-clause-answer : goal.returns-clause-answer
returns-clause-answer g c m is =
    let core = c.args.self.now in
    let P = program_of core.code in
    let own = (program_in core.code).text_digest.0 in
    let known = c.in_ok-known.known in
    let asked = c.in_ok-asked.asked in
    calls g.H.Hash32.hash P own core.closed (rows_of core.sessions) (rows_of c.put.new.self) m is c.args.session c.args.role c.args.fuel c.args.argument.now
    known asked c.in_ok-known.ensures.open c.in_ok-known.ensures.idle c.in_ok-asked.ensures
    c.new-argument.result (c.new-argument.ensures ∙ c.in_ok-from_slice.ensures.items)
    (c.in_ok-put.ensures.ok ∙ c.in_ok-known.ensures.behind (Calling known asked))
