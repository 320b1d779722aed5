use Rattle.std.proofs.Common.{sym, ◌∙◌}
use Rattle.code_gen.specs.Programs.{program_in}
use Rattle.mode_vm.specs.Meanings.{program_of}
use Rattle.session_meaning.specs.Client.{Forgets, Hears, take_event}
use Rattle.session_meaning.specs.Messages.{session_of}
use Rattle.session_tables.specs.Tables.{rows_of}
use Rattle.verifier_mode.proofs.Given.{gives_with}
use Rattle.wire_form.specs.MessageViews.{reply_meant}
use Rattle.ask_core.specs.Clients.{IsClient}
use Rattle.ask_core.specs.Replies.{ClientTakes}
use Rattle.ask_core.specs.declared.told.AskFault.TheVariants.{NoMemory}
use Rattle.ask_core.proofs.Refusing.{none_there}
use Rattle.ask_core.proofs.Taking.{ends, forgotten, goes_on, refused}
use Rattle.ask_core.proofs.client.AskCore.take_reply.Goals as goal

pub returns-in_err-standing-clause-answer : goal.returns-in_err-standing-clause-answer
returns-in_err-standing-clause-answer g c m is =
    let core = c.args.self.now in
    let P = program_of core.code in
    let own = (program_in core.code).text_digest.0 in
    let hash = g.H.Hash32.hash in
    let reply = reply_meant c.args.reply in
    let later = rows_of c.take_waiting.new.sessions in
    let fault = c.in_err-standing.field-0.0 in
    let open_now = none_there core.closed c.in_default.not-Some in
    let to_one = sym c.cause_for_all.ensures ∙ none_there c.cause_for_all.result c.in_default-cause_for_all.not-Some in
    gives_with (ClientTakes (IsClient P core.closed later) P m reply (take_event hash P own m (Hears reply)) (take_event hash P own m (Forgets (session_of reply))))
    fault _ c.from_residual.ensures.1
    (refused hash P own core.closed (rows_of core.sessions) m is reply open_now to_one c.session_of-session.result c.session_of-session.ensures later
    c.in_err-standing.ensures.same fault c.in_err-standing.ensures.refused)

pub returns-in_err-replied-clause-answer : goal.returns-in_err-replied-clause-answer
returns-in_err-replied-clause-answer g c m is =
    let core = c.args.self.now in
    let P = program_of core.code in
    let own = (program_in core.code).text_digest.0 in
    let hash = g.H.Hash32.hash in
    let reply = reply_meant c.args.reply in
    let later = rows_of c.take_waiting.new.sessions in
    let open_now = none_there core.closed c.in_default.not-Some in
    let to_one = sym c.cause_for_all.ensures ∙ none_there c.cause_for_all.result c.in_default-cause_for_all.not-Some in
    gives_with (ClientTakes (IsClient P core.closed later) P m reply (take_event hash P own m (Hears reply)) (take_event hash P own m (Forgets (session_of reply))))
    NoMemory _ c.from_residual-in_err-replied.ensures.1
    (forgotten hash P own core.closed (rows_of core.sessions) m is reply open_now to_one c.session_of-session.result c.session_of-session.ensures later
    c.in_ok-standing.ensures.rows)

pub returns-in_ok-put-clause-answer : goal.returns-in_ok-put-clause-answer
returns-in_ok-put-clause-answer g c m is =
    let core = c.args.self.now in
    let P = program_of core.code in
    let own = (program_in core.code).text_digest.0 in
    let hash = g.H.Hash32.hash in
    let reply = reply_meant c.args.reply in
    let open_now = none_there core.closed c.in_default.not-Some in
    let to_one = sym c.cause_for_all.ensures ∙ none_there c.cause_for_all.result c.in_default-cause_for_all.not-Some in
    goes_on hash P own core.closed (rows_of core.sessions) m is reply open_now to_one c.session_of-session.result c.session_of-session.ensures
    c.in_ok-standing.standing c.in_ok-standing.ensures.found c.in_ok-replied.replied c.in_ok-replied.ensures (rows_of c.put.new.self)
    c.in-Some-standing.standing c.in-Some-standing.is (c.in_ok-put.ensures.ok ∙ c.in_ok-standing.ensures.behind c.in-Some-standing.standing)

pub returns-in_default-standing-clause-answer : goal.returns-in_default-standing-clause-answer
returns-in_default-standing-clause-answer g c m is =
    let core = c.args.self.now in
    let P = program_of core.code in
    let own = (program_in core.code).text_digest.0 in
    let hash = g.H.Hash32.hash in
    let reply = reply_meant c.args.reply in
    let open_now = none_there core.closed c.in_default.not-Some in
    let to_one = sym c.cause_for_all.ensures ∙ none_there c.cause_for_all.result c.in_default-cause_for_all.not-Some in
    ends hash P own core.closed (rows_of core.sessions) m is reply open_now to_one c.session_of-session.result c.session_of-session.ensures
    c.in_ok-standing.standing c.in_ok-standing.ensures.found c.in_ok-replied.replied c.in_ok-replied.ensures (rows_of c.take_waiting.new.sessions)
    (none_there c.in_ok-replied.replied.standing c.in_default-standing.not-Some) c.in_ok-standing.ensures.rows
