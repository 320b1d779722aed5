use Rattle.std.proofs.Common.{◌≡◌, Result, Ok, Err, Bool, sym, ap, ◌∙◌, subst}
use Rattle.session_meaning.specs.Client.{OutOfTurn, new_client}
use Rattle.verifier_mode.proofs.Given.{gives_with}
use Rattle.wire_form.specs.MessageViews.{request_meant}
use Rattle.script_play.specs.Halting.{HaltsAt}
use Rattle.script_play.specs.HaltingInCode.{OnLinkFault}
use Rattle.script_play.specs.Plays.{asked_play, rests}
use Rattle.script_play.specs.Playing.{PlaysAs, world}
use Rattle.script_play.specs.PlayingInCode.{ClientAnswers, IsAnswered, PlayCause, is_sending}
use Rattle.script_play.proofs.Asked.{asked_told, asked_unsent, fault_answered, fault_sends, is_answered, plays_err}
use Rattle.script_play.proofs.HaltedLines.{request_halts}
use Rattle.script_play.proofs.Steps.{cause_err}
use Rattle.script_play.specs.declared.play_stop.PlayStop.{PlayStop}
use Rattle.script_play.specs.declared.play_stop.PlayStop.TheVariants.{NoMemory}
use Rattle.script_play.proofs.Worlds.{nothing_done}
use Rattle.script_play.proofs.asking.ask.Goals as goal

pub returns-in_err-send-in-Ok-clause-plays : goal.returns-in_err-send-in-Ok-clause-plays
returns-in_err-send-in-Ok-clause-plays g c P names t ms answers comes =
    let halt = c.in_err-send-in-Ok.field-0.0 in
    let left = g.L.Source.left c.send.new.link in
    let sent = g.L.Source.sent c.args.link.now in
    let sent' = g.L.Source.sent c.send.new.link in
    let written = g.O.Sink.written c.args.out.now in
    let here = subst (λ r. ClientAnswers (λ x. Unit {0}) t r) c.in-Ok.is answers in
    gives_with (PlaysAs P names {T = Bool} (λ x. x ≡ t.client) left (world sent written c.args.last.now) (world sent' written c.args.last.now) (asked_play t c.args.session ms rests))
    halt _ c.from_residual.ensures.1
    (asked_unsent P names c.args.session t ms left sent sent' Bool written c.args.last.now (request_meant c.in-Ok.request) halt here.0 c.in_err-send-in-Ok.ensures.sends)

pub returns-in_err-send-in-Ok-clause-cause : goal.returns-in_err-send-in-Ok-clause-cause
returns-in_err-send-in-Ok-clause-cause g c =
    let halt = c.in_err-send-in-Ok.field-0.0 in
    let sink = g.O.Sink.faults c.args.out.now in
    gives_with (PlayCause {T = Bool} (g.L.Source.faults c.args.link.now) (g.L.Source.faults c.send.new.link) sink sink) halt _ c.from_residual.ensures.1
    (cause_err (Unit {0}) Bool _ _ sink sink halt (c.in_err-send-in-Ok.ensures.cause sink))

pub returns-in_ok-send-in-Ok-clause-cause : goal.returns-in_ok-send-in-Ok-clause-cause
returns-in_ok-send-in-Ok-clause-cause g c = c.in_ok-send-in-Ok.ensures.cause (g.O.Sink.faults c.args.out.now)

pub returns-in_ok-tell-in-Err-clause-plays : goal.returns-in_ok-tell-in-Err-clause-plays
returns-in_ok-tell-in-Err-clause-plays g c P names t ms answers comes =
    let here = subst (λ r. ClientAnswers (λ x. Unit {0}) t r) c.in-Err.is answers in
    let fault = fault_answered (λ x. Unit {0}) new_client t c.in-Err.fault c.in_ok-telling-in-Err.ensures.memory here in
    asked_told P names c.args.session t ms (g.L.Source.left c.args.link.now) (g.L.Source.sent c.args.link.now) (g.L.Source.sent c.args.link.now)
    (g.O.Sink.written c.args.out.now) (g.O.Sink.written c.tell.new.out) c.args.last.now c.tell.new.last c.in-Err.fault c.in_ok-telling-in-Err.telling fault.0
    (c.in_ok-telling-in-Err.ensures.tells P names) comes (Ok (tt {0})) c.in_ok-tell-in-Err.ensures.told

pub returns-in_ok-tell-in-Err-clause-sends : goal.returns-in_ok-tell-in-Err-clause-sends
returns-in_ok-tell-in-Err-clause-sends g c t answers =
    let here = subst (λ r. ClientAnswers (λ x. Unit {0}) t r) c.in-Err.is answers in
    let fault = fault_answered (λ x. Unit {0}) new_client t c.in-Err.fault c.in_ok-telling-in-Err.ensures.memory here in
    sym (ap is_sending fault.0 ∙ fault_sends c.in-Err.fault)

pub returns-in_ok-tell-in-Err-clause-memory : goal.returns-in_ok-tell-in-Err-clause-memory
returns-in_ok-tell-in-Err-clause-memory g c =
    subst IsAnswered (sym c.in-Err.is) (is_answered (λ x. Unit {0}) new_client (record { client = new_client; answer = OutOfTurn }) c.in-Err.fault c.in_ok-telling-in-Err.ensures.memory)

pub returns-in_ok-tell-in-Err-clause-cause : goal.returns-in_ok-tell-in-Err-clause-cause
returns-in_ok-tell-in-Err-clause-cause g c = c.in_ok-tell-in-Err.ensures.cause (g.L.Source.faults c.args.link.now)

pub returns-in_err-telling-in-Err-clause-plays : goal.returns-in_err-telling-in-Err-clause-plays
returns-in_err-telling-in-Err-clause-plays g c P names t ms answers comes =
    let here = world (g.L.Source.sent c.args.link.now) (g.O.Sink.written c.args.out.now) c.args.last.now in
    let p = asked_play t c.args.session ms rests in
    gives_with (PlaysAs P names {T = Bool} (λ x. x ≡ t.client) (g.L.Source.left c.args.link.now) here here p) NoMemory _ c.from_residual-in_err-telling-in-Err.ensures.1 (nothing_done P names here p.deeds)

pub returns-in_err-tell-in-Err-clause-plays : goal.returns-in_err-tell-in-Err-clause-plays
returns-in_err-tell-in-Err-clause-plays g c P names t ms answers comes =
    let halt = c.in_err-tell-in-Err.field-0.0 in
    let left = g.L.Source.left c.args.link.now in
    let sent = g.L.Source.sent c.args.link.now in
    let before = world sent (g.O.Sink.written c.args.out.now) c.args.last.now in
    let behind = world sent (g.O.Sink.written c.tell.new.out) c.tell.new.last in
    let p = asked_play t c.args.session ms rests in
    let here = subst (λ r. ClientAnswers (λ x. Unit {0}) t r) c.in-Err.is answers in
    let fault = fault_answered (λ x. Unit {0}) new_client t c.in-Err.fault c.in_ok-telling-in-Err.ensures.memory here in
    gives_with (PlaysAs P names {T = Bool} (λ x. x ≡ t.client) left before behind p) halt _ c.from_residual-in_err-tell-in-Err.ensures.1
    (plays_err P names (Unit {0}) Bool (λ x. x ≡ t.client) (λ x. x ≡ t.client) left left before behind p halt
    (asked_told P names c.args.session t ms left sent sent (g.O.Sink.written c.args.out.now) (g.O.Sink.written c.tell.new.out) c.args.last.now c.tell.new.last
    c.in-Err.fault c.in_ok-telling-in-Err.telling fault.0 (c.in_ok-telling-in-Err.ensures.tells P names) comes (Err halt) c.in_err-tell-in-Err.ensures.told))

pub returns-in_err-tell-in-Err-clause-cause : goal.returns-in_err-tell-in-Err-clause-cause
returns-in_err-tell-in-Err-clause-cause g c =
    let halt = c.in_err-tell-in-Err.field-0.0 in
    let link = g.L.Source.faults c.args.link.now in
    let sink = g.O.Sink.faults c.args.out.now in
    let sink' = g.O.Sink.faults c.tell.new.out in
    gives_with (PlayCause {T = Bool} link link sink sink') halt _ c.from_residual-in_err-tell-in-Err.ensures.1
    (cause_err (Unit {0}) Bool link link sink sink' halt (c.in_err-tell-in-Err.ensures.cause link))

pub returns-in_err-send-in-Ok-clause-halts : goal.returns-in_err-send-in-Ok-clause-halts
returns-in_err-send-in-Ok-clause-halts g c P names t ms answers =
    let halt = c.in_err-send-in-Ok.field-0.0 in
    let sent = g.L.Source.sent c.args.link.now in
    let sent' = g.L.Source.sent c.send.new.link in
    let written = g.O.Sink.written c.args.out.now in
    let here = subst (λ r. ClientAnswers (λ x. Unit {0}) t r) c.in-Ok.is answers in
    gives_with (λ (r : Result Bool PlayStop). OnLinkFault r (HaltsAt P names (world sent written c.args.last.now) (world sent' written c.args.last.now) (asked_play t c.args.session ms rests).deeds))
    halt _ c.from_residual.ensures.1
    (request_halts P names Bool t.answer t.client c.args.session ms (request_meant c.in-Ok.request) sent sent' written c.args.last.now halt here.0 c.in_err-send-in-Ok.ensures.sends)
