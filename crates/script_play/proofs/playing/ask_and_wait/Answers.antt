use Rattle.std.proofs.Common.{◌≡◌, Bool, [], refl, sym, ◌∙◌}
use Rattle.mode_vm.specs.Meanings.{program_of}
use Rattle.verifier_mode.proofs.Given.{gives_with}
use Rattle.lam_outside.proofs.Waiting.{none_read}
use Rattle.wire_form.proofs.Moving.{moves_on}
use Rattle.session_meaning.specs.Client.{waits}
use Rattle.session_meaning.specs.Messages.{messages, reply_of}
use Rattle.ask_core.specs.Sessions.{StandsFor}
use Rattle.script_play.specs.PlayedInCode.{IsPlayed}
use Rattle.script_play.specs.Plays.{asked_play, take_replies}
use Rattle.script_play.specs.Playing.{AreComing, world}
use Rattle.script_play.specs.PlayingInCode.{PlayCause, names_of, own_of}
use Rattle.script_play.proofs.Asked.{answered_stands, answers_any, still_coming}
use Rattle.script_play.proofs.HaltedLines.{line_halts, line_more, line_prompt, line_told}
use Rattle.script_play.proofs.Played.{asked_halts, more_plays, same_moved, told_alone}
use Rattle.script_play.proofs.Steps.{cause_err}
use Rattle.script_play.proofs.playing.ask_and_wait.Goals as goal

pub returns-in_err-sent-clause-played : goal.returns-in_err-sent-clause-played
returns-in_err-sent-clause-played g c t answers =
    let code = c.args.core.now.code in
    let P = program_of code in
    let names = names_of code in
    let Is = StandsFor c.args.core.now in
    let more = take_replies g.H.Hash32.hash P (own_of code) (λ x. waits x c.args.session) in
    let any = answers_any Is t.client t c.args.answered answers in
    let halt = c.in_err-sent.field-0.0 in
    let left = g.L.Source.left c.ask.new.link in
    let before = world (g.L.Source.sent c.args.link.now) (g.O.Sink.written c.args.out.now) c.args.last.now in
    let behind = world (g.L.Source.sent c.ask.new.link) (g.O.Sink.written c.ask.new.out) c.ask.new.last in
    gives_with (IsPlayed code Is (g.L.Source.left c.args.link.now) left before behind (λ ms. asked_play t c.args.session ms more)) halt _ c.from_residual.ensures.1
    (record {
      plays = λ ms comes. asked_halts P names t c.args.session ms more before behind (λ x. x ≡ t.client) Is left left halt (c.in_err-sent.ensures.plays P names t ms any comes);
      halts = λ bytes told. line_halts P names t c.args.session bytes left (c.ask.ensures.left ∙ told) Is more before behind halt
          (c.in_err-sent.ensures.halts P names t (messages reply_of []) any)
          (c.in_err-sent.ensures.plays P names t (messages reply_of bytes) any (record { bytes = bytes; told = told; are = refl }));
    })

pub returns-in_err-sent-clause-moves : goal.returns-in_err-sent-clause-moves
returns-in_err-sent-clause-moves g c = same_moved _ _ _ _ c.ask.ensures.given c.ask.ensures.left

pub returns-in_err-sent-clause-cause : goal.returns-in_err-sent-clause-cause
returns-in_err-sent-clause-cause g c =
    let halt = c.in_err-sent.field-0.0 in
    gives_with (PlayCause {T = Unit {0}} (g.L.Source.faults c.args.link.now) (g.L.Source.faults c.ask.new.link) (g.O.Sink.faults c.args.out.now) (g.O.Sink.faults c.ask.new.out))
    halt _ c.from_residual.ensures.1 (cause_err Bool (Unit {0}) _ _ _ _ halt c.in_err-sent.ensures.cause)

pub returns-then-sent-clause-played : goal.returns-then-sent-clause-played
returns-then-sent-clause-played g c t answers =
    let code = c.args.core.now.code in
    let P = program_of code in
    let names = names_of code in
    let Is = StandsFor c.args.core.now in
    let more = take_replies g.H.Hash32.hash P (own_of code) (λ x. waits x c.args.session) in
    let any = answers_any Is t.client t c.args.answered answers in
    let sends = sym (c.in_ok-sent.ensures.sends t any) ∙ c.if-sent.true in
    let first = world (g.L.Source.sent c.args.link.now) (g.O.Sink.written c.args.out.now) c.args.last.now in
    let here = world (g.L.Source.sent c.ask.new.link) (g.O.Sink.written c.ask.new.out) c.ask.new.last in
    let later = world (g.L.Source.sent c.take_replies.new.link) (g.O.Sink.written c.take_replies.new.out) c.take_replies.new.last in
    let left = g.L.Source.left c.take_replies.new.link in
    let taken = c.take_replies.ensures.played t.client (answered_stands Is t.client t c.args.answered c.in_ok-sent.ensures.memory answers) in
    record {
      plays = λ ms comes. more_plays P names t c.args.session ms more first here later sends (c.in_ok-sent.ensures.plays P names t ms any comes).1
          (StandsFor c.take_replies.new.core) left c.take_replies.result (taken.plays ms (still_coming _ _ ms c.ask.ensures.left comes));
      halts = λ bytes told.
          let ms = messages reply_of bytes in
          line_more P names t c.args.session ms more first here later sends (c.in_ok-sent.ensures.plays P names t ms any (record { bytes = bytes; told = told; are = refl })).1
          (StandsFor c.take_replies.new.core) bytes left c.take_replies.result (taken.halts bytes (c.ask.ensures.left ∙ told));
    }

pub returns-then-sent-clause-moves : goal.returns-then-sent-clause-moves
returns-then-sent-clause-moves g c = moves_on _ _ _ _ _ _ (same_moved _ _ _ _ c.ask.ensures.given c.ask.ensures.left) c.take_replies.ensures.moves

pub returns-clause-played : goal.returns-clause-played
returns-clause-played g c t answers =
    let code = c.args.core.now.code in
    let P = program_of code in
    let names = names_of code in
    let Is = StandsFor c.args.core.now in
    let more = take_replies g.H.Hash32.hash P (own_of code) (λ x. waits x c.args.session) in
    let any = answers_any Is t.client t c.args.answered answers in
    let unsent = sym (c.in_ok-sent.ensures.sends t any) ∙ c.if-sent.false in
    let stands = answered_stands Is t.client t c.args.answered c.in_ok-sent.ensures.memory answers in
    let left = g.L.Source.left c.ask.new.link in
    let before = world (g.L.Source.sent c.args.link.now) (g.O.Sink.written c.args.out.now) c.args.last.now in
    let behind = world (g.L.Source.sent c.ask.new.link) (g.O.Sink.written c.ask.new.out) c.ask.new.last in
    record {
      plays = λ ms comes. told_alone P names t c.args.session ms more (tt {0}) before behind unsent Is left stands (c.in_ok-sent.ensures.plays P names t ms any comes);
      halts = λ bytes told.
          let ms = messages reply_of bytes in
          let plays = c.in_ok-sent.ensures.plays P names t ms any (record { bytes = bytes; told = told; are = refl }) in
          line_told P names t c.args.session bytes left (c.ask.ensures.left ∙ told) Is before behind ms plays.0 plays.1 stands more unsent;
    }

pub returns-clause-moves : goal.returns-clause-moves
returns-clause-moves g c = same_moved _ _ _ _ c.ask.ensures.given c.ask.ensures.left

pub returns-in_err-sent-clause-prompt : goal.returns-in_err-sent-clause-prompt
returns-in_err-sent-clause-prompt g c t bytes answers told = none_read _ _ _ c.ask.ensures.reads

pub returns-then-sent-clause-prompt : goal.returns-then-sent-clause-prompt
returns-then-sent-clause-prompt g c t bytes answers told =
    let code = c.args.core.now.code in
    let P = program_of code in
    let Is = StandsFor c.args.core.now in
    let more = take_replies g.H.Hash32.hash P (own_of code) (λ x. waits x c.args.session) in
    let any = answers_any Is t.client t c.args.answered answers in
    let ms = messages reply_of bytes in
    let comes : AreComing (g.L.Source.left c.args.link.now) ms = record { bytes = bytes; told = told; are = refl } in
    line_prompt P (names_of code) t c.args.session ms more
    (world (g.L.Source.sent c.args.link.now) (g.O.Sink.written c.args.out.now) c.args.last.now)
    (world (g.L.Source.sent c.ask.new.link) (g.O.Sink.written c.ask.new.out) c.ask.new.last)
    (sym (c.in_ok-sent.ensures.sends t any) ∙ c.if-sent.true) (c.in_ok-sent.ensures.plays P (names_of code) t ms any comes).1
    bytes _ _ _ c.ask.ensures.reads
    (c.take_replies.ensures.prompt t.client bytes (answered_stands Is t.client t c.args.answered c.in_ok-sent.ensures.memory answers) (c.ask.ensures.left ∙ told))

pub returns-clause-prompt : goal.returns-clause-prompt
returns-clause-prompt g c t bytes answers told = none_read _ _ _ c.ask.ensures.reads
