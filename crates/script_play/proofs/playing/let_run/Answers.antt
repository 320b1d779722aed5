use Rattle.std.proofs.Common.{◌≡◌, sym, ap, ◌∙◌, subst}
use Rattle.mode_vm.specs.Meanings.{program_of}
use Rattle.verifier_mode.proofs.Given.{gives_with}
use Rattle.lam_outside.proofs.Waiting.{none_read}
use Rattle.lam_outside.specs.LinkSteps.{AtEachRead}
use Rattle.ask_core.specs.Sessions.{StandsFor}
use Rattle.session_meaning.specs.Waiting.{some_calls, some_waits}
use Rattle.session_meaning.specs.Messages.{Go}
use Rattle.script_play.specs.PlayedInCode.{IsPlayed}
use Rattle.script_play.specs.Plays.{lets_run, most_rounds, take_replies}
use Rattle.script_play.specs.Playing.{world}
use Rattle.script_play.specs.PlayingInCode.{PlayCause, names_of, own_of}
use Rattle.script_play.specs.Prompt.{IsPromptOn}
use Rattle.script_play.proofs.Asked.{sent_world, still_coming}
use Rattle.script_play.proofs.HaltedLines.{run_halts, run_more, run_prompt}
use Rattle.script_play.proofs.Played.{run_plays, run_unsent}
use Rattle.script_play.proofs.playing.let_run.Goals as goal
use Rattle.script_play.proofs.playing.let_run.Goals.{then-any_calls+in_ok-send, else-any_calls}

pub returns-in_err-send-clause-played : goal.returns-in_err-send-clause-played
returns-in_err-send-clause-played g c m is =
    let code = c.args.core.now.code in
    let P = program_of code in
    let names = names_of code in
    let hash = g.H.Hash32.hash in
    let own = own_of code in
    let halt = c.in_err-send.field-0.0 in
    let left = g.L.Source.left c.send.new.link in
    let sent = g.L.Source.sent c.args.link.now in
    let sent' = g.L.Source.sent c.send.new.link in
    let written = g.O.Sink.written c.args.out.now in
    let last = c.args.last.now in
    let Is = StandsFor c.args.core.now in
    let calls = sym (c.any_calls.ensures m is) ∙ c.if-any_calls.true in
    gives_with (IsPlayed code Is (g.L.Source.left c.args.link.now) left (world sent written last) (world sent' written last) (lets_run hash P own (some_calls m) m))
    halt _ c.from_residual.ensures.1
    (record {
      plays = λ ms comes. run_unsent hash P names own (some_calls m) m ms calls Is left sent sent' written last halt c.in_err-send.ensures.sends;
      halts = λ bytes told. run_halts P names hash own m (some_calls m) calls sent sent' written last Is bytes left (c.send.ensures.left ∙ told) halt c.in_err-send.ensures.sends;
    })

pub returns-in_err-send-clause-cause : goal.returns-in_err-send-clause-cause
returns-in_err-send-clause-cause g c =
    let sink = g.O.Sink.faults c.args.out.now in
    gives_with (PlayCause {T = Unit {0}} (g.L.Source.faults c.args.link.now) (g.L.Source.faults c.send.new.link) sink sink) c.in_err-send.field-0.0 _ c.from_residual.ensures.1
    (c.in_err-send.ensures.cause sink)

pub returns-clause-played : goal.returns-clause-played
returns-clause-played g c m is =
    let code = c.args.core.now.code in
    let P = program_of code in
    let names = names_of code in
    let hash = g.H.Hash32.hash in
    let own = own_of code in
    let sent = g.L.Source.sent c.args.link.now in
    let written = g.O.Sink.written c.args.out.now in
    let last = c.args.last.now in
    let later = world (g.L.Source.sent c.take_replies.new.link) (g.O.Sink.written c.take_replies.new.out) c.take_replies.new.last in
    let left = g.L.Source.left c.take_replies.new.link in
    let Is = StandsFor c.take_replies.new.core in
    let taken = c.take_replies.ensures.played m is in
    elim c.if-any_calls.branch [
      | then-any_calls+in_ok-send w ↦
          let behind = g.L.Source.sent c.if-any_calls.link in
          let calls = sym (c.any_calls.ensures m is) ∙ w.if-any_calls.true in
          let sends = ap g.L.Source.sent w.link-is ∙ w.in_ok-send.ensures.sends in
          let same = ap g.L.Source.left w.link-is ∙ w.send.ensures.left in
          record {
            plays = λ ms comes. run_plays hash P names own (some_calls m) m ms calls sent behind written last sends Is left later c.take_replies.result
                (taken.plays ms (still_coming _ _ ms same comes));
            halts = λ bytes told. run_more P names hash own m (some_calls m) calls sent behind written last Is bytes left
                (sent_world P names (Go most_rounds) sent behind written last sends) later c.take_replies.result (taken.halts bytes (same ∙ told));
          }
      | else-any_calls w ↦
          subst (λ b. IsPlayed code Is (g.L.Source.left c.args.link.now) left (world sent written last) later (lets_run hash P own b m) c.take_replies.result)
          (sym (sym (c.any_calls.ensures m is) ∙ w.if-any_calls.false))
          (subst (λ l. IsPlayed code Is (g.L.Source.left l) left (world (g.L.Source.sent l) written last) later (take_replies hash P own some_waits m) c.take_replies.result) w.link-is taken)
    ]

pub returns-clause-cause : goal.returns-clause-cause
returns-clause-cause g c =
    let faults : g.L.Source.faults c.if-any_calls.link ≡ g.L.Source.faults c.args.link.now = elim c.if-any_calls.branch [
      | then-any_calls+in_ok-send w ↦ ap g.L.Source.faults w.link-is ∙ (w.in_ok-send.ensures.cause 0).0
      | else-any_calls w ↦ ap g.L.Source.faults w.link-is
    ] in
    subst (λ l. PlayCause l (g.L.Source.faults c.take_replies.new.link) (g.O.Sink.faults c.args.out.now) (g.O.Sink.faults c.take_replies.new.out) c.take_replies.result) faults
    c.take_replies.ensures.cause

pub returns-in_err-send-clause-prompt : goal.returns-in_err-send-clause-prompt
returns-in_err-send-clause-prompt g c m bytes is told = none_read _ _ _ c.send.ensures.reads

pub returns-clause-prompt : goal.returns-clause-prompt
returns-clause-prompt g c m bytes is told =
    let code = c.args.core.now.code in
    let P = program_of code in
    let hash = g.H.Hash32.hash in
    let own = own_of code in
    let sent = g.L.Source.sent c.args.link.now in
    let written = g.O.Sink.written c.args.out.now in
    let reads = g.L.Source.reads c.args.link.now in
    let reads' = g.L.Source.reads c.take_replies.new.link in
    elim c.if-any_calls.branch [
      | then-any_calls+in_ok-send w ↦
          let behind = g.L.Source.sent c.if-any_calls.link in
          run_prompt P (names_of code) hash own m (some_calls m) (sym (c.any_calls.ensures m is) ∙ w.if-any_calls.true) sent behind written c.args.last.now
          (StandsFor c.take_replies.new.core) bytes (g.L.Source.left c.take_replies.new.link)
          (sent_world P (names_of code) (Go most_rounds) sent behind written c.args.last.now (ap g.L.Source.sent w.link-is ∙ w.in_ok-send.ensures.sends))
          reads (g.L.Source.reads c.if-any_calls.link) reads' (ap g.L.Source.reads w.link-is ∙ w.send.ensures.reads)
          (c.take_replies.ensures.prompt m bytes is (ap g.L.Source.left w.link-is ∙ w.send.ensures.left ∙ told))
      | else-any_calls w ↦
          subst (λ b. AtEachRead (IsPromptOn bytes sent (lets_run hash P own b m)) reads reads') (sym (sym (c.any_calls.ensures m is) ∙ w.if-any_calls.false))
          (subst (λ l. AtEachRead (IsPromptOn bytes (g.L.Source.sent l) (take_replies hash P own some_waits m)) (g.L.Source.reads l) reads') w.link-is
          (c.take_replies.ensures.prompt m bytes is (ap g.L.Source.left w.link-is ∙ told)))
    ]
