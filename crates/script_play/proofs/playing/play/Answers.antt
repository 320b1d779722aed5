use Rattle.std.proofs.Common.{◌+◌, Ok, Err, drop, length, map, sym, ap, ◌∙◌, subst, refl}
use Rattle.std.proofs.lemmas.List.{drop_all}
use Rattle.std.proofs.lemmas.List.Elements.{All-get_or}
use Rattle.core_terms.specs.declared.digest.Digest.{Digest}
use Rattle.core_terms.specs.declared.program.Program.{Program}
use Rattle.mode_vm.specs.Meanings.{program_of}
use Rattle.verifier_mode.proofs.Given.{gives_with}
use Rattle.lam_outside.proofs.Waiting.{none_read}
use Rattle.lam_outside.specs.LinkSteps.{AtEachRead}
use Rattle.wire_form.proofs.Moving.{moves_on}
use Rattle.ask_core.specs.Sessions.{StandsFor}
use Rattle.ask_script.specs.ScriptAnswers.{step_meant}
use Rattle.ask_script.specs.Scripts.{Fits}
use Rattle.script_play.specs.PlayedInCode.{IsPlayed}
use Rattle.script_play.specs.Plays.{play, play_step}
use Rattle.script_play.specs.Playing.{world}
use Rattle.script_play.specs.PlayingInCode.{names_of, own_of}
use Rattle.script_play.specs.Prompt.{IsPromptOn}
use Rattle.script_play.proofs.Awaited.{prompt_more}
use Rattle.script_play.proofs.Halted.{begins_to, breaks_to, ends_to, goes_on_to}
use Rattle.script_play.proofs.Played.{line_next, none_moved}
use Rattle.script_play.proofs.Worlds.{begins_so, ends_so, goes_on_so, halts_so}
use Rattle.script_play.proofs.playing.play.Goals as goal

pub loop-step-init : goal.loop-step-init
loop-step-init g c = record {
  known = c.requires.known;
  code = refl;
  moves = none_moved (g.L.Source.given c.args.link.now) (g.L.Source.left c.args.link.now);
  beyond = refl;
  faults = refl;
  sink = refl;
  far = λ m ms is comes. begins_so (program_of c.args.core.now.code) (names_of c.args.core.now.code)
      (play g.H.Hash32.hash (program_of c.args.core.now.code) (own_of c.args.core.now.code) c.args.state.now (map step_meant c.args.steps.now))
      (StandsFor c.args.core.now) _ _ m ms is comes;
  far_to = λ m bytes is told. begins_to (program_of c.args.core.now.code) (names_of c.args.core.now.code) (StandsFor c.args.core.now) bytes _ _
      (play g.H.Hash32.hash (program_of c.args.core.now.code) (own_of c.args.core.now.code) c.args.state.now (map step_meant c.args.steps.now)) m is told;
  prompt = λ m bytes is told. none_read _ _ _ refl;
}

pub play_step-requires-clause-step : goal.play_step-requires-clause-step
play_step-requires-clause-step g c κs within =
    let steps = c.args.steps.now in
    subst (λ k. Fits (program_of k) (step_meant c.step-item.result)) (sym c.loop-step.invariant.code)
    (subst (λ s. Fits (program_of c.args.core.now.code) (step_meant s)) (sym c.step-item.is)
    (All-get_or (λ s. Fits (program_of c.args.core.now.code) (step_meant s)) steps c.loop-step.step-index _ c.loop-step-test.true c.requires.script))

pub loop-step-preserved : goal.loop-step-preserved
loop-step-preserved g c =
    let code = c.args.core.now.code in
    let hash = g.H.Hash32.hash in
    let P = program_of code in
    let own = own_of code in
    let steps = c.args.steps.now in
    let step = c.step-item.result in
    let i = c.loop-step.step-index in
    let before = c.loop-step.invariant in
    let new = c.play_step.new.core in
    let first = world (g.L.Source.sent c.args.link.now) (g.O.Sink.written c.args.out.now) c.args.last.now in
    let here = world (g.L.Source.sent c.loop-step.link) (g.O.Sink.written c.loop-step.out) c.loop-step.last in
    let later = world (g.L.Source.sent c.play_step.new.link) (g.O.Sink.written c.play_step.new.out) c.play_step.new.last in
    let left = g.L.Source.left c.play_step.new.link in
    record {
      known = c.in_ok-play_step.ensures.known;
      code = c.in_ok-play_step.ensures.code ∙ before.code;
      moves = moves_on _ _ _ _ _ _ before.moves c.in_ok-play_step.ensures.moves;
      beyond = c.in_ok-play_step.ensures.beyond ∙ before.beyond;
      faults = c.in_ok-play_step.ensures.cause.0 ∙ before.faults;
      sink = c.in_ok-play_step.ensures.cause.1 ∙ before.sink;
      far = λ m ms is comes.
          let far = before.far m ms is comes in
          goes_on_so P (names_of code) (play hash P own c.args.state.now (map step_meant steps) m ms) (play hash P own c.args.state.now (map step_meant (drop i steps)))
          (StandsFor c.loop-step.core) (g.L.Source.left c.loop-step.link) first here far (play hash P own c.args.state.now (map step_meant (drop (i + 1) steps)))
          (play_step hash P own c.args.state.now (step_meant step) far.client far.coming)
          (line_next hash P own c.args.state.now steps i step c.loop-step-test.true c.step-item.is far.client far.coming)
          (StandsFor new) left later (tt {0})
          ((subst (λ k. IsPlayed k (StandsFor new) (g.L.Source.left c.loop-step.link) left here later
          (play_step hash (program_of k) (own_of k) c.args.state.now (step_meant step) far.client) (Ok (tt {0}))) before.code
          (c.in_ok-play_step.ensures.played far.client far.stands)).plays far.coming far.comes);
      far_to = λ m bytes is told.
          let far = before.far_to m bytes is told in
          goes_on_to P (names_of code) (StandsFor c.loop-step.core) bytes (g.L.Source.left c.loop-step.link) first here
          (play hash P own c.args.state.now (map step_meant steps) m) (play hash P own c.args.state.now (map step_meant (drop i steps))) far
          (play hash P own c.args.state.now (map step_meant (drop (i + 1) steps))) (play_step hash P own c.args.state.now (step_meant step) far.client)
          (λ ms. line_next hash P own c.args.state.now steps i step c.loop-step-test.true c.step-item.is far.client ms)
          (StandsFor new) left later
          ((subst (λ k. IsPlayed k (StandsFor new) (g.L.Source.left c.loop-step.link) left here later
          (play_step hash (program_of k) (own_of k) c.args.state.now (step_meant step) far.client) (Ok (tt {0}))) before.code
          (c.in_ok-play_step.ensures.played far.client far.stands)).halts far.rest far.left);
      prompt = λ m bytes is told.
          let far = before.far_to m bytes is told in
          prompt_more P (names_of code) (StandsFor c.loop-step.core) bytes (g.L.Source.left c.loop-step.link) first here
          (play hash P own c.args.state.now (map step_meant steps) m) (play hash P own c.args.state.now (map step_meant (drop i steps))) far
          (play hash P own c.args.state.now (map step_meant (drop (i + 1) steps))) (play_step hash P own c.args.state.now (step_meant step) far.client)
          (λ ms. line_next hash P own c.args.state.now steps i step c.loop-step-test.true c.step-item.is far.client ms) _ _ _ (before.prompt m bytes is told)
          (subst (λ k. AtEachRead (IsPromptOn far.rest (g.L.Source.sent c.loop-step.link) (play_step hash (program_of k) (own_of k) c.args.state.now (step_meant step) far.client))
          (g.L.Source.reads c.loop-step.link) (g.L.Source.reads c.play_step.new.link)) before.code (c.play_step.ensures.prompt far.client far.rest far.stands far.left));
    }

pub returns-in_err-play_step-clause-played : goal.returns-in_err-play_step-clause-played
returns-in_err-play_step-clause-played g c m is =
    let code = c.args.core.now.code in
    let hash = g.H.Hash32.hash in
    let P = program_of code in
    let names = names_of code in
    let own = own_of code in
    let steps = c.args.steps.now in
    let step = c.step-item.result in
    let i = c.loop-step.step-index in
    let before = c.loop-step.invariant in
    let halt = c.in_err-play_step.field-0.0 in
    let Is = StandsFor c.play_step.new.core in
    let whole = play hash P own c.args.state.now (map step_meant steps) m in
    let from = play hash P own c.args.state.now (map step_meant (drop i steps)) in
    let more = play hash P own c.args.state.now (map step_meant (drop (i + 1) steps)) in
    let first = world (g.L.Source.sent c.args.link.now) (g.O.Sink.written c.args.out.now) c.args.last.now in
    let here = world (g.L.Source.sent c.loop-step.link) (g.O.Sink.written c.loop-step.out) c.loop-step.last in
    let later = world (g.L.Source.sent c.play_step.new.link) (g.O.Sink.written c.play_step.new.out) c.play_step.new.last in
    let coming = g.L.Source.left c.loop-step.link in
    let left = g.L.Source.left c.play_step.new.link in
    gives_with (IsPlayed code Is (g.L.Source.left c.args.link.now) left first later whole) halt _ c.from_residual.ensures.1
    (record {
      plays = λ ms comes.
          let far = before.far m ms is comes in
          halts_so P names (whole ms) from (StandsFor c.loop-step.core) coming first here far more (play_step hash P own c.args.state.now (step_meant step) far.client far.coming)
          (line_next hash P own c.args.state.now steps i step c.loop-step-test.true c.step-item.is far.client far.coming) Is Is left left later halt
          ((subst (λ k. IsPlayed k Is coming left here later (play_step hash (program_of k) (own_of k) c.args.state.now (step_meant step) far.client) (Err halt)) before.code
          (c.in_err-play_step.ensures.played far.client far.stands)).plays far.coming far.comes);
      halts = λ bytes told.
          let far = before.far_to m bytes is told in
          breaks_to P names (StandsFor c.loop-step.core) bytes coming first here whole from far more (play_step hash P own c.args.state.now (step_meant step) far.client)
          (λ ms. line_next hash P own c.args.state.now steps i step c.loop-step-test.true c.step-item.is far.client ms) Is Is left later halt
          ((subst (λ k. IsPlayed k Is coming left here later (play_step hash (program_of k) (own_of k) c.args.state.now (step_meant step) far.client) (Err halt)) before.code
          (c.in_err-play_step.ensures.played far.client far.stands)).halts far.rest far.left);
    })

pub returns-in_err-play_step-clause-moves : goal.returns-in_err-play_step-clause-moves
returns-in_err-play_step-clause-moves g c = moves_on _ _ _ _ _ _ c.loop-step.invariant.moves c.in_err-play_step.ensures.moves

pub returns-clause-played : goal.returns-clause-played
returns-clause-played g c m is =
    let code = c.args.core.now.code in
    let hash = g.H.Hash32.hash in
    let P = program_of code in
    let names = names_of code in
    let own = own_of code in
    let steps = c.args.steps.now in
    let i = c.loop-step.step-index in
    let whole = play hash P own c.args.state.now (map step_meant steps) m in
    let from = play hash P own c.args.state.now (map step_meant (drop i steps)) in
    let none_left = drop_all i steps c.loop-step-test.false in
    let first = world (g.L.Source.sent c.args.link.now) (g.O.Sink.written c.args.out.now) c.args.last.now in
    let here = world (g.L.Source.sent c.loop-step.link) (g.O.Sink.written c.loop-step.out) c.loop-step.last in
    let left = g.L.Source.left c.loop-step.link in
    record {
      plays = λ ms comes.
          let far = c.loop-step.invariant.far m ms is comes in
          ends_so P names (whole ms) from (StandsFor c.loop-step.core) left first here far
          (ap (λ ss. play hash P own c.args.state.now (map step_meant ss) far.client far.coming) none_left) (tt {0});
      halts = λ bytes told.
          let far = c.loop-step.invariant.far_to m bytes is told in
          ends_to P names (StandsFor c.loop-step.core) bytes left first here whole from far
          (λ ms. ap (λ ss. play hash P own c.args.state.now (map step_meant ss) far.client ms) none_left);
    }

pub play_step-requires-clause-own : goal.play_step-requires-clause-own
play_step-requires-clause-own g c κs within =
    ap (λ k. length (own_of k)) c.loop-step.invariant.code ∙ ap (λ k. length (own_of k)) (sym c.code.ensures)
    ∙ ap (λ (p : Program). length p.text_digest.0) (sym c.program.ensures) ∙ ap (λ (d : Digest). length d.0) (sym c.text_digest.ensures)
    ∙ ap length (sym c.as_bytes.ensures.bytes) ∙ c.as_bytes.ensures.length

pub returns-in_err-play_step-clause-prompt : goal.returns-in_err-play_step-clause-prompt
returns-in_err-play_step-clause-prompt g c m bytes is told =
    let code = c.args.core.now.code in
    let hash = g.H.Hash32.hash in
    let P = program_of code in
    let own = own_of code in
    let steps = c.args.steps.now in
    let step = c.step-item.result in
    let i = c.loop-step.step-index in
    let before = c.loop-step.invariant in
    let first = world (g.L.Source.sent c.args.link.now) (g.O.Sink.written c.args.out.now) c.args.last.now in
    let here = world (g.L.Source.sent c.loop-step.link) (g.O.Sink.written c.loop-step.out) c.loop-step.last in
    let far = before.far_to m bytes is told in
    prompt_more P (names_of code) (StandsFor c.loop-step.core) bytes (g.L.Source.left c.loop-step.link) first here
    (play hash P own c.args.state.now (map step_meant steps) m) (play hash P own c.args.state.now (map step_meant (drop i steps))) far
    (play hash P own c.args.state.now (map step_meant (drop (i + 1) steps))) (play_step hash P own c.args.state.now (step_meant step) far.client)
    (λ ms. line_next hash P own c.args.state.now steps i step c.loop-step-test.true c.step-item.is far.client ms) _ _ _ (before.prompt m bytes is told)
    (subst (λ k. AtEachRead (IsPromptOn far.rest (g.L.Source.sent c.loop-step.link) (play_step hash (program_of k) (own_of k) c.args.state.now (step_meant step) far.client))
    (g.L.Source.reads c.loop-step.link) (g.L.Source.reads c.play_step.new.link)) before.code (c.play_step.ensures.prompt far.client far.rest far.stands far.left))
