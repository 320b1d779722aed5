use Rattle.std.proofs.Common.{Ok, Err, sym, ◌∙◌, subst, refl}
use Rattle.mode_vm.specs.Meanings.{program_of}
use Rattle.verifier_mode.proofs.Given.{gives_with}
use Rattle.ask_core.specs.Sessions.{StandsFor}
use Rattle.script_play.specs.PlayedInCode.{IsPlayed}
use Rattle.script_play.specs.Plays.{take_replies}
use Rattle.script_play.specs.Playing.{world}
use Rattle.script_play.specs.PlayingInCode.{names_of, own_of, take_one, waits_for}
use Rattle.wire_form.proofs.Moving.{moves_on}
use Rattle.lam_outside.proofs.Waiting.{none_read}
use Rattle.script_play.proofs.Awaited.{awaits_more}
use Rattle.script_play.proofs.Halted.{begins_to, breaks_to, ends_to, goes_on_to}
use Rattle.script_play.proofs.Played.{none_moved}
use Rattle.script_play.proofs.Worlds.{begins_so, ends_so, goes_on_so, halts_so, waits_more, waits_no_more}
use Rattle.script_play.proofs.taking.take_replies.Goals as goal

pub loop-alloc-init : goal.loop-alloc-init
loop-alloc-init g c = record {
  known = c.requires.known;
  code = refl;
  moves = none_moved (g.L.Source.given c.args.link.now) (g.L.Source.left c.args.link.now);
  beyond = refl;
  faults = refl;
  sink = refl;
  far = λ m ms is comes. begins_so (program_of c.args.core.now.code) (names_of c.args.core.now.code)
      (take_replies g.H.Hash32.hash (program_of c.args.core.now.code) (own_of c.args.core.now.code) (waits_for c.args.whose))
      (StandsFor c.args.core.now) _ _ m ms is comes;
  far_to = λ m bytes is told. begins_to (program_of c.args.core.now.code) (names_of c.args.core.now.code) (StandsFor c.args.core.now) bytes _ _
      (take_replies g.H.Hash32.hash (program_of c.args.core.now.code) (own_of c.args.core.now.code) (waits_for c.args.whose)) m is told;
  prompt = λ m bytes is told. none_read _ _ _ refl;
}

pub loop-alloc-preserved : goal.loop-alloc-preserved
loop-alloc-preserved g c =
    let code = c.args.core.now.code in
    let hash = g.H.Hash32.hash in
    let P = program_of code in
    let own = own_of code in
    let before = c.loop-alloc.invariant in
    let new = c.take_one.new.core in
    let first = world (g.L.Source.sent c.args.link.now) (g.O.Sink.written c.args.out.now) c.args.last.now in
    let here = world (g.L.Source.sent c.loop-alloc.link) (g.O.Sink.written c.loop-alloc.out) c.loop-alloc.last in
    let later = world (g.L.Source.sent c.take_one.new.link) (g.O.Sink.written c.take_one.new.out) c.take_one.new.last in
    let left = g.L.Source.left c.take_one.new.link in
    record {
      known = c.in_ok-take_one.ensures.known;
      code = c.in_ok-take_one.ensures.code ∙ before.code;
      moves = moves_on _ _ _ _ _ _ before.moves c.in_ok-take_one.ensures.moves;
      beyond = c.in_ok-take_one.ensures.beyond ∙ before.beyond;
      faults = c.in_ok-take_one.ensures.cause.0 ∙ before.faults;
      sink = c.in_ok-take_one.ensures.cause.1 ∙ before.sink;
      far = λ m ms is comes.
          let far = before.far m ms is comes in
          let whole = take_replies hash P own (waits_for c.args.whose) m ms in
          let more = take_replies hash P own (waits_for c.args.whose) in
          goes_on_so P (names_of code) whole more (StandsFor c.loop-alloc.core) (g.L.Source.left c.loop-alloc.link) first here far more
          (take_one hash P own far.client far.coming)
          (waits_more hash P own (waits_for c.args.whose) far.client far.coming (sym (c.waits.ensures far.client far.stands) ∙ c.loop-alloc-test.true))
          (StandsFor new) left later (tt {0})
          ((subst (λ k. IsPlayed k (StandsFor new) (g.L.Source.left c.loop-alloc.link) left here later (take_one hash (program_of k) (own_of k) far.client) (Ok (tt {0}))) before.code
          (c.in_ok-take_one.ensures.played far.client far.stands)).plays far.coming far.comes);
      far_to = λ m bytes is told.
          let far = before.far_to m bytes is told in
          let more = take_replies hash P own (waits_for c.args.whose) in
          goes_on_to P (names_of code) (StandsFor c.loop-alloc.core) bytes (g.L.Source.left c.loop-alloc.link) first here (more m) more far more
          (take_one hash P own far.client) (λ ms. waits_more hash P own (waits_for c.args.whose) far.client ms (sym (c.waits.ensures far.client far.stands) ∙ c.loop-alloc-test.true))
          (StandsFor new) left later
          ((subst (λ k. IsPlayed k (StandsFor new) (g.L.Source.left c.loop-alloc.link) left here later (take_one hash (program_of k) (own_of k) far.client) (Ok (tt {0}))) before.code
          (c.in_ok-take_one.ensures.played far.client far.stands)).halts far.rest far.left);
      prompt = λ m bytes is told.
          let code = c.args.core.now.code in
          let hash = g.H.Hash32.hash in
          let P = program_of code in
          let own = own_of code in
          let before = c.loop-alloc.invariant in
          let first = world (g.L.Source.sent c.args.link.now) (g.O.Sink.written c.args.out.now) c.args.last.now in
          let here = world (g.L.Source.sent c.loop-alloc.link) (g.O.Sink.written c.loop-alloc.out) c.loop-alloc.last in
          let far = before.far_to m bytes is told in
          awaits_more hash P own (names_of code) (waits_for c.args.whose) (StandsFor c.loop-alloc.core) bytes (g.L.Source.left c.loop-alloc.link) first here
          (take_replies hash P own (waits_for c.args.whose) m) far (sym (c.waits.ensures far.client far.stands) ∙ c.loop-alloc-test.true) _ _ _
          (before.prompt m bytes is told) (c.take_one.ensures.waits far.rest far.left);
    }

pub returns-in_err-take_one-clause-played : goal.returns-in_err-take_one-clause-played
returns-in_err-take_one-clause-played g c m is =
    let code = c.args.core.now.code in
    let hash = g.H.Hash32.hash in
    let P = program_of code in
    let names = names_of code in
    let own = own_of code in
    let before = c.loop-alloc.invariant in
    let halt = c.in_err-take_one.field-0.0 in
    let Is = StandsFor c.take_one.new.core in
    let more = take_replies hash P own (waits_for c.args.whose) in
    let first = world (g.L.Source.sent c.args.link.now) (g.O.Sink.written c.args.out.now) c.args.last.now in
    let here = world (g.L.Source.sent c.loop-alloc.link) (g.O.Sink.written c.loop-alloc.out) c.loop-alloc.last in
    let later = world (g.L.Source.sent c.take_one.new.link) (g.O.Sink.written c.take_one.new.out) c.take_one.new.last in
    let coming = g.L.Source.left c.loop-alloc.link in
    let left = g.L.Source.left c.take_one.new.link in
    gives_with (IsPlayed code Is (g.L.Source.left c.args.link.now) left first later (more m)) halt _ c.from_residual.ensures.1
    (record {
      plays = λ ms comes.
          let far = before.far m ms is comes in
          halts_so P names (more m ms) more (StandsFor c.loop-alloc.core) coming first here far more (take_one hash P own far.client far.coming)
          (waits_more hash P own (waits_for c.args.whose) far.client far.coming (sym (c.waits.ensures far.client far.stands) ∙ c.loop-alloc-test.true)) Is Is left left later halt
          ((subst (λ k. IsPlayed k Is coming left here later (take_one hash (program_of k) (own_of k) far.client) (Err halt)) before.code
          (c.in_err-take_one.ensures.played far.client far.stands)).plays far.coming far.comes);
      halts = λ bytes told.
          let far = before.far_to m bytes is told in
          breaks_to P names (StandsFor c.loop-alloc.core) bytes coming first here (more m) more far more (take_one hash P own far.client)
          (λ ms. waits_more hash P own (waits_for c.args.whose) far.client ms (sym (c.waits.ensures far.client far.stands) ∙ c.loop-alloc-test.true)) Is Is left later halt
          ((subst (λ k. IsPlayed k Is coming left here later (take_one hash (program_of k) (own_of k) far.client) (Err halt)) before.code
          (c.in_err-take_one.ensures.played far.client far.stands)).halts far.rest far.left);
    })

pub returns-clause-played : goal.returns-clause-played
returns-clause-played g c m is =
    let code = c.args.core.now.code in
    let hash = g.H.Hash32.hash in
    let P = program_of code in
    let names = names_of code in
    let own = own_of code in
    let more = take_replies hash P own (waits_for c.args.whose) in
    let first = world (g.L.Source.sent c.args.link.now) (g.O.Sink.written c.args.out.now) c.args.last.now in
    let here = world (g.L.Source.sent c.loop-alloc.link) (g.O.Sink.written c.loop-alloc.out) c.loop-alloc.last in
    let left = g.L.Source.left c.loop-alloc.link in
    record {
      plays = λ ms comes.
          let far = c.loop-alloc.invariant.far m ms is comes in
          ends_so P names (more m ms) more (StandsFor c.loop-alloc.core) left first here far
          (waits_no_more hash P own (waits_for c.args.whose) far.client far.coming (sym (c.waits.ensures far.client far.stands) ∙ c.loop-alloc-test.false)) (tt {0});
      halts = λ bytes told.
          let far = c.loop-alloc.invariant.far_to m bytes is told in
          ends_to P names (StandsFor c.loop-alloc.core) bytes left first here (more m) more far
          (λ ms. waits_no_more hash P own (waits_for c.args.whose) far.client ms (sym (c.waits.ensures far.client far.stands) ∙ c.loop-alloc-test.false));
    }

pub returns-in_err-take_one-clause-moves : goal.returns-in_err-take_one-clause-moves
returns-in_err-take_one-clause-moves g c = moves_on _ _ _ _ _ _ c.loop-alloc.invariant.moves c.in_err-take_one.ensures.moves

pub returns-in_err-take_one-clause-prompt : goal.returns-in_err-take_one-clause-prompt
returns-in_err-take_one-clause-prompt g c m bytes is told =
    let code = c.args.core.now.code in
    let hash = g.H.Hash32.hash in
    let P = program_of code in
    let own = own_of code in
    let before = c.loop-alloc.invariant in
    let first = world (g.L.Source.sent c.args.link.now) (g.O.Sink.written c.args.out.now) c.args.last.now in
    let here = world (g.L.Source.sent c.loop-alloc.link) (g.O.Sink.written c.loop-alloc.out) c.loop-alloc.last in
    let far = before.far_to m bytes is told in
    awaits_more hash P own (names_of code) (waits_for c.args.whose) (StandsFor c.loop-alloc.core) bytes (g.L.Source.left c.loop-alloc.link) first here
    (take_replies hash P own (waits_for c.args.whose) m) far (sym (c.waits.ensures far.client far.stands) ∙ c.loop-alloc-test.true) _ _ _
    (before.prompt m bytes is told) (c.take_one.ensures.waits far.rest far.left)
