use Rattle.std.proofs.Common.{arith, Ok, Err, ap, ◌∙◌, true, false, refl}
use Rattle.lam_outside.proofs.Waiting.{none_read}
use Rattle.piece_mirror.specs.Answers.{given_by}
use Rattle.piece_mirror.specs.Tables.{bytes_of}
use Rattle.wire_form.proofs.Moving.{moves_on}
use Rattle.link_ends.specs.declared.link_stop.LinkStop.TheVariants as link_stop
use Rattle.link_ends.proofs.Taken.{none_moved}
use Rattle.mirror_links.proofs.SoFar.{answered_at, at_first, fault_now, lacking_now, one_more, over_at_last, over_now, waits_more}
use Rattle.mirror_links.proofs.connection.answer_link.Goals as goal

pub loop-init : goal.loop-init
loop-init g c = record {
  answered = λ bytes told. at_first (given_by g.H.Hash32.hash (bytes_of c.args.mirror.now.pieces)) bytes (g.L.Source.left c.args.link.now) (g.L.Source.sent c.args.link.now) told;
  prompt = λ bytes told. none_read _ _ _ refl;
  moves = none_moved (g.L.Source.given c.args.link.now) (g.L.Source.left c.args.link.now);
  beyond = refl;
  faults = refl;
}

pub loop-preserved : goal.loop-preserved
loop-preserved g c =
    let get = given_by g.H.Hash32.hash (bytes_of c.args.mirror.now.pieces) in
    let first = c.args.link.now in
    let before = c.loop.link in
    let behind = c.answer_message.new.link in
    let loop = c.loop.invariant in
    record {
      answered = λ bytes told.
          let so_far = loop.answered bytes told in
          let on = answered_at get so_far.takes.0 (g.L.Source.left behind) (g.L.Source.sent before) (g.L.Source.sent behind) (Ok c.in-Ok-true.field-0) (Ok true)
          (ap Ok c.in-Ok-true.field-0-test) (c.in-Ok-true.ensures.answered so_far.takes.0 so_far.takes.2) in
          one_more get c.loop.counter bytes (g.L.Source.left before) (g.L.Source.sent first) (g.L.Source.sent before) so_far (g.L.Source.left behind) (g.L.Source.sent behind) on;
      prompt = λ bytes told.
          let so_far = loop.answered bytes told in
          waits_more get c.loop.counter bytes (g.L.Source.left before) (g.L.Source.sent first) (g.L.Source.sent before) so_far c.loop-test.true _ _ _ (loop.prompt bytes told)
          (c.answer_message.ensures.waits so_far.takes.0 so_far.takes.2);
      moves = moves_on _ _ _ _ _ _ loop.moves c.answer_message.ensures.moves;
      beyond = c.answer_message.ensures.beyond ∙ loop.beyond;
      faults = c.in-Ok-true.ensures.cause ∙ loop.faults;
    }

pub returns-in-Ok-false-clause-answered : goal.returns-in-Ok-false-clause-answered
returns-in-Ok-false-clause-answered g c = λ bytes told.
    let get = given_by g.H.Hash32.hash (bytes_of c.args.mirror.now.pieces) in
    let first = c.args.link.now in
    let before = c.loop.link in
    let behind = c.answer_message.new.link in
    let so_far = c.loop.invariant.answered bytes told in
    let last = answered_at get so_far.takes.0 (g.L.Source.left behind) (g.L.Source.sent before) (g.L.Source.sent behind) (Ok c.in-Ok-false.field-0) (Ok false)
    (ap Ok c.in-Ok-false.field-0-test) (c.in-Ok-false.ensures.answered so_far.takes.0 so_far.takes.2) in
    over_now get c.loop.counter bytes (g.L.Source.left before) (g.L.Source.sent first) (g.L.Source.sent before) so_far c.loop-test.true (g.L.Source.left behind) (g.L.Source.sent behind) last

pub returns-in-Ok-false-clause-prompt : goal.returns-in-Ok-false-clause-prompt
returns-in-Ok-false-clause-prompt g c = λ bytes told.
    let get = given_by g.H.Hash32.hash (bytes_of c.args.mirror.now.pieces) in
    let first = c.args.link.now in
    let before = c.loop.link in
    let so_far = c.loop.invariant.answered bytes told in
    waits_more get c.loop.counter bytes (g.L.Source.left before) (g.L.Source.sent first) (g.L.Source.sent before) so_far c.loop-test.true _ _ _ (c.loop.invariant.prompt bytes told)
    (c.answer_message.ensures.waits so_far.takes.0 so_far.takes.2)

pub returns-in-Ok-false-clause-moves : goal.returns-in-Ok-false-clause-moves
returns-in-Ok-false-clause-moves g c = moves_on _ _ _ _ _ _ c.loop.invariant.moves c.answer_message.ensures.moves

pub returns-in-Err-LinkFault-clause-answered : goal.returns-in-Err-LinkFault-clause-answered
returns-in-Err-LinkFault-clause-answered g c = λ bytes told.
    let get = given_by g.H.Hash32.hash (bytes_of c.args.mirror.now.pieces) in
    let first = c.args.link.now in
    let before = c.loop.link in
    let behind = c.answer_message.new.link in
    let so_far = c.loop.invariant.answered bytes told in
    let last = answered_at get so_far.takes.0 (g.L.Source.left behind) (g.L.Source.sent before) (g.L.Source.sent behind) (Err c.in-Err-LinkFault.field-0) (Err link_stop.LinkFault)
    (ap Err c.in-Err-LinkFault.field-0-is) (c.in-Err-LinkFault.ensures.answered so_far.takes.0 so_far.takes.2) in
    fault_now get c.loop.counter bytes (g.L.Source.left before) (g.L.Source.sent first) (g.L.Source.sent before) so_far c.loop-test.true (g.L.Source.left behind) (g.L.Source.sent behind) last

pub returns-in-Err-LinkFault-clause-prompt : goal.returns-in-Err-LinkFault-clause-prompt
returns-in-Err-LinkFault-clause-prompt g c = λ bytes told.
    let get = given_by g.H.Hash32.hash (bytes_of c.args.mirror.now.pieces) in
    let first = c.args.link.now in
    let before = c.loop.link in
    let so_far = c.loop.invariant.answered bytes told in
    waits_more get c.loop.counter bytes (g.L.Source.left before) (g.L.Source.sent first) (g.L.Source.sent before) so_far c.loop-test.true _ _ _ (c.loop.invariant.prompt bytes told)
    (c.answer_message.ensures.waits so_far.takes.0 so_far.takes.2)

pub returns-in-Err-LinkFault-clause-moves : goal.returns-in-Err-LinkFault-clause-moves
returns-in-Err-LinkFault-clause-moves g c = moves_on _ _ _ _ _ _ c.loop.invariant.moves c.answer_message.ensures.moves

pub returns-in-Err-Stopped-clause-answered : goal.returns-in-Err-Stopped-clause-answered
returns-in-Err-Stopped-clause-answered g c = λ bytes told.
    let get = given_by g.H.Hash32.hash (bytes_of c.args.mirror.now.pieces) in
    let first = c.args.link.now in
    let before = c.loop.link in
    let behind = c.answer_message.new.link in
    let so_far = c.loop.invariant.answered bytes told in
    let last = answered_at get so_far.takes.0 (g.L.Source.left behind) (g.L.Source.sent before) (g.L.Source.sent behind) (Err c.in-Err-Stopped.field-0) (Err link_stop.Stopped)
    (ap Err c.in-Err-Stopped.field-0-is) (c.in-Err-Stopped.ensures.answered so_far.takes.0 so_far.takes.2) in
    lacking_now get c.loop.counter bytes (g.L.Source.left before) (g.L.Source.sent first) (g.L.Source.sent before) so_far c.loop-test.true (g.L.Source.left behind) (g.L.Source.sent behind) last

pub returns-in-Err-Stopped-clause-prompt : goal.returns-in-Err-Stopped-clause-prompt
returns-in-Err-Stopped-clause-prompt g c = λ bytes told.
    let get = given_by g.H.Hash32.hash (bytes_of c.args.mirror.now.pieces) in
    let first = c.args.link.now in
    let before = c.loop.link in
    let so_far = c.loop.invariant.answered bytes told in
    waits_more get c.loop.counter bytes (g.L.Source.left before) (g.L.Source.sent first) (g.L.Source.sent before) so_far c.loop-test.true _ _ _ (c.loop.invariant.prompt bytes told)
    (c.answer_message.ensures.waits so_far.takes.0 so_far.takes.2)

pub returns-in-Err-Stopped-clause-moves : goal.returns-in-Err-Stopped-clause-moves
returns-in-Err-Stopped-clause-moves g c = moves_on _ _ _ _ _ _ c.loop.invariant.moves c.answer_message.ensures.moves

pub returns-clause-answered : goal.returns-clause-answered
returns-clause-answered g c = λ bytes told.
    let get = given_by g.H.Hash32.hash (bytes_of c.args.mirror.now.pieces) in
    let so_far = c.loop.invariant.answered bytes told in
    over_at_last get c.loop.counter bytes (g.L.Source.left c.loop.link) (g.L.Source.sent c.args.link.now) (g.L.Source.sent c.loop.link) so_far
    (omega (arith, c.loop-test.false, c.loop.auto.counter-end))
