use Rattle.std.proofs.Common.{Ok, Err, ap, sym, subst, ◌∙◌, true, false, refl}
use Rattle.wire_form.proofs.Moving.{moves_on}
use Rattle.link_ends.specs.declared.end.ConnectionEnd.TheVariants.{Over, Stopped}
use Rattle.link_ends.specs.declared.link_stop.LinkStop.TheVariants as link_stop
use Rattle.link_ends.proofs.Taken.{none_moved}
use Rattle.session_turns.specs.Keepers.{KeepsBetween}
use Rattle.serve_links.proofs.KeptBehind.{end_same, failed_at_stop, failed_then, kept_at_end, stayed_at_end, stayed_at_fault, stayed_twice}
use Rattle.serve_links.proofs.KeptCommits.{all_kept, still_kept_fault}
use Rattle.serve_links.proofs.SoFar.{at_first, breaks_now, code_more, ends_now, one_more, served_at, stays_at_end, stays_halted_fault, waits_more}
use Rattle.lam_outside.proofs.Waiting.{none_read}
use Rattle.serve_links.proofs.connection.serve_link.Goals as goal

pub loop-core-init : goal.loop-core-init
loop-core-init g c = record {
  history = c.requires.history;
  code = record { code = refl; slice = refl };
  served = λ bytes told server keeper place serves.
      at_first g.H.Hash32.hash (KeepsBetween (g.K.Keeper.keeps keeper place)) c.args.core.now server (g.L.Source.sent c.args.link.now) bytes (g.L.Source.left c.args.link.now) told serves;
  kept = λ place keeps. keeps;
  keeper = (refl, refl);
  keeper_rest = refl;
  prompt = λ bytes told server serves. none_read _ _ _ refl;
  moves = none_moved (g.L.Source.given c.args.link.now) (g.L.Source.left c.args.link.now);
  beyond = refl;
  faults = refl;
}

pub loop-core-preserved : goal.loop-core-preserved
loop-core-preserved g c =
    let hash = g.H.Hash32.hash in
    let first = c.args.core.now in
    let now = c.loop-core.core in
    let new = c.serve_message.new.core in
    let before = c.loop-core.link in
    let behind = c.serve_message.new.link in
    let loop = c.loop-core.invariant in
    record {
      history = c.in-Ok-true.ensures.history;
      code = code_more hash first now new loop.code c.serve_message.ensures.code;
      served = λ bytes told server keeper place serves.
          let so_far = loop.served bytes told server keeper place serves in
          let at = c.requires.kept in
          let on = served_at hash (KeepsBetween (g.K.Keeper.keeps c.serve_message.new.keeper at.0)) now new so_far.current (g.L.Source.sent before) (g.L.Source.sent behind) so_far.rest (g.L.Source.left behind) (Ok c.in-Ok-true.field-0) (Ok true)
          (ap Ok c.in-Ok-true.field-0-test) (c.in-Ok-true.ensures.served so_far.rest so_far.told so_far.current at.0 so_far.serves (loop.kept at.0 at.1)) in
          one_more hash (KeepsBetween (g.K.Keeper.keeps keeper place)) first now loop.code server (g.L.Source.sent c.args.link.now) (g.L.Source.sent before) (g.L.Source.sent behind) bytes (g.L.Source.left before) so_far
          (KeepsBetween (g.K.Keeper.keeps c.serve_message.new.keeper at.0)) new (g.L.Source.left behind) on;
      kept = λ place keeps. c.in-Ok-true.ensures.kept place (loop.kept place keeps);
      keeper = (c.in-Ok-true.ensures.keeper.0 ∙ loop.keeper.0, c.in-Ok-true.ensures.keeper.1 ∙ loop.keeper.1);
      keeper_rest = c.serve_message.ensures.keeper_rest ∙ loop.keeper_rest;
      prompt = λ bytes told server serves.
          let loop = c.loop-core.invariant in
          let so_far = loop.served bytes told server c.loop-core.keeper c.requires.kept.0 serves in
          waits_more g.H.Hash32.hash (KeepsBetween (g.K.Keeper.keeps c.loop-core.keeper c.requires.kept.0)) c.args.core.now c.loop-core.core loop.code server (g.L.Source.sent c.args.link.now) (g.L.Source.sent c.loop-core.link) (g.L.Source.sent c.serve_message.new.link)
          bytes (g.L.Source.left c.loop-core.link) so_far _ _ _ (loop.prompt bytes told server serves) (c.serve_message.ensures.waits so_far.rest so_far.told);
      moves = moves_on _ _ _ _ _ _ loop.moves c.serve_message.ensures.moves;
      beyond = c.serve_message.ensures.beyond ∙ loop.beyond;
      faults = c.in-Ok-true.ensures.cause ∙ loop.faults;
    }

pub returns-in-Ok-false-clause-served : goal.returns-in-Ok-false-clause-served
returns-in-Ok-false-clause-served g c = λ bytes told server place serves keeps.
    let hash = g.H.Hash32.hash in
    let first = c.args.core.now in
    let now = c.loop-core.core in
    let new = c.serve_message.new.core in
    let before = c.loop-core.link in
    let behind = c.serve_message.new.link in
    let loop = c.loop-core.invariant in
    let Kept = KeepsBetween (g.K.Keeper.keeps c.serve_message.new.keeper place) in
    let so_far = loop.served bytes told server c.serve_message.new.keeper place serves in
    let ended = served_at hash Kept now new so_far.current (g.L.Source.sent before) (g.L.Source.sent behind) so_far.rest (g.L.Source.left behind) (Ok c.in-Ok-false.field-0) (Ok false)
    (ap Ok c.in-Ok-false.field-0-test) (c.in-Ok-false.ensures.served so_far.rest so_far.told so_far.current place so_far.serves (loop.kept place keeps)) in
    ends_now hash Kept first now loop.code server (g.L.Source.sent c.args.link.now) (g.L.Source.sent before) (g.L.Source.sent behind) bytes (g.L.Source.left before) so_far new (g.L.Source.left behind) Over ended

pub returns-in-Ok-false-clause-moves : goal.returns-in-Ok-false-clause-moves
returns-in-Ok-false-clause-moves g c = moves_on _ _ _ _ _ _ c.loop-core.invariant.moves c.serve_message.ensures.moves

pub returns-in-Err-LinkFault-clause-served : goal.returns-in-Err-LinkFault-clause-served
returns-in-Err-LinkFault-clause-served g c = λ bytes told server place serves keeps.
    let hash = g.H.Hash32.hash in
    let first = c.args.core.now in
    let now = c.loop-core.core in
    let broken = c.serve_message.new.core in
    let before = c.loop-core.link in
    let behind = c.serve_message.new.link in
    let loop = c.loop-core.invariant in
    let Kept = KeepsBetween (g.K.Keeper.keeps c.serve_message.new.keeper place) in
    let so_far = loop.served bytes told server c.serve_message.new.keeper place serves in
    let off = served_at hash Kept now broken so_far.current (g.L.Source.sent before) (g.L.Source.sent behind) so_far.rest (g.L.Source.left behind) (Err c.in-Err-LinkFault.field-0) (Err link_stop.LinkFault)
    (ap Err c.in-Err-LinkFault.field-0-is) (c.in-Err-LinkFault.ensures.served so_far.rest so_far.told so_far.current place so_far.serves (loop.kept place keeps)) in
    breaks_now hash Kept first now loop.code server (g.L.Source.sent c.args.link.now) (g.L.Source.sent before) (g.L.Source.sent behind) bytes (g.L.Source.left before) so_far
    broken c.end_at_fault.new.core (g.L.Source.left behind) c.end_at_fault.result c.end_at_fault.ensures.broken off (c.end_at_fault.ensures.ended _ off.serves)
    (all_kept (g.K.Keeper.keeps c.serve_message.new.keeper place) broken.shared.commits.items _ off.serves.shares.commits
    (still_kept_fault _ c.in-Err-LinkFault.field-0 c.in-Err-LinkFault.field-0-is (c.in-Err-LinkFault.ensures.kept place (loop.kept place keeps))))

pub returns-in-Err-LinkFault-clause-history : goal.returns-in-Err-LinkFault-clause-history
returns-in-Err-LinkFault-clause-history g c =
    stays_at_end g.H.Hash32.hash c.serve_message.new.core c.end_at_fault.new.core c.end_at_fault.ensures.code
    (stays_halted_fault g.H.Hash32.hash c.serve_message.new.core c.in-Err-LinkFault.field-0 c.in-Err-LinkFault.field-0-is c.in-Err-LinkFault.ensures.history)
    c.end_at_fault.ensures.ended c.end_at_fault.result

pub returns-in-Err-LinkFault-clause-moves : goal.returns-in-Err-LinkFault-clause-moves
returns-in-Err-LinkFault-clause-moves g c = moves_on _ _ _ _ _ _ c.loop-core.invariant.moves c.serve_message.ensures.moves

pub returns-in-Err-Stopped-clause-served : goal.returns-in-Err-Stopped-clause-served
returns-in-Err-Stopped-clause-served g c = λ bytes told server place serves keeps.
    let hash = g.H.Hash32.hash in
    let first = c.args.core.now in
    let now = c.loop-core.core in
    let new = c.serve_message.new.core in
    let before = c.loop-core.link in
    let behind = c.serve_message.new.link in
    let loop = c.loop-core.invariant in
    let Kept = KeepsBetween (g.K.Keeper.keeps c.serve_message.new.keeper place) in
    let so_far = loop.served bytes told server c.serve_message.new.keeper place serves in
    let ended = served_at hash Kept now new so_far.current (g.L.Source.sent before) (g.L.Source.sent behind) so_far.rest (g.L.Source.left behind) (Err c.in-Err-Stopped.field-0) (Err link_stop.Stopped)
    (ap Err c.in-Err-Stopped.field-0-is) (c.in-Err-Stopped.ensures.served so_far.rest so_far.told so_far.current place so_far.serves (loop.kept place keeps)) in
    ends_now hash Kept first now loop.code server (g.L.Source.sent c.args.link.now) (g.L.Source.sent before) (g.L.Source.sent behind) bytes (g.L.Source.left before) so_far new (g.L.Source.left behind) Stopped ended

pub returns-in-Err-Stopped-clause-moves : goal.returns-in-Err-Stopped-clause-moves
returns-in-Err-Stopped-clause-moves g c = moves_on _ _ _ _ _ _ c.loop-core.invariant.moves c.serve_message.ensures.moves

pub returns-in-Ok-false-clause-prompt : goal.returns-in-Ok-false-clause-prompt
returns-in-Ok-false-clause-prompt g c = λ bytes told server serves.
    let loop = c.loop-core.invariant in
    let so_far = loop.served bytes told server c.loop-core.keeper c.requires.kept.0 serves in
    waits_more g.H.Hash32.hash (KeepsBetween (g.K.Keeper.keeps c.loop-core.keeper c.requires.kept.0)) c.args.core.now c.loop-core.core loop.code server (g.L.Source.sent c.args.link.now) (g.L.Source.sent c.loop-core.link) (g.L.Source.sent c.serve_message.new.link)
    bytes (g.L.Source.left c.loop-core.link) so_far _ _ _ (loop.prompt bytes told server serves) (c.serve_message.ensures.waits so_far.rest so_far.told)

pub returns-in-Err-LinkFault-clause-prompt : goal.returns-in-Err-LinkFault-clause-prompt
returns-in-Err-LinkFault-clause-prompt g c = λ bytes told server serves.
    let loop = c.loop-core.invariant in
    let so_far = loop.served bytes told server c.loop-core.keeper c.requires.kept.0 serves in
    waits_more g.H.Hash32.hash (KeepsBetween (g.K.Keeper.keeps c.loop-core.keeper c.requires.kept.0)) c.args.core.now c.loop-core.core loop.code server (g.L.Source.sent c.args.link.now) (g.L.Source.sent c.loop-core.link) (g.L.Source.sent c.serve_message.new.link)
    bytes (g.L.Source.left c.loop-core.link) so_far _ _ _ (loop.prompt bytes told server serves) (c.serve_message.ensures.waits so_far.rest so_far.told)

pub returns-in-Err-Stopped-clause-prompt : goal.returns-in-Err-Stopped-clause-prompt
returns-in-Err-Stopped-clause-prompt g c = λ bytes told server serves.
    let loop = c.loop-core.invariant in
    let so_far = loop.served bytes told server c.loop-core.keeper c.requires.kept.0 serves in
    waits_more g.H.Hash32.hash (KeepsBetween (g.K.Keeper.keeps c.loop-core.keeper c.requires.kept.0)) c.args.core.now c.loop-core.core loop.code server (g.L.Source.sent c.args.link.now) (g.L.Source.sent c.loop-core.link) (g.L.Source.sent c.serve_message.new.link)
    bytes (g.L.Source.left c.loop-core.link) so_far _ _ _ (loop.prompt bytes told server serves) (c.serve_message.ensures.waits so_far.rest so_far.told)

pub returns-in-Ok-false-clause-kept : goal.returns-in-Ok-false-clause-kept
returns-in-Ok-false-clause-kept g c = λ place keeps. c.in-Ok-false.ensures.kept place (c.loop-core.invariant.kept place keeps)

pub returns-in-Ok-false-clause-keeper : goal.returns-in-Ok-false-clause-keeper
returns-in-Ok-false-clause-keeper g c = stayed_twice _ _ _ _ _ _ c.loop-core.invariant.keeper c.in-Ok-false.ensures.keeper

pub returns-in-Err-LinkFault-clause-kept : goal.returns-in-Err-LinkFault-clause-kept
returns-in-Err-LinkFault-clause-kept g c = λ place keeps.
    let hash = g.H.Hash32.hash in
    let broken = c.serve_message.new.core in
    let ended = c.end_at_fault.new.core in
    let Keeps = g.K.Keeper.keeps c.serve_message.new.keeper place in
    let served = stays_halted_fault hash broken c.in-Err-LinkFault.field-0 c.in-Err-LinkFault.field-0-is c.in-Err-LinkFault.ensures.history in
    let kept = still_kept_fault (Keeps broken.shared.commits.items) c.in-Err-LinkFault.field-0 c.in-Err-LinkFault.field-0-is
    (c.in-Err-LinkFault.ensures.kept place (c.loop-core.invariant.kept place keeps)) in
    let same = end_same hash broken ended served.server served.serves (c.end_at_fault.ensures.ended served.server served.serves) in
    kept_at_end (Keeps ended.shared.commits.items) c.end_at_fault.result (subst Keeps (sym same) kept)

pub returns-in-Err-LinkFault-clause-keeper : goal.returns-in-Err-LinkFault-clause-keeper
returns-in-Err-LinkFault-clause-keeper g c =
    stayed_at_end _ _ _ _ c.end_at_fault.result
    (stayed_twice _ _ _ _ _ _ c.loop-core.invariant.keeper (stayed_at_fault _ _ _ _ c.in-Err-LinkFault.field-0 c.in-Err-LinkFault.field-0-is c.in-Err-LinkFault.ensures.keeper))

pub returns-in-Err-Stopped-clause-keeper : goal.returns-in-Err-Stopped-clause-keeper
returns-in-Err-Stopped-clause-keeper g c =
    failed_then _ _ _ _ _ _ c.loop-core.invariant.keeper (failed_at_stop _ _ _ _ c.in-Err-Stopped.field-0 c.in-Err-Stopped.field-0-is c.in-Err-Stopped.ensures.keeper)
