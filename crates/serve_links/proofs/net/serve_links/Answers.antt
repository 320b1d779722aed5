use Rattle.std.proofs.Common.{arith, ◌≡◌, ◌||◌, ap, sym, subst, ◌∙◌, Err, Bool}
use Rattle.lam_outside.specs.Links.{links_so_far}
use Rattle.link_ends.specs.declared.link_stop.LinkStop.TheVariants as link_stop
use Rattle.link_ends.proofs.FaultsTold.{IsFaultTold, fault_told, or_none, or_one, rose_at}
use Rattle.session_turns.specs.Keepers.{KeepsBetween}
use Rattle.serve_links.proofs.KeptBehind.{failed_at_stop, failed_then, stayed_at_fault, stayed_twice}
use Rattle.serve_links.proofs.KeptCommits.{still_kept_fault}
use Rattle.serve_links.proofs.Linking.{all_counted, link_in_part, link_more, next_at, no_more}
use Rattle.serve_links.proofs.SoFar.{code_more}
use Rattle.serve_links.proofs.net.serve_links.Goals as goal
use Rattle.serve_links.proofs.net.serve_links.Goals.{then-faulted, else-faulted}

pub returns-in-Err-Stopped-clause-served : goal.returns-in-Err-Stopped-clause-served
returns-in-Err-Stopped-clause-served g c = λ port listening server place serves keeps after is.
    let loop = c.loop.invariant in
    let old = c.args.net.now in
    let now = c.loop.net in
    let new = c.serve_next.new.net in
    let told_old = links_so_far (g.N.Net.ended old) (g.N.Net.linked old) (g.N.Source.given old) (g.N.Source.left old) (g.N.Source.sent old) (g.N.Source.reads old) in
    let told_now = links_so_far (g.N.Net.ended now) (g.N.Net.linked now) (g.N.Source.given now) (g.N.Source.left now) (g.N.Source.sent now) (g.N.Source.reads now) in
    let told_new = links_so_far (g.N.Net.ended new) (g.N.Net.linked new) (g.N.Source.given new) (g.N.Source.left new) (g.N.Source.sent new) (g.N.Source.reads new) in
    link_in_part g.H.Hash32.hash (KeepsBetween (g.K.Keeper.keeps c.serve_next.new.keeper place)) c.args.core.now c.loop.core c.serve_next.new.core loop.code server port told_old told_now after c.loop.link_fault c.loop.counter c.args.connections
    c.loop-test.true (λ links' are. loop.served port listening server serves links' are)
    (λ s serves'. next_at g.H.Hash32.hash (KeepsBetween (g.K.Keeper.keeps c.serve_next.new.keeper place)) c.loop.core c.serve_next.new.core s port told_now told_new (Err c.in-Err-Stopped.field-0) (Err link_stop.Stopped) (ap Err c.in-Err-Stopped.field-0-is)
    (c.in-Err-Stopped.ensures.served port (loop.listened ∙ listening) s place serves' (loop.kept place keeps)) after is) loop.history.server loop.history.serves

pub returns-in-Err-LinkFault-clause-served : goal.returns-in-Err-LinkFault-clause-served
returns-in-Err-LinkFault-clause-served g c = λ port listening server place serves keeps after is.
    let loop = c.loop.invariant in
    let old = c.args.net.now in
    let now = c.loop.net in
    let new = c.serve_next.new.net in
    let told_old = links_so_far (g.N.Net.ended old) (g.N.Net.linked old) (g.N.Source.given old) (g.N.Source.left old) (g.N.Source.sent old) (g.N.Source.reads old) in
    let told_now = links_so_far (g.N.Net.ended now) (g.N.Net.linked now) (g.N.Source.given now) (g.N.Source.left now) (g.N.Source.sent now) (g.N.Source.reads now) in
    let told_new = links_so_far (g.N.Net.ended new) (g.N.Net.linked new) (g.N.Source.given new) (g.N.Source.left new) (g.N.Source.sent new) (g.N.Source.reads new) in
    let same = next_at g.H.Hash32.hash (KeepsBetween (g.K.Keeper.keeps c.serve_next.new.keeper place)) c.loop.core c.serve_next.new.core loop.history.server port told_now told_new (Err c.in-Err-LinkFault.field-0) (Err link_stop.LinkFault)
    (ap Err c.in-Err-LinkFault.field-0-is) (c.in-Err-LinkFault.ensures.served port (loop.listened ∙ listening) loop.history.server place loop.history.serves (loop.kept place keeps)) in
    no_more g.H.Hash32.hash (KeepsBetween (g.K.Keeper.keeps c.serve_next.new.keeper place)) c.args.core.now c.loop.core c.serve_next.new.core server port told_old after c.loop.link_fault c.loop.counter c.args.connections
    (g.N.Net.accept_faults old) (g.N.Net.accept_faults now) (g.N.Net.accept_faults new) same.1 c.loop-test.true loop.accepts
    (rose_at Bool (g.N.Net.accept_faults now) (g.N.Net.accept_faults new) c.in-Err-LinkFault.field-0 c.in-Err-LinkFault.field-0-is c.in-Err-LinkFault.ensures.accepts)
    (loop.served port listening server serves after (sym same.0 ∙ is))

pub loop-preserved : goal.loop-preserved
loop-preserved g c =
    let hash = g.H.Hash32.hash in
    let first = c.args.core.now in
    let now = c.loop.core in
    let new = c.serve_next.new.core in
    let loop = c.loop.invariant in
    let before = c.args.net.now in
    let between = c.loop.net in
    let told_old = links_so_far (g.N.Net.ended before) (g.N.Net.linked before) (g.N.Source.given before) (g.N.Source.left before) (g.N.Source.sent before) (g.N.Source.reads before) in
    let told_now = links_so_far (g.N.Net.ended between) (g.N.Net.linked between) (g.N.Source.given between) (g.N.Source.left between) (g.N.Source.sent between) (g.N.Source.reads between) in
    let Told : Bool → Type 0 = λ link_fault. IsFaultTold link_fault (g.N.Source.faults before) (g.N.Source.faults c.serve_next.new.net) in
    let flag : c.if-faulted.link_fault ≡ (c.loop.link_fault || c.in-Ok.faulted) = elim c.if-faulted.branch [
      | then-faulted w ↦ w.link_fault-is ∙ or_one c.loop.link_fault ∙ ap (λ (b : Bool). c.loop.link_fault || b) (sym w.if-faulted.true)
      | else-faulted w ↦ w.link_fault-is ∙ or_none c.loop.link_fault ∙ ap (λ (b : Bool). c.loop.link_fault || b) (sym w.if-faulted.false)
    ] in
    record {
      history = c.in-Ok.ensures.history;
      code = code_more hash first now new loop.code c.serve_next.ensures.code;
      served = λ port listening server serves after is.
          link_more hash (KeepsBetween (g.K.Keeper.keeps c.serve_next.new.keeper c.requires.kept.0)) first now new loop.code server port told_old told_now after c.loop.link_fault c.in-Ok.faulted c.if-faulted.link_fault c.loop.counter flag
          (λ links' are. loop.served port listening server serves links' are) (λ s serves'. c.in-Ok.ensures.served port (loop.listened ∙ listening) s c.requires.kept.0 serves' (loop.kept c.requires.kept.0 c.requires.kept.1) after is)
          loop.history.server loop.history.serves;
      kept = λ place keeps. c.in-Ok.ensures.kept place (loop.kept place keeps);
      keeper = (c.in-Ok.ensures.keeper.0 ∙ loop.keeper.0, c.in-Ok.ensures.keeper.1 ∙ loop.keeper.1);
      keeper_rest = c.serve_next.ensures.keeper_rest ∙ loop.keeper_rest;
      listened = c.serve_next.ensures.listened ∙ loop.listened;
      listens = c.serve_next.ensures.listens ∙ loop.listens;
      dials = c.serve_next.ensures.dials ∙ loop.dials;
      accepts = c.in-Ok.ensures.accepts ∙ loop.accepts;
      faults = subst Told (sym flag)
          (fault_told c.loop.link_fault c.in-Ok.faulted (g.N.Source.faults before) (g.N.Source.faults between) (g.N.Source.faults c.serve_next.new.net) loop.faults c.in-Ok.ensures.cause);
    }

pub returns-in-Err-Stopped-clause-keeper : goal.returns-in-Err-Stopped-clause-keeper
returns-in-Err-Stopped-clause-keeper g c =
    failed_then _ _ _ _ _ _ c.loop.invariant.keeper (failed_at_stop _ _ _ _ c.in-Err-Stopped.field-0 c.in-Err-Stopped.field-0-is c.in-Err-Stopped.ensures.keeper)

pub returns-in-Err-LinkFault-clause-keeper : goal.returns-in-Err-LinkFault-clause-keeper
returns-in-Err-LinkFault-clause-keeper g c =
    stayed_twice _ _ _ _ _ _ c.loop.invariant.keeper (stayed_at_fault _ _ _ _ c.in-Err-LinkFault.field-0 c.in-Err-LinkFault.field-0-is c.in-Err-LinkFault.ensures.keeper)

pub returns-in-Err-LinkFault-clause-kept : goal.returns-in-Err-LinkFault-clause-kept
returns-in-Err-LinkFault-clause-kept g c = λ place keeps.
    still_kept_fault _ c.in-Err-LinkFault.field-0 c.in-Err-LinkFault.field-0-is (c.in-Err-LinkFault.ensures.kept place (c.loop.invariant.kept place keeps))

pub returns-clause-served : goal.returns-clause-served
returns-clause-served g c = λ port listening server place serves keeps after is.
    let old = c.args.net.now in
    let told_old = links_so_far (g.N.Net.ended old) (g.N.Net.linked old) (g.N.Source.given old) (g.N.Source.left old) (g.N.Source.sent old) (g.N.Source.reads old) in
    all_counted g.H.Hash32.hash (KeepsBetween (g.K.Keeper.keeps c.loop.keeper place)) c.args.core.now c.loop.core server port told_old after c.loop.link_fault c.loop.counter c.args.connections
    (g.N.Net.accept_faults old) (g.N.Net.accept_faults c.loop.net) (omega (arith, c.loop-test.false, c.loop.auto.counter-end)) (c.loop.invariant.served port listening server serves after is)
