use Rattle.std.proofs.Common.{◌≡◌, ◌||◌, ap, sym, subst, ◌∙◌, Err, Bool}
use Rattle.lam_outside.specs.Links.{links_so_far}
use Rattle.piece_mirror.specs.Answers.{given_by}
use Rattle.piece_mirror.specs.Tables.{bytes_of}
use Rattle.link_ends.specs.declared.link_stop.LinkStop.TheVariants as link_stop
use Rattle.link_ends.proofs.FaultsTold.{IsFaultTold, fault_told, or_none, or_one, rose_at}
use Rattle.mirror_links.proofs.Links.{link_in_part, link_more, next_at, no_more}
use Rattle.mirror_links.proofs.net.answer_links.Goals as goal
use Rattle.mirror_links.proofs.net.answer_links.Goals.{then-faulted, else-faulted}

pub returns-in-Err-Stopped-clause-answered : goal.returns-in-Err-Stopped-clause-answered
returns-in-Err-Stopped-clause-answered g c = λ port listening after is.
    let get = given_by g.H.Hash32.hash (bytes_of c.args.mirror.now.pieces) in
    let loop = c.loop.invariant in
    let old = c.args.net.now in
    let now = c.loop.net in
    let new = c.answer_next.new.net in
    let told_old = links_so_far (g.N.Net.ended old) (g.N.Net.linked old) (g.N.Source.given old) (g.N.Source.left old) (g.N.Source.sent old) (g.N.Source.reads old) in
    let told_now = links_so_far (g.N.Net.ended now) (g.N.Net.linked now) (g.N.Source.given now) (g.N.Source.left now) (g.N.Source.sent now) (g.N.Source.reads now) in
    let told_new = links_so_far (g.N.Net.ended new) (g.N.Net.linked new) (g.N.Source.given new) (g.N.Source.left new) (g.N.Source.sent new) (g.N.Source.reads new) in
    link_in_part get port told_old told_now after c.loop.link_fault c.loop.counter c.args.connections c.loop-test.true (λ links' are. loop.answered port listening links' are)
    (next_at get port told_now told_new (Err c.in-Err-Stopped.field-0) (Err link_stop.Stopped) (ap Err c.in-Err-Stopped.field-0-is)
    (c.in-Err-Stopped.ensures.answered port (loop.listened ∙ listening)) after is)

pub returns-in-Err-LinkFault-clause-answered : goal.returns-in-Err-LinkFault-clause-answered
returns-in-Err-LinkFault-clause-answered g c = λ port listening after is.
    let get = given_by g.H.Hash32.hash (bytes_of c.args.mirror.now.pieces) in
    let loop = c.loop.invariant in
    let old = c.args.net.now in
    let now = c.loop.net in
    let new = c.answer_next.new.net in
    let told_old = links_so_far (g.N.Net.ended old) (g.N.Net.linked old) (g.N.Source.given old) (g.N.Source.left old) (g.N.Source.sent old) (g.N.Source.reads old) in
    let told_now = links_so_far (g.N.Net.ended now) (g.N.Net.linked now) (g.N.Source.given now) (g.N.Source.left now) (g.N.Source.sent now) (g.N.Source.reads now) in
    let told_new = links_so_far (g.N.Net.ended new) (g.N.Net.linked new) (g.N.Source.given new) (g.N.Source.left new) (g.N.Source.sent new) (g.N.Source.reads new) in
    let same = next_at get port told_now told_new (Err c.in-Err-LinkFault.field-0) (Err link_stop.LinkFault) (ap Err c.in-Err-LinkFault.field-0-is)
    (c.in-Err-LinkFault.ensures.answered port (loop.listened ∙ listening)) in
    no_more get port told_old after c.loop.link_fault c.loop.counter c.args.connections
    (g.N.Net.accept_faults old) (g.N.Net.accept_faults now) (g.N.Net.accept_faults new) c.loop-test.true loop.accepts
    (rose_at Bool (g.N.Net.accept_faults now) (g.N.Net.accept_faults new) c.in-Err-LinkFault.field-0 c.in-Err-LinkFault.field-0-is c.in-Err-LinkFault.ensures.accepts)
    (loop.answered port listening after (sym same ∙ is))

pub loop-preserved : goal.loop-preserved
loop-preserved g c =
    let get = given_by g.H.Hash32.hash (bytes_of c.args.mirror.now.pieces) in
    let loop = c.loop.invariant in
    let old = c.args.net.now in
    let now = c.loop.net in
    let new = c.answer_next.new.net in
    let told_old = links_so_far (g.N.Net.ended old) (g.N.Net.linked old) (g.N.Source.given old) (g.N.Source.left old) (g.N.Source.sent old) (g.N.Source.reads old) in
    let told_now = links_so_far (g.N.Net.ended now) (g.N.Net.linked now) (g.N.Source.given now) (g.N.Source.left now) (g.N.Source.sent now) (g.N.Source.reads now) in
    let Told : Bool → Type 0 = λ link_fault. IsFaultTold link_fault (g.N.Source.faults old) (g.N.Source.faults new) in
    let flag : c.if-faulted.link_fault ≡ (c.loop.link_fault || c.in-Ok.faulted) = elim c.if-faulted.branch [
      | then-faulted w ↦ w.link_fault-is ∙ or_one c.loop.link_fault ∙ ap (λ (b : Bool). c.loop.link_fault || b) (sym w.if-faulted.true)
      | else-faulted w ↦ w.link_fault-is ∙ or_none c.loop.link_fault ∙ ap (λ (b : Bool). c.loop.link_fault || b) (sym w.if-faulted.false)
    ] in
    record {
      answered = λ port listening after is.
          link_more get port told_old told_now after c.loop.link_fault c.in-Ok.faulted c.if-faulted.link_fault c.loop.counter flag
          (λ links' are. loop.answered port listening links' are) (c.in-Ok.ensures.answered port (loop.listened ∙ listening) after is);
      listened = c.answer_next.ensures.listened ∙ loop.listened;
      listens = c.answer_next.ensures.listens ∙ loop.listens;
      dials = c.answer_next.ensures.dials ∙ loop.dials;
      accepts = c.in-Ok.ensures.accepts ∙ loop.accepts;
      faults = subst Told (sym flag)
          (fault_told c.loop.link_fault c.in-Ok.faulted (g.N.Source.faults old) (g.N.Source.faults now) (g.N.Source.faults new) loop.faults c.in-Ok.ensures.cause);
    }
