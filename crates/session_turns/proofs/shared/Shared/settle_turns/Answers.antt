use Rattle.std.proofs.Common.{◌++◌, [], length, sym, ap, ◌∙◌, subst, append-nil, arith}
use Rattle.std.specs.Vec.Iter.{into_iter_items, into_iter_len}
use Rattle.mode_vm.specs.Meanings.{program_of}
use Rattle.session_meaning.specs.Server as meant
use Rattle.session_turns.specs.Rounds.{entries_of}
use Rattle.session_turns.proofs.RoundSoFar.{IsSofar, at_once, begins, ends, goes_on, next, none_left, on_err, one_taken, stops}
use Rattle.session_turns.proofs.shared.Shared.settle_turns.Goals as goal

pub loop-entry-init : goal.loop-entry-init
loop-entry-init g c =
    let gives = c.into_iter-entry-iterator.ensures.into_iter_gives in
    record {
      counts = let n = gives.1 in let same = ap length gives.0 in let ok = c.args.entries.ok in omega (arith, n, same, ok);
      sofar = λ slice m xs shares are. rw c.new-left.ensures.items (subst (λ l. IsSofar g.H.Hash32.hash c.args.code.now slice m xs c.args.self.now l [] c.args.replies.now.items c.args.replies.now.items) (sym gives.0)
          (begins g.H.Hash32.hash c.args.code.now slice c.args.self.now c.args.entries.items c.args.replies.now.items m xs shares are));
    }

pub settle_turn-requires-after_bounds : goal.settle_turn-requires-after_bounds
settle_turn-requires-after_bounds g c κs within =
    let slice = c.requires.0 in
    let m = c.requires.1 in
    let xs = c.requires.2 in
    let shares = c.requires.3 in
    let are = c.requires.4 in
    let hash = g.H.Hash32.hash in
    let code = c.args.code.now in
    let loop = c.loop-entry in
    let rest = into_iter_items c.next.new.self in
    let old = c.args.replies.now.items in
    let h = subst (λ l. IsSofar hash code slice m xs loop.self l loop.left.items old loop.replies.items) c.in-Some.ensures.steps.0 (loop.invariant.sofar slice m xs shares are) in
    let n = next hash code slice m xs loop.self c.in-Some.entry rest loop.left.items old loop.replies.items h in
    (slice, h.sofar.shared, n.x, h.shares, n.this)

pub returns-in_err-entry-clause-refused : goal.returns-in_err-entry-clause-refused
returns-in_err-entry-clause-refused g c =
    on_err c.from_residual.result _ (λ slice m xs shares are.
    let hash = g.H.Hash32.hash in
    let code = c.args.code.now in
    let loop = c.loop-entry in
    let rest = into_iter_items c.next.new.self in
    let old = c.args.replies.now.items in
    let h = subst (λ l. IsSofar hash code slice m xs loop.self l loop.left.items old loop.replies.items) c.in-Some.ensures.steps.0 (loop.invariant.sofar slice m xs shares are) in
    let n = next hash code slice m xs loop.self c.in-Some.entry rest loop.left.items old loop.replies.items h in
    let r = c.in_err-entry.ensures.refused slice h.sofar.shared n.x h.shares n.this in
    (r.0, stops hash code slice m xs loop.self c.in-Some.entry rest loop.left.items old loop.replies.items h r.0 r.1, r.2))

pub loop-entry-preserved-in-Continue-branch-3 : goal.loop-entry-preserved-in-Continue-branch-3
loop-entry-preserved-in-Continue-branch-3 g c =
    record {
      counts = one_taken (into_iter_items c.loop-entry.entry-iterator) (into_iter_items c.next.new.self) c.in-Some.entry (into_iter_len c.loop-entry.entry-iterator) (into_iter_len c.next.new.self)
          c.in-Some.ensures.steps.0 c.in-Some.ensures.steps.1 c.loop-entry.invariant.counts;
      sofar = λ slice m xs shares are.
          let hash = g.H.Hash32.hash in
          let code = c.args.code.now in
          let loop = c.loop-entry in
          let rest = into_iter_items c.next.new.self in
          let old = c.args.replies.now.items in
          let h = subst (λ l. IsSofar hash code slice m xs loop.self l loop.left.items old loop.replies.items) c.in-Some.ensures.steps.0 (loop.invariant.sofar slice m xs shares are) in
          let n = next hash code slice m xs loop.self c.in-Some.entry rest loop.left.items old loop.replies.items h in
          let q = c.in_ok-entry.ensures.turned slice h.sofar.shared n.x h.shares n.this in
          let on = goes_on hash code slice m xs loop.self c.in-Some.entry rest loop.left.items old loop.replies.items h c.settle_turn.new.self c.settle_turn.new.replies.items c.in_ok-entry.field-0 c.settle_turn.ensures.grows q in
          subst (λ l. IsSofar hash code slice m xs c.settle_turn.new.self rest l old c.settle_turn.new.replies.items)
          (ap (λ o. loop.left.items ++ entries_of o) c.in-Some-2.is ∙ sym c.in_ok-push.ensures.items) on;
    }

pub returns-in_err-push-clause-refused : goal.returns-in_err-push-clause-refused
returns-in_err-push-clause-refused g c =
    on_err c.from_residual-in_err-push.result _ (λ slice m xs shares are.
    let hash = g.H.Hash32.hash in
    let code = c.args.code.now in
    let loop = c.loop-entry in
    let rest = into_iter_items c.next.new.self in
    let old = c.args.replies.now.items in
    let h = subst (λ l. IsSofar hash code slice m xs loop.self l loop.left.items old loop.replies.items) c.in-Some.ensures.steps.0 (loop.invariant.sofar slice m xs shares are) in
    let n = next hash code slice m xs loop.self c.in-Some.entry rest loop.left.items old loop.replies.items h in
    let q = c.in_ok-entry.ensures.turned slice h.sofar.shared n.x h.shares n.this in
    let on = goes_on hash code slice m xs loop.self c.in-Some.entry rest loop.left.items old loop.replies.items h c.settle_turn.new.self c.settle_turn.new.replies.items c.in_ok-entry.field-0 c.settle_turn.ensures.grows q in
    (on.sofar.shared, on.reached on.sofar.shared (at_once hash (program_of code) (meant.last_turn slice) on.rest on.sofar.shared), on.shares))

pub loop-entry-preserved : goal.loop-entry-preserved
loop-entry-preserved g c =
    record {
      counts = one_taken (into_iter_items c.loop-entry.entry-iterator) (into_iter_items c.next.new.self) c.in-Some.entry (into_iter_len c.loop-entry.entry-iterator) (into_iter_len c.next.new.self)
          c.in-Some.ensures.steps.0 c.in-Some.ensures.steps.1 c.loop-entry.invariant.counts;
      sofar = λ slice m xs shares are.
          let hash = g.H.Hash32.hash in
          let code = c.args.code.now in
          let loop = c.loop-entry in
          let rest = into_iter_items c.next.new.self in
          let old = c.args.replies.now.items in
          let h = subst (λ l. IsSofar hash code slice m xs loop.self l loop.left.items old loop.replies.items) c.in-Some.ensures.steps.0 (loop.invariant.sofar slice m xs shares are) in
          let n = next hash code slice m xs loop.self c.in-Some.entry rest loop.left.items old loop.replies.items h in
          let q = c.in_ok-entry.ensures.turned slice h.sofar.shared n.x h.shares n.this in
          let on = goes_on hash code slice m xs loop.self c.in-Some.entry rest loop.left.items old loop.replies.items h c.settle_turn.new.self c.settle_turn.new.replies.items c.in_ok-entry.field-0 c.settle_turn.ensures.grows q in
          subst (λ l. IsSofar hash code slice m xs c.settle_turn.new.self rest l old c.settle_turn.new.replies.items)
          (ap (λ o. loop.left.items ++ entries_of o) c.in_default.is ∙ append-nil loop.left.items) on;
    }

pub returns-clause-turned : goal.returns-clause-turned
returns-clause-turned g c slice m xs shares are =
    let loop = c.loop-entry in
    ends g.H.Hash32.hash c.args.code.now slice m xs loop.self (into_iter_items loop.entry-iterator) loop.left.items c.args.replies.now.items loop.replies.items
    (none_left (into_iter_items loop.entry-iterator) (into_iter_len loop.entry-iterator) c.in-None.ensures.steps.0 loop.invariant.counts) (loop.invariant.sofar slice m xs shares are)
