use Rattle.std.proofs.Common.{rules, ◌≡◌, ◌+◌, ◌-◌, suc, inl, true, false, subst, arith}
use Rattle.std.specs.List.{list_any}
use Rattle.session_turns.specs.Rounds.{runs}
use Rattle.session_turns.proofs.RoundSoFar.{on_err}
use Rattle.session_turns.proofs.RoundsSoFar.{IsLeftOf, all_left, none_left, none_runs, one_less}
use Rattle.session_turns.proofs.shared.Shared.rounds.Goals as goal

pub loop-init : goal.loop-init
loop-init g c m xs shares are =
    let hash = g.H.Hash32.hash in
    let all : c.args.rounds ≡ c.args.rounds - 0 = omega arith in
    let old = c.args.replies.now.items in
    subst (λ k. IsLeftOf hash c.args.code.now c.args.units c.args.rounds k m xs c.args.self.now c.args.entries.items old old) all
    (all_left hash c.args.code.now c.args.units c.args.rounds m xs c.args.self.now c.args.entries.items old shares are)

pub returns-then-not-any_runs-clause-turned : goal.returns-then-not-any_runs-clause-turned
returns-then-not-any_runs-clause-turned g c m xs shares are =
    let none : list_any runs c.loop.left.items ≡ false = search rules in
    none_runs g.H.Hash32.hash c.args.code.now c.args.units c.args.rounds (c.args.rounds - c.loop.counter) m xs c.loop.self c.loop.left.items c.args.replies.now.items
    c.loop.replies.items none (c.loop.invariant m xs shares are)

pub returns-in_err-left-clause-refused : goal.returns-in_err-left-clause-refused
returns-in_err-left-clause-refused g c =
    on_err c.from_residual.result _ (λ m xs shares are.
    let hash = g.H.Hash32.hash in
    let loop = c.loop in
    let old = c.args.replies.now.items in
    let one : c.args.rounds - c.loop.counter ≡ suc (c.args.rounds - (c.loop.counter + 1)) = let l = c.loop-test.true in omega (arith, l) in
    let h = subst (λ k. IsLeftOf hash c.args.code.now c.args.units c.args.rounds k m xs loop.self loop.left.items old loop.replies.items) one (loop.invariant m xs shares are) in
    let r = c.in_err-left.ensures.refused h.sofar.shared h.sofar.sessions h.stands.shares h.stands.left in
    (r.0, h.reached r.0 (inl r.1), r.2))

pub loop-preserved : goal.loop-preserved
loop-preserved g c m xs shares are =
    let hash = g.H.Hash32.hash in
    let loop = c.loop in
    let old = c.args.replies.now.items in
    let one : c.args.rounds - c.loop.counter ≡ suc (c.args.rounds - (c.loop.counter + 1)) = let l = c.loop-test.true in omega (arith, l) in
    let some : list_any runs c.loop.left.items ≡ true = search rules in
    let h = subst (λ k. IsLeftOf hash c.args.code.now c.args.units c.args.rounds k m xs loop.self loop.left.items old loop.replies.items) one (loop.invariant m xs shares are) in
    let q = c.in_ok-left.ensures.turned h.sofar.shared h.sofar.sessions h.stands.shares h.stands.left in
    one_less hash c.args.code.now c.args.units c.args.rounds (c.args.rounds - (c.loop.counter + 1)) m xs loop.self c.round.new.self loop.left.items c.in_ok-left.left.items
    old loop.replies.items c.round.new.replies.items h some q

pub returns-clause-turned : goal.returns-clause-turned
returns-clause-turned g c m xs shares are =
    let done = c.loop-test.false in
    none_left g.H.Hash32.hash c.args.code.now c.args.units c.args.rounds (c.args.rounds - c.loop.counter) m xs c.loop.self c.loop.left.items c.args.replies.now.items
    c.loop.replies.items (omega (arith, done)) (c.loop.invariant m xs shares are)
