use Rattle.std.proofs.Common.{◌≡◌, ◌<◌, ℕ, suc, ◌-◌, Vec, Global, length, drop, None, refl, sym, ap, ◌∙◌, subst, arith}
use Rattle.mode_vm.specs.Meanings.{program_of}
use Rattle.session_meaning.specs.Server.{newest_version}
use Rattle.value_store.specs.declared.node.Ref.{Ref}
use Rattle.session_turns.proofs.Newest.{none_left, passed, found}
use Rattle.session_turns.proofs.Sharing.{versions_counted}
use Rattle.session_turns.proofs.shared.Shared.newest.Goals as goal

pub loop-number-init : goal.loop-number-init
loop-number-init g c = record {
  none = λ m shares.
      let counted = versions_counted g.H.Hash32.hash (program_of c.args.code.now) c.args.self.now m shares in
      none_left g.H.Hash32.hash (program_of c.args.code.now) c.args.state.now m.versions _ (sym (c.len-number.ensures ∙ c.args.self.now.versions.ok.0 ∙ counted));
  shares = λ m h. h;
  rest = record { store = refl; versions = refl; commits = refl };
}

pub returns-then-branch-clause-newest : goal.returns-then-branch-clause-newest
returns-then-branch-clause-newest g c m shares =
    let hash = g.H.Hash32.hash in
    let P = program_of c.args.code.now in
    let i : ℕ = c.loop-number.number - 1 in
    let next : c.loop-number.number ≡ suc i = omega arith in
    let rest = ap (λ (vs : Vec Ref Global). length vs.items) c.loop-number.invariant.rest.versions in
    let counted = versions_counted hash P c.args.self.now m shares in
    let there : i < length m.versions = omega (arith, counted, rest) in
    let none = subst (λ n. newest_version hash P c.args.state.now (drop n m.versions) ≡ None) next (c.loop-number.invariant.none m shares) in
    sym (found hash P c.args.state.now m.versions i there none c.in_ok-has_spelling.field-0
    (c.in_ok-has_spelling.ensures.same m (c.loop-number.invariant.shares m shares)) c.if-branch.true)

pub loop-number-preserved : goal.loop-number-preserved
loop-number-preserved g c = record {
  none = λ m shares.
      let hash = g.H.Hash32.hash in
      let P = program_of c.args.code.now in
      let i : ℕ = c.loop-number.number - 1 in
      let next : c.loop-number.number ≡ suc i = omega arith in
      let rest = ap (λ (vs : Vec Ref Global). length vs.items) c.loop-number.invariant.rest.versions in
      let counted = versions_counted hash P c.args.self.now m shares in
      let there : i < length m.versions = omega (arith, counted, rest) in
      let none = subst (λ n. newest_version hash P c.args.state.now (drop n m.versions) ≡ None) next (c.loop-number.invariant.none m shares) in
      passed hash P c.args.state.now m.versions i there none c.in_ok-has_spelling.field-0
      (c.in_ok-has_spelling.ensures.same m (c.loop-number.invariant.shares m shares)) c.if-branch.false;
  shares = λ m shares. c.has_spelling.ensures.shares m (c.loop-number.invariant.shares m shares);
  rest = record {
    store = c.has_spelling.ensures.rest.store ∙ c.loop-number.invariant.rest.store;
    versions = c.has_spelling.ensures.rest.versions ∙ c.loop-number.invariant.rest.versions;
    commits = c.has_spelling.ensures.rest.commits ∙ c.loop-number.invariant.rest.commits;
  };
}
