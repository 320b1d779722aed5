use Rattle.std.proofs.Common.{◌≡◌, ◌++◌, ◌∷◌, [], ◌+◌, ◌≤◌, drop, length, ap, sym, subst, ◌∙◌, append_assoc, append-nil, arith}
use Rattle.mode_vm.specs.Operands.{AllHeld, all_at}
use Rattle.mode_vm.specs.declared.operand.Operand.TheVariants.{At}
use Rattle.mode_vm.proofs.Placing.{at_behind, drop_next, drop_past, held_nodes, one_put}
use Rattle.mode_vm.proofs.operand.place_all.Goals as goal

pub loop-operand-preserved : goal.loop-operand-preserved
loop-operand-preserved g c =
    let i = c.loop-operand.operand-index in
    let os = c.args.operands.now in
    let placed = c.loop-operand.placed.items in
    let old = g.N.Nodes.nodes c.loop-operand.store in
    let new = g.N.Nodes.nodes c.place.new.store in
    let r = c.in_ok-r.r in
    let behind = drop (i + 1) os in
    let items : all_at c.push.new.self.items ++ behind ≡ all_at placed ++ At r ∷ behind =
    ap (λ l. all_at l ++ behind) c.in_ok-push.ensures.items ∙ ap (λ l. l ++ behind) (at_behind placed (r ∷ [])) ∙ append_assoc (all_at placed) (At r ∷ []) behind in
    record {
      held = λ kind types ts vs h.
          subst (λ l. AllHeld kind types new l ts vs) (sym items)
          (one_put kind types old new c.in_ok-r.ensures.keeps _ r (λ t v. c.in_ok-r.ensures.stands kind types t v) behind (all_at placed) ts vs
          (subst (λ l. AllHeld kind types old (all_at placed ++ l) ts vs) (drop_next os i _ c.loop-operand-test.true) (c.loop-operand.invariant.held kind types ts vs h)));
      keeps = λ kind types r t v h. c.in_ok-r.ensures.keeps kind types r t v (c.loop-operand.invariant.keeps kind types r t v h);
      lent = c.in_ok-r.ensures.lent ∙ c.loop-operand.invariant.lent;
    }

pub returns-clause-stand : goal.returns-clause-stand
returns-clause-stand g c kind types ts vs h =
    let nodes = g.N.Nodes.nodes c.loop-operand.store in
    let placed = c.loop-operand.placed.items in
    let past : length c.args.operands.now ≤ c.loop-operand.operand-index = omega (arith, c.loop-operand-test.false) in
    held_nodes kind types nodes placed ts vs
    (subst (λ l. AllHeld kind types nodes l ts vs) (ap (λ l. all_at placed ++ l) (drop_past c.args.operands.now c.loop-operand.operand-index past) ∙ append-nil (all_at placed))
    (c.loop-operand.invariant.held kind types ts vs h))
