use Rattle.std.proofs.Common.{◌∙◌, None, Some, arith, length, subst}
use Rattle.mode_vm.proofs.PassedInts.{kept}
use Rattle.mode_vm.specs.Places.{IsPlace}
use Rattle.mode_vm.proofs.Elements.{all_there, array_length, replaced_count, replaced_makes, replaced_none, replaced_there}
use Rattle.mode_vm.proofs.arrays.new_replaced.Goals as goal

pub returns-in_default-clause-makes : goal.returns-in_default-clause-makes
returns-in_default-clause-makes g c limit is m kind types n t u v e h j i k w =
    replaced_none limit m kind types (g.N.Nodes.nodes c.args.store.now) n t u v e c.items_in-items.result.now c.int_in.result
    (c.items_in-items.ensures kind types n t u h) (c.int_in.ensures kind types v j)
    (subst (λ z. IsPlace z (length c.items_in-items.result.now) None) (kept c.int_in.result (omega arith)) c.in_default.ensures) k w

pub new_array-requires-clause-items : goal.new_array-requires-clause-items
new_array-requires-clause-items g c =
    let x = c.requires.array in
    let are = c.items_in-items.ensures x.0 x.1 x.2 x.3 x.4 x.5 in
    replaced_there c.items_in-items.result.now c.deref.result.now c.in-Some.place _ c.args.item (c.deref.ensures.value ∙ c.in_ok-items.ensures)
    (all_there x.0 x.1 (g.N.Nodes.nodes c.args.store.now) _ _ are.0 are.2) c.requires.item

pub new_array-requires-clause-count : goal.new_array-requires-clause-count
new_array-requires-clause-count g c =
    let x = c.requires.array in
    let nodes = g.N.Nodes.nodes c.args.store.now in
    replaced_count x.0 x.1 nodes x.2 x.3 x.4 c.items_in-items.result.now c.deref.result.now c.in-Some.place c.args.item (c.deref.ensures.value ∙ c.in_ok-items.ensures)
    (c.items_in-items.ensures x.0 x.1 x.2 x.3 x.4 x.5) (array_length x.0 x.1 nodes x.2 x.3 x.4 c.args.array x.5)

pub returns-clause-makes : goal.returns-clause-makes
returns-clause-makes g c limit is m kind types n t u v e h j i =
    replaced_makes limit m kind types (g.N.Nodes.nodes c.args.store.now) (g.N.Nodes.nodes c.new_array.new.store) c.new_array.result c.items_in-items.result.now c.deref.result.now n t u v e
    c.in-Some.place c.int_in.result c.args.item (c.deref.ensures.value ∙ c.in_ok-items.ensures) (λ t vs h. c.new_array.ensures.makes limit is m kind types t vs h)
    (c.items_in-items.ensures kind types n t u h) (c.int_in.ensures kind types v j)
    (subst (λ z. IsPlace z (length c.items_in-items.result.now) (Some c.in-Some.place)) (kept c.int_in.result (omega arith)) c.in-Some.ensures) i
