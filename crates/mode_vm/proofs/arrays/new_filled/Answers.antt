use Rattle.std.proofs.Common.{◌∙◌}
use Rattle.mode_vm.proofs.Elements.{filled_makes, filled_there}
use Rattle.mode_vm.proofs.arrays.new_filled.Goals as goal

pub new_array-requires-clause-items : goal.new_array-requires-clause-items
new_array-requires-clause-items g c = filled_there c.args.count _ c.args.item c.deref.result.now (c.deref.ensures.value ∙ c.in_ok-items.ensures) c.requires.item

pub returns-clause-makes : goal.returns-clause-makes
returns-clause-makes g c limit is m kind types t v stands =
    filled_makes limit m kind types (g.N.Nodes.nodes c.args.store.now) (g.N.Nodes.nodes c.new_array.new.store) c.new_array.result c.deref.result.now c.args.count c.args.item
    (c.deref.ensures.value ∙ c.in_ok-items.ensures) (λ t vs h. c.new_array.ensures.makes limit is m kind types t vs h) t v stands
