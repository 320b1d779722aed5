use Rattle.std.proofs.Common.{subst, sym}
use Rattle.value_store.specs.CodeNodes.{held_of}
use Rattle.value_store.specs.Nodes.{AuthNode}
use Rattle.value_store.specs.Packing.{packed_nodes}
use Rattle.value_store.specs.Placing.{Adds, with_parts}
use Rattle.value_store.proofs.packed.Packed.add_held.Goals as goal

pub returns-in-Inner : goal.returns-in-Inner
returns-in-Inner c =
    subst (λ h. Adds (packed_nodes c.args.self.now) (with_parts (AuthNode (held_of h)) 32 1) c.add.result (packed_nodes c.add.new.self)) (sym c.in-Inner.is) c.add.ensures

pub returns-in-Both : goal.returns-in-Both
returns-in-Both c =
    subst (λ h. Adds (packed_nodes c.args.self.now) (with_parts (AuthNode (held_of h)) 32 1) c.add_both.result (packed_nodes c.add_both.new.self)) (sym c.in-Both.is) c.add_both.ensures

pub returns-in-Only : goal.returns-in-Only
returns-in-Only c =
    subst (λ h. Adds (packed_nodes c.args.self.now) (with_parts (AuthNode (held_of h)) 32 1) c.add_only.result (packed_nodes c.add_only.new.self)) (sym c.in-Only.is) c.add_only.ensures
