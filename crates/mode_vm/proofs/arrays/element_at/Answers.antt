use Rattle.std.proofs.Common.{None, Some, arith, length, subst}
use Rattle.mode_vm.specs.Places.{IsPlace}
use Rattle.mode_vm.proofs.PassedInts.{kept}
use Rattle.mode_vm.proofs.Elements.{element_made, element_none}
use Rattle.mode_vm.proofs.arrays.element_at.Goals as goal

pub returns-in-Some : goal.returns-in-Some
returns-in-Some g c m kind types n t u v h j =
    element_made 0 m kind types (g.N.Nodes.nodes c.args.store.now) n t u v c.items_in-items.result.now c.in-Some.place c.int_in.result (record { 0 = 0 })
    (c.items_in-items.ensures kind types n t u h) (c.int_in.ensures kind types v j)
    (subst (λ z. IsPlace z (length c.items_in-items.result.now) (Some c.in-Some.place)) (kept c.int_in.result (omega arith)) c.in-Some.ensures)

pub returns-in-None : goal.returns-in-None
returns-in-None g c m kind types n t u v h j k w =
    element_none 0 m kind types (g.N.Nodes.nodes c.args.store.now) n t u v c.items_in-items.result.now c.int_in.result
    (c.items_in-items.ensures kind types n t u h) (c.int_in.ensures kind types v j)
    (subst (λ z. IsPlace z (length c.items_in-items.result.now) None) (kept c.int_in.result (omega arith)) c.in-None.ensures) k w
