use Rattle.std.proofs.Common.{subst}
use Rattle.value_store.proofs.StandingNodes.{there_stands}
use Rattle.core_terms.specs.Types.{VecTy}
use Rattle.value_store.specs.CodeNodes.{numbers_of}
use Rattle.mode_vm.specs.Operands.{IsHeld}
use Rattle.mode_vm.proofs.Parts.{items_seen}
use Rattle.mode_vm.proofs.Scalars.{vec_node}
use Rattle.mode_vm.proofs.values.items_in.Goals as goal

pub node_in-requires : goal.node_in-requires
node_in-requires g c =
    let h = c.requires in
    let n = vec_node h.0 h.1 (g.N.Nodes.nodes c.args.store.now) h.2 h.3 c.args.operand h.4 h.5 in
    (n.0, n.1)

pub view-requires : goal.view-requires
view-requires g c =
    let h = c.requires in
    there_stands h.0 h.1 (g.N.Nodes.nodes c.args.store.now) (VecTy h.2 h.3) h.4 c.node_in.result.0
    (subst (λ o. IsHeld h.0 h.1 (g.N.Nodes.nodes c.args.store.now) o (VecTy h.2 h.3) h.4) c.node_in.ensures h.5)

pub returns : goal.returns
returns g c =
    λ kind types n t v h. items_seen kind types (g.N.Nodes.nodes c.args.store.now) c.node_in.result.0 (numbers_of c.in-Items.items.now) n t v c.in-Items.ensures.form
    (subst (λ o. IsHeld kind types (g.N.Nodes.nodes c.args.store.now) o (VecTy n t) v) c.node_in.ensures h)
