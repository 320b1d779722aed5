use Rattle.std.proofs.Common.{get_or, arith}
use Rattle.value_store.specs.Shifting.{shifted_node}
use Rattle.value_store.proofs.Joined.{node_shifted}
use Rattle.value_store.proofs.Overwriting.{next_is, over_is}
use Rattle.value_store.proofs.absorbing.move_nodes.Goals as goal

pub move_form-requires : goal.move_form-requires
move_form-requires c =
    (c.requires c.loop-node.node-index _ (next_is (shifted_node c.args.shift) c.args.nodes.now c.loop-node.nodes c.loop-node.node-index (omega arith) c.loop-node.invariant c.node-item.result (omega arith))).form

pub loop-node-preserved : goal.loop-node-preserved
loop-node-preserved c =
    over_is (shifted_node c.args.shift) c.args.nodes.now c.loop-node.nodes c.loop-node.node-index (omega arith) c.loop-node.invariant c.node-item.result (omega arith) _
    (node_shifted c.args.shift (get_or c.loop-node.nodes c.loop-node.node-index c.node-item.result) c.move_form.new.form c.move_form.ensures)
