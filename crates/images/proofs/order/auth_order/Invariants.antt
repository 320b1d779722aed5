use Rattle.std.proofs.Common.{[], drop}
use Rattle.core_terms.specs.ProgramTypes.{types_meaning}
use Rattle.core_terms.specs.Values.{Value}
use Rattle.images.specs.LoadedRoots.{IsStateAt}
use Rattle.images.specs.Reached.{OrderReached}
use Rattle.images.specs.SavedImages.{distinct, walk}
use Rattle.value_store.specs.Stores.{nodes_in}
use Rattle.images.proofs.OrderedEntries.{Ordering}
use Rattle.images.proofs.order.auth_order.Given as goal

abbrev pub invariant-loop-node : goal.invariant-loop-node
invariant-loop-node l = record {
  reached : OrderReached (nodes_in l.store) l.fn.root.0 l.order.items;
  ordering : (v : Value) → IsStateAt (types_meaning l.types) l.store l.fn.root v
      → Ordering l.types (nodes_in l.store) l.records (distinct [] (walk (types_meaning l.types).types (types_meaning l.types).state v)) l.known.items l.order.items
      (drop l.node-index l.node-items);
}
