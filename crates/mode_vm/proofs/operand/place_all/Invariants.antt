use Rattle.std.proofs.Common.{◌≡◌, ◌++◌, List, drop}
use Rattle.core_terms.specs.Types.{Table, Ty}
use Rattle.core_terms.specs.Values.{Values}
use Rattle.value_store.specs.Standing.{Keeps, Kind}
use Rattle.mode_vm.specs.Operands.{AllHeld, all_at}
use Rattle.mode_vm.proofs.operand.place_all.Given as goal

-- the nodes so far with the operands that are left stand for what the operands did
abbrev pub invariant-loop-operand : goal.invariant-loop-operand
invariant-loop-operand g l = record {
  held : (kind : Kind) (types : Table) (ts : List Ty) (vs : Values) → AllHeld kind types (g.N.Nodes.nodes l.fn.store) l.fn.operands ts vs
      → AllHeld kind types (g.N.Nodes.nodes l.store) (all_at l.placed.items ++ drop l.operand-index l.fn.operands) ts vs;
  keeps : Keeps (g.N.Nodes.nodes l.fn.store) (g.N.Nodes.nodes l.store);
  lent : g.N.Nodes.lent l.store ≡ g.N.Nodes.lent l.fn.store;
}
