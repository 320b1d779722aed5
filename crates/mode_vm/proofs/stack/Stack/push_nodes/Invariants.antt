use Rattle.std.proofs.Common.{◌≡◌, ◌++◌, drop}
use Rattle.mode_vm.specs.Operands.{all_at}
use Rattle.mode_vm.proofs.stack.Stack.push_nodes.Given as goal

-- the operands so far with the nodes that are left
abbrev pub invariant-loop-r : goal.invariant-loop-r
invariant-loop-r l = (l.self.below ≡ l.fn.self.below) × (l.self.items ++ all_at (drop l.r-index l.fn.nodes) ≡ l.fn.self.items ++ all_at l.fn.nodes)
