use Rattle.std.proofs.Common.{◌≡◌, ◌++◌, drop}
use Rattle.mode_vm.proofs.stack.Stack.push_all.Given as goal

-- the operands so far with those that are left
abbrev pub invariant-loop-operand : goal.invariant-loop-operand
invariant-loop-operand l = (l.self.below ≡ l.fn.self.below) × (l.self.items ++ drop l.operand-index l.fn.operands ≡ l.fn.self.items ++ l.fn.operands)
