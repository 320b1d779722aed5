-- The stack of the locals, and that of the operands, of all frames.
use Rattle.std.specs.Prelude.{◌≡◌, ℕ, List, ◌++◌, length, take, drop}
use Rattle.mode_vm.specs.declared.operand.Operand.{Operand}

-- what the running frame has, the top one last, and below it what the frames have that wait
pub record Stacked : Type 0 where
  pub below : List Operand
  pub items : List Operand

-- a list of operands of which the running frame has those from a place on
abbrev pub cut_at : ℕ → List Operand → Stacked
cut_at base all = record { below = take base all; items = drop base all }

-- as many of the topmost operands were moved behind a list
pub record IsMoved (count : ℕ) (operands has kept grown : List Operand) : Type 0 where
  pub moved : List Operand
  pub many : length moved ≡ count
  pub from : operands ≡ kept ++ moved
  pub to : grown ≡ has ++ moved
