-- The numbers in code that an object has fields for.
use Rattle.std.specs.Prelude.{◌≤◌, ℕ, length, All}
use Rattle.core_terms.specs.Bodies.{FunctionCode}
use Rattle.core_terms.specs.Instructions.{Instruction, Load, Unbind, Switch, Branch, Jump, Call}
use Rattle.core_terms.specs.ProgramLimits.{most_functions, most_instructions, most_locals, most_parameters}

-- no number of the instruction is more than there may be of what it numbers or counts
abbrev pub HasSmallNumbers : Instruction → Type 0
HasSmallNumbers (Load i) = i ≤ most_locals
HasSmallNumbers (Unbind n) = n ≤ most_locals
HasSmallNumbers (Switch number places) = All (λ (n : ℕ). n ≤ most_instructions) places
HasSmallNumbers (Branch n) = n ≤ most_instructions
HasSmallNumbers (Jump n) = n ≤ most_instructions
HasSmallNumbers (Call f) = f ≤ most_functions
HasSmallNumbers i = Unit {0}

-- a function has few parameters, and few and small instructions
pub record IsSmall (g : FunctionCode) : Type 0 where
  pub parameters : length g.parameters ≤ most_parameters
  pub short : length g.code ≤ most_instructions
  pub small : All HasSmallNumbers g.code
