-- How deep a program's text may nest, and how many operands the operations on arrays have.
use Rattle.std.specs.Prelude.{ℕ}
use Rattle.auth_syntax.specs.Syntax.{ArrayOperation, FillOperation, GetOperation, PutOperation}

abbrev pub others_of : ArrayOperation → ℕ
others_of (FillOperation n) = 0
others_of GetOperation = 1
others_of PutOperation = 2

-- how many types, or expressions, may stand inside one another
abbrev pub nesting_limit : ℕ
nesting_limit = 100
