-- How long code is.
use Rattle.std.specs.Prelude.{ℕ, ◌+◌, ◌*◌, ◌≤◌, List, [], ◌∷◌, length}
use Rattle.core_terms.specs.Terms.{Program}
use Rattle.core_terms.specs.ProgramLimits.{most_instructions}
use Rattle.core_terms.specs.ProgramSizes.{expressions_in_all}
use Rattle.core_terms.specs.Programs.{meaning}
use Rattle.core_terms.specs.Bodies.{FunctionCode}
use Rattle.core_terms.specs.GeneratedCode.{written_body, generated}
use Rattle.code_gen.specs.Programs.{program_in}
use Rattle.code_gen.specs.declared.code.Code.{Code}

-- the number of instructions of functions
abbrev pub code_size : List FunctionCode → ℕ
code_size [] = 0
code_size (f ∷ fs) = length f.code + code_size fs

-- The code of a written program has at most four instructions an expression, and one return a function.
abbrev pub CodeIsShort : Type 0
CodeIsShort = (P : Program) → code_size (written_body P).functions ≤ 4 * expressions_in_all P.functions + length P.functions

-- No code has more instructions than the limit: a written program by its expressions and functions, a compiled one by its type.
abbrev pub CodeHasALimit : Type 0
CodeHasALimit = (code : Code) → code_size (generated (meaning (program_in code))).functions ≤ most_instructions
