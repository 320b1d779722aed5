-- Code without a source.
use Rattle.std.specs.Prelude.{ℕ, List, [], ◌∷◌, length, unwrap_or, slice_get}
use Rattle.core_terms.specs.Types.{Ty, UnitTy, Table, fields_at}
use Rattle.core_terms.specs.Instructions.{Instruction, PushUnit, Return}

-- the number of fields of a constructor; 0 where there is none
abbrev pub field_count : Table → ℕ → ℕ → ℕ
field_count types number tag = length (unwrap_or (fields_at types number tag) [])

-- the code of a function: the types of its parameters, that of its result, and its instructions
pub record FunctionCode : Type 0 where
  pub parameters : List Ty
  pub result : Ty
  pub code : List Instruction

-- What a machine runs, with no source behind it: the greatest number of bytes of a spelling, the named types, and the functions
-- by number.
pub record Body : Type 0 where
  pub limit : ℕ
  pub types : Table
  pub functions : List FunctionCode

-- in the place of a function that isn't there
abbrev pub no_function_code : FunctionCode
no_function_code = record { parameters = []; result = UnitTy; code = PushUnit ∷ Return ∷ [] }

-- the function with a number
abbrev pub code_at : Body → ℕ → FunctionCode
code_at B f = unwrap_or (slice_get B.functions f) no_function_code
