-- A compiled program, of whose only query no body is asked for.
use Rattle.std.specs.Prelude.{ℕ, List, [], ◌∷◌, Some}
use Rattle.core_terms.specs.Formats.{Format}
use Rattle.core_terms.specs.Instructions.{Instruction, Load, Auth, Unauth, ArithOp, Return}
use Rattle.core_terms.specs.Terms.{Function, Program, Query, UnitE}
use Rattle.core_terms.specs.Types.{IntTy}
use Rattle.core_terms.specs.declared.term.Arith.TheVariants.{Add}

-- the code that authenticates the state, opens it, and adds the argument
abbrev pub sum_code : List Instruction
sum_code = Load 0 ∷ (Auth IntTy ∷ (Unauth IntTy ∷ (Load 1 ∷ (ArithOp Add ∷ (Return ∷ [])))))

-- its function, under whatever name
abbrev pub sum_function : List ℕ → Function
sum_function name = record { name = name; kind = Query; parameters = IntTy ∷ (IntTy ∷ []); result = IntTy; body = UnitE }

abbrev pub sum_program : Format → List ℕ → Program
sum_program format name = record { format = format; types = []; state = IntTy; functions = sum_function name ∷ []; code = Some (sum_code ∷ []) }
