-- Which code an object can list.
use Rattle.std.specs.Prelude.{ℕ, Bool, true, false, List, nat_lt, Vec}
use Rattle.std.specs.List.{list_all}
use Rattle.std.specs.declared.alloc.Global.{Global}
use Rattle.core_terms.specs.declared.instruction.Instruction.{Instruction}
use Rattle.core_terms.specs.declared.instruction.Instruction.TheVariants.{Auth, Unauth, VecFill, VecGet, VecPut}

-- the type that an instruction names is among so many, and it is none of arrays
abbrev pub is_listable : ℕ → Instruction → Bool
is_listable count (Auth t) = nat_lt t.0 count
is_listable count (Unauth t) = nat_lt t.0 count
is_listable count (VecFill n) = false
is_listable count VecGet = false
is_listable count VecPut = false
is_listable count i = true

abbrev pub is_code_within : ℕ → List (Vec Instruction Global) → Bool
is_code_within count code = list_all (λ (of_function : Vec Instruction Global). list_all (is_listable count) of_function.items) code
