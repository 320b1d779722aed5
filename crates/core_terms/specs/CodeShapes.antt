-- What is known before an instruction: the types of the locals and of the operands.
use Rattle.std.specs.Prelude.{List}
use Rattle.core_terms.specs.Types.{Ty}

-- the types of the locals, and those of the operands, the top one first, before an instruction
pub record Shape : Type 0 where
  pub locals : List Ty
  pub operands : List Ty

abbrev pub shape : List Ty → List Ty → Shape
shape ls os = record { locals = ls; operands = os }
