-- What the instructions of the code stand for, over the types of its program by number.
use Rattle.std.specs.Prelude.{◌≡◌, List, [], ◌∷◌, ◌++◌, map, slice_get, unwrap_or, Option, Some, None}
use Rattle.core_terms.specs.Types.{Table}
use Rattle.core_terms.specs.Terms as tree
use Rattle.core_terms.specs.Terms.{Expression}
use Rattle.core_terms.specs.ProgramTrees.{arms_in_a_row, expression_of}
use Rattle.core_terms.specs.InstructionViews.{instruction_of, instructions_of}
use Rattle.core_terms.specs.Programs.{meaning, types_of}
use Rattle.core_terms.specs.declared.program.Program.{Program}
use Rattle.core_terms.specs.declared.term.Term.{Term}
use Rattle.core_terms.specs.declared.types.NamedId.{NamedId}
use Rattle.core_terms.specs.Instructions as meant
use Rattle.core_terms.specs.Bodies.{FunctionCode}
use Rattle.core_terms.specs.GeneratedCode.{arm_codes, code_of, written_body}
use Rattle.core_terms.specs.declared.instruction.Instruction.{Instruction}

-- the instructions that are generated of each function of a written program, by number
abbrev pub codes_of : tree.Program → List (List meant.Instruction)
codes_of P = map (λ (f : FunctionCode). f.code) (written_body P).functions

-- what is to be generated: nothing of a program that has its code
abbrev pub to_generate_as : tree.Program → Option (List (List meant.Instruction)) → List (List meant.Instruction)
to_generate_as P None = codes_of P
to_generate_as P (Some codes) = []

abbrev pub to_generate : tree.Program → List (List meant.Instruction)
to_generate P = to_generate_as P P.code

-- the instructions of expressions in a row
abbrev pub all_of : Table → List Expression → List meant.Instruction
all_of types [] = []
all_of types (x ∷ xs) = code_of types x ++ all_of types xs

module _ (program : Program) where
  -- what instructions of the program stand for
  abbrev pub listed : List Instruction → List meant.Instruction
  listed instructions = instructions_of (types_of program) instructions

  abbrev pub single : Instruction → List meant.Instruction
  single i = instruction_of (types_of program) i ∷ []

  -- the instructions of a term, and of terms in a row
  abbrev pub term_code : Term → List meant.Instruction
  term_code term = code_of (meaning program).types (expression_of (types_of program) term)

  abbrev pub terms_code : List Term → List meant.Instruction
  terms_code terms = all_of (meaning program).types (map (expression_of (types_of program)) terms)

  -- and of each arm for the constructors of a named type
  abbrev pub arms_code : NamedId → List Term → List (List meant.Instruction)
  arms_code named arms =
      let types = (meaning program).types in
      arm_codes types (arms_in_a_row (map (expression_of (types_of program)) arms)) (unwrap_or (slice_get types named.0) [])

  -- these instructions are added behind the old ones
  abbrev pub Adds : (old new : List Instruction) → List meant.Instruction → Type 0
  Adds old new added = listed new ≡ listed old ++ added
