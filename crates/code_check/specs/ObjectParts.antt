-- What the parts of an object's program mean together.
use Rattle.std.specs.Prelude.{List}
use Rattle.core_terms.specs.Bodies.{Body, FunctionCode}
use Rattle.core_terms.specs.InstructionViews.{instructions_of}
use Rattle.core_terms.specs.Kinds as kinds
use Rattle.core_terms.specs.ProgramParts.{compiled_program}
use Rattle.core_terms.specs.ProgramTrees.{types_at}
use Rattle.core_terms.specs.Terms as tree
use Rattle.core_terms.specs.Types.{Ty}
use Rattle.core_terms.specs.TypeTables.{type_at}
use Rattle.core_terms.specs.declared.instruction.Instruction.{Instruction}
use Rattle.core_terms.specs.declared.term.Function.{Function}
use Rattle.core_terms.specs.GeneratedCode.{generated}
use Rattle.code_check.specs.declared.kinds.Spot.{Spot}
use Rattle.code_check.specs.declared.parts.Parts.{Parts}

abbrev pub parts_program : Parts → tree.Program
parts_program parts = compiled_program parts.types parts.named.items parts.state parts.functions.items parts.code.items

abbrev pub body_of_parts : Parts → Body
body_of_parts parts = generated (parts_program parts)

abbrev pub spot_of : Spot → kinds.Spot
spot_of spot = record { function = spot.function; instruction = spot.instruction }

-- a function with its code
abbrev pub function_with : List Ty → Function → List Instruction → FunctionCode
function_with types g code = record { parameters = types_at types g.parameters.items; result = type_at types g.result; code = instructions_of types code }
