-- What the instructions of the code stand for, over the types by number.
use Rattle.std.specs.Prelude.{List, map, Option, option_map, Vec}
use Rattle.std.specs.declared.alloc.Global.{Global}
use Rattle.core_terms.specs.Types.{Ty}
use Rattle.core_terms.specs.TypeTables.{type_at}
use Rattle.core_terms.specs.Texts.{bytes_of}
use Rattle.core_terms.specs.Instructions as meant
use Rattle.core_terms.specs.declared.instruction.Instruction.{Instruction}
use Rattle.core_terms.specs.declared.instruction.Instruction.TheVariants as code

abbrev pub instruction_of : List Ty → Instruction → meant.Instruction
instruction_of types code.PushUnit = meant.PushUnit
instruction_of types (code.PushBool b) = meant.PushBool b
instruction_of types (code.PushInt z) = meant.PushInt z
instruction_of types (code.PushText text) = meant.PushText (bytes_of text)
instruction_of types (code.Load i) = meant.Load i.0
instruction_of types code.Bind = meant.Bind
instruction_of types (code.Unbind n) = meant.Unbind n
instruction_of types code.Pair = meant.Pair
instruction_of types code.Fst = meant.Fst
instruction_of types code.Snd = meant.Snd
instruction_of types (code.Make named tag) = meant.Make named.0 tag.0
instruction_of types (code.Switch named places) = meant.Switch named.0 places.items
instruction_of types (code.Branch n) = meant.Branch n
instruction_of types (code.Jump n) = meant.Jump n
instruction_of types (code.Call f) = meant.Call f.0
instruction_of types code.Return = meant.Return
instruction_of types (code.Auth t) = meant.Auth (type_at types t)
instruction_of types (code.Unauth t) = meant.Unauth (type_at types t)
instruction_of types (code.Arith op) = meant.ArithOp op
instruction_of types (code.Compare op) = meant.CompareOp op
instruction_of types (code.TextCompare op) = meant.TextCompareOp op
instruction_of types code.Cat = meant.Cat
instruction_of types code.Len = meant.Len
instruction_of types code.Not = meant.Not
instruction_of types (code.VecFill n) = meant.VecFill n
instruction_of types code.VecGet = meant.VecGet
instruction_of types code.VecPut = meant.VecPut

abbrev pub instructions_of : List Ty → List Instruction → List meant.Instruction
instructions_of types = map (instruction_of types)

-- the code of functions, where there is some
abbrev pub codes_meant : List Ty → Option (Vec (Vec Instruction Global) Global) → Option (List (List meant.Instruction))
codes_meant types = option_map (λ (codes : Vec (Vec Instruction Global) Global). map (λ (code : Vec Instruction Global). instructions_of types code.items) codes.items)
