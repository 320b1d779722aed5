-- The lines of outcomes.
use Rattle.std.specs.Prelude.{ℕ, List, ◌++◌, codes}
use Rattle.core_terms.specs.Types.{Ty, Table}
use Rattle.core_terms.specs.Values.{Value}
use Rattle.ideal_meaning.specs.Run.{Trap, Overflow, DivZero, TooBig, TooDeep, Index}
use Rattle.printed_syntax.specs.Literals.{ConstructorNames}
use Rattle.printed_syntax.specs.PrintedValues.{printed}

-- a line of two parts
abbrev pub line_of : List ℕ → List ℕ → List ℕ
line_of front text = front ++ text ++ codes "\n"

-- the lines of outcomes without a value
abbrev pub trap_name : Trap → List ℕ
trap_name Overflow = codes "overflow"
trap_name DivZero = codes "divzero"
trap_name TooBig = codes "toobig"
trap_name TooDeep = codes "toodeep"
trap_name Index = codes "index"

abbrev pub trap_line : Trap → List ℕ
trap_line trap = codes "trap " ++ trap_name trap ++ codes "\n"

abbrev pub out_line : List ℕ
out_line = codes "out of fuel\n"

-- the lines of a value, over the named types of a program and the names of their constructors: of an outcome, and of a state
abbrev pub value_line : List ℕ → Table → ConstructorNames → Ty → Value → List ℕ
value_line front types names t v = line_of front (printed types names t v)

abbrev pub named_done_line : Table → ConstructorNames → Ty → Value → List ℕ
named_done_line types names t v = value_line (codes "done ") types names t v
