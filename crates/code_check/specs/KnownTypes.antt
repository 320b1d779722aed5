-- What is known of instructions, by numbers of lists.
use Rattle.std.specs.Prelude.{Bool, true, false, List, [], ◌∷◌, reverse, Option, Some, None}
use Rattle.core_terms.specs.Types.{Ty}
use Rattle.core_terms.specs.CodeShapes.{Shape}
use Rattle.core_terms.specs.Kinds as kinds
use Rattle.code_check.specs.declared.known.Frame.{Frame}
use Rattle.code_check.specs.declared.known.Known.{Known}
use Rattle.code_check.specs.declared.known.Known.TheVariants.{Unreached, Reached, Clashing}
use Rattle.code_check.specs.TypeLists.{IsList}

-- the locals, the last one first, and the operands
abbrev pub IsFrame : List Ty → Frame → Shape → Type 0
IsFrame types frame s = IsList types frame.locals (reverse s.locals) × IsList types frame.operands s.operands

abbrev pub IsKnown : List Ty → Known → kinds.Known → Type 0
IsKnown types Unreached kinds.Unreached = Unit {0}
IsKnown types (Reached frame) (kinds.Reached s) = IsFrame types frame s
IsKnown types Clashing kinds.Clashing = Unit {0}
IsKnown types known k = ⊥

-- the same of each instruction
abbrev pub AreKnown : List Ty → List Known → List kinds.Known → Type 0
AreKnown types [] [] = Unit {0}
AreKnown types (known ∷ others) (k ∷ ks) = IsKnown types known k × AreKnown types others ks
AreKnown types known ks = ⊥

-- what is known behind an instruction, if it has no fault: the code says whether it has none
abbrev pub IsReached : List Ty → Option (List kinds.Known) → List Known → Bool → Type 0
IsReached types None known false = Unit {0}
IsReached types (Some ks) known true = AreKnown types known ks
IsReached types ks known fine = ⊥
