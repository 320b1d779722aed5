-- Where an instruction leads, by numbers of lists.
use Rattle.std.specs.Prelude.{◌≡◌, ◌<◌, Bool, true, false, List, [], ◌∷◌, length, slice_get, Option, Some, None}
use Rattle.std.specs.Option.{option_and_then}
use Rattle.core_terms.specs.Types.{Ty, PairTy, same_type}
use Rattle.core_terms.specs.Kinds as kinds
use Rattle.core_terms.specs.Bodies.{code_at, no_function_code}
use Rattle.core_terms.specs.Programs.{types_in}
use Rattle.core_terms.specs.ProgramTrees.{types_at}
use Rattle.core_terms.specs.TypeTables.{type_at}
use Rattle.core_terms.specs.declared.program.FunctionId.{FunctionId}
use Rattle.core_terms.specs.declared.term.Function.{Function}
use Rattle.core_terms.specs.CodeShapes.{Shape}
use Rattle.core_terms.specs.Kinds.{Way}
use Rattle.core_terms.specs.declared.instruction.Instruction.{Instruction}
use Rattle.core_terms.specs.declared.instruction.Instruction.TheVariants.{Switch, Branch, Jump, Return, VecFill, VecGet, VecPut}
use Rattle.code_check.specs.declared.known.Frame.{Frame}
use Rattle.code_check.specs.declared.parts.Parts.{Parts}
use Rattle.code_check.specs.declared.steps.PairTop.{PairTop}
use Rattle.code_check.specs.declared.known.Known.{Known}
use Rattle.code_check.specs.KnownTypes.{IsFrame, AreKnown, IsReached}
use Rattle.code_check.specs.ObjectParts.{body_of_parts}
use Rattle.code_check.specs.TypeLists.{IsList}

-- the instruction leads to the next one alone, and is none of arrays
abbrev pub is_straight : Instruction → Bool
is_straight (Switch named places) = false
is_straight (Branch n) = false
is_straight (Jump n) = false
is_straight Return = false
is_straight (VecFill n) = false
is_straight VecGet = false
is_straight VecPut = false
is_straight i = true

-- the lists of a frame are in the table
abbrev pub IsAt : List Ty → Frame → Type 0
IsAt types at = (at.locals.0 < length types) × (at.operands.0 < length types)

-- the one way on is to the next instruction, where this is the frame; or there is no way
abbrev pub IsNext : List Ty → Option (List Way) → Option Frame → Type 0
IsNext types None None = Unit {0}
IsNext types (Some (w ∷ [])) (Some next) = (w.passed ≡ 0) × IsFrame types next w.at
IsNext types ways next = ⊥

-- from this frame these ways lead on to that one, whichever types the lists have
abbrev pub LeadsTo : List Ty → Frame → (Shape → Option (List Way)) → List Ty → Option Frame → Type 0
LeadsTo old at ways new next = (s : Shape) → IsFrame old at s → IsNext new (ways s) next

-- a pair on top of the operands, by the numbers of its parts; none where there is none
abbrev pub IsPairOn : List Ty → List Ty → Option PairTop → Type 0
IsPairOn types (PairTy a b ∷ os) (Some top) = (slice_get types top.first.0 ≡ Some a) × (slice_get types top.second.0 ≡ Some b) × IsList types top.others os
IsPairOn types (PairTy a b ∷ os) None = ⊥
IsPairOn types os (Some top) = ⊥
IsPairOn types os None = Unit {0}

-- the parameters and the result of the function with a number, where there is one
abbrev pub IsCalled : Parts → FunctionId → Option Function → Type 0
IsCalled parts f (Some function) =
    ((code_at (body_of_parts parts) f.0).parameters ≡ types_at (types_in parts.types) function.parameters.items) × ((code_at (body_of_parts parts) f.0).result ≡ type_at (types_in parts.types) function.result)
IsCalled parts f None = code_at (body_of_parts parts) f.0 ≡ no_function_code

-- the one operand of a return has the type of the result
abbrev pub is_return : Ty → List Ty → Bool
is_return z (t ∷ []) = same_type t z
is_return z os = false

-- each of these ways on from a frame was gone, and this is known then of the instructions behind; `fine` says whether that could be
abbrev pub IsGone : List Ty → Frame → List Known → (Shape → Option (List Way)) → List Ty → List Known → Bool → Type 0
IsGone old at behind ways new after fine =
    (ks : List kinds.Known) (s : Shape) → AreKnown old behind ks → IsFrame old at s → IsReached new (option_and_then (λ ws. kinds.reach_all ws ks) (ways s)) after fine
