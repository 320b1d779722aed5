-- Which bytes are an object that is accepted, and else its first fault.
use Rattle.std.specs.Prelude.{ℕ, suc, List, [], ◌∷◌, length, Option, Some, None, if◌then◌else◌}
use Rattle.core_terms.specs.Terms.{Function, Program}
use Rattle.core_terms.specs.RoleShapes.{shape_test}
use Rattle.object_meaning.specs.Objects.{Object}
use Rattle.object_meaning.specs.ReadObjects.{object_read}
use Rattle.object_meaning.specs.Readers.{Taken, Took, CutShort, BadAt}
use Rattle.object_meaning.specs.ObjectBodies.{body_in, program_in}
use Rattle.core_terms.specs.Kinds.{Spot, kind_fault}

-- Why bytes are no accepted object. Cut: they end within a field; how many they are. BadField: the field at an offset isn't allowed. Leftover: so
-- many bytes stand behind the object. BadShape: a function has not the shape of its role, or has an `auth` in its argument. BadKind: an
-- instruction of a function.
pub data ObjectFault : Type 0 where
  Cut Leftover : (bytes : ℕ) → ObjectFault
  BadField : (offset : ℕ) → ObjectFault
  BadShape : (function : ℕ) → ObjectFault
  BadKind : (function instruction : ℕ) → ObjectFault

pub data Acceptance : Type 0 where
  Accepts : (o : Object) → Acceptance
  FirstFault : (fault : ObjectFault) → Acceptance

-- the first function, of those from number f on, that has not the shape of its role
abbrev pub shape_fault_from : Program → ℕ → List Function → Option ℕ
shape_fault_from P f [] = None
shape_fault_from P f (g ∷ gs) = if shape_test P g.kind g.parameters g.result then shape_fault_from P (suc f) gs else Some f

abbrev pub shape_fault : Program → Option ℕ
shape_fault P = shape_fault_from P 0 P.functions

abbrev pub kinds_judged : Object → Option Spot → Acceptance
kinds_judged o (Some at) = FirstFault (BadKind at.function at.instruction)
kinds_judged o None = Accepts o

abbrev pub shapes_judged : Object → Option ℕ → Acceptance
shapes_judged o (Some f) = FirstFault (BadShape f)
shapes_judged o None = kinds_judged o (kind_fault (body_in o))

abbrev pub end_judged : Object → List ℕ → Acceptance
end_judged o [] = shapes_judged o (shape_fault (program_in o))
end_judged o (b ∷ rest) = FirstFault (Leftover (length (b ∷ rest)))

abbrev pub read_judged : ℕ → Taken Object → Acceptance
read_judged size (Took o rest place) = end_judged o rest
read_judged size CutShort = FirstFault (Cut size)
read_judged size (BadAt offset) = FirstFault (BadField offset)

-- In this order: the fields from left to right, the end, the shapes of all roles, the kinds of all instructions.
abbrev pub accepting : List ℕ → Acceptance
accepting bytes = read_judged (length bytes) (object_read bytes 0)
