-- The laws of objects.
use Rattle.std.specs.Prelude.{◌≡◌, ◌≤◌, ℕ, true, List, [], length, map, All, Some, None}
use Rattle.core_terms.specs.Formats.{Hash, IsFormat}
use Rattle.core_terms.specs.Bodies.{FunctionCode}
use Rattle.core_terms.specs.Accepted.{IsAccepted}
use Rattle.core_terms.specs.ProgramLimits.{IsName}
use Rattle.core_terms.specs.ProgramSizes.{IsWithinLimits}
use Rattle.core_terms.specs.RoleTypes.{IsRole, ReadsState}
use Rattle.core_terms.specs.Spelling.{AreBytes}
use Rattle.core_terms.specs.Terms.{Kind, Function, Program, UnitE, function_at}
use Rattle.core_terms.specs.TypingRules.{IsTyped}
use Rattle.core_terms.specs.Types.{Ty}
use Rattle.core_terms.specs.Typing.{is_typed, is_shaped}
use Rattle.core_terms.specs.Values.{Values, AreIdeal, AreShallow}
use Rattle.ideal_meaning.specs.Checked.{Taking, checked, checked_mode, verdict}
use Rattle.ideal_meaning.specs.Ideal.{ideal, ideal_mode}
use Rattle.ideal_meaning.specs.Execution.{Ran, call_code_from}
use Rattle.core_terms.specs.GeneratedCode.{generated, written_body}
use Rattle.object_meaning.specs.Accepting.{Accepts, accepting}
use Rattle.object_meaning.specs.ClosedPrograms.{IsClosedProgram}
use Rattle.object_meaning.specs.EmittablePrograms.{IsEmittable}
use Rattle.object_meaning.specs.ObjectBodies.{object_format, constructor_names, body_in, name_declared, program_in}
use Rattle.object_meaning.specs.ObjectBytes.{object_bytes}
use Rattle.object_meaning.specs.Objects.{Object, most_object_bytes}
use Rattle.object_meaning.specs.ReadObjects.{object_read}
use Rattle.object_meaning.specs.Readers.{Took}
use Rattle.object_meaning.specs.WellFormedObjects.{IsObject}
use Rattle.object_meaning.specs.WrittenObjects.{codes_in, object_of, written}

-- The bytes of a well-formed object are read as it, with nothing behind it.
abbrev pub ObjectsAreReadBack : Type 0
ObjectsAreReadBack = (o : Object) → IsObject o → object_read (object_bytes o) 0 ≡ Took o [] (length (object_bytes o))

-- And no other bytes are: those that are read as an object, with nothing behind it, are its bytes.
abbrev pub BytesAreTheObjects : Type 0
BytesAreTheObjects = (bytes : List ℕ) (place : ℕ) (o : Object) → AreBytes bytes → object_read bytes 0 ≡ Took o [] place → bytes ≡ object_bytes o

-- What is read of bytes is well-formed, whatever stands behind it.
abbrev pub ReadsAreWellFormed : Type 0
ReadsAreWellFormed = (bytes : List ℕ) (place : ℕ) (o : Object) (rest : List ℕ) → AreBytes bytes → object_read bytes 0 ≡ Took o rest place → IsObject o

-- The code that the program of an object runs is the object as code.
abbrev pub ObjectsAreBodies : Type 0
ObjectsAreBodies = (o : Object) → generated (program_in o) ≡ body_in o

-- The object of a program is the program's code.
abbrev pub ObjectsAreCode : Type 0
ObjectsAreCode = (P : Program) (names : List (List (List ℕ))) → P.format.limit ≡ object_format.limit → IsClosedProgram P → body_in (object_of P names) ≡ written_body P

-- A written program with its code in the place of its bodies. Names are those of its roles alone: by them it is called from outside. Each
-- other function is named `fun`.
abbrev pub declared : Function → Function
declared f = record { name = name_declared f.kind f.name; kind = f.kind; parameters = f.parameters; result = f.result; body = UnitE }

abbrev pub compiled : Program → Program
compiled P = record {
  format = P.format;
  types = P.types;
  state = P.state;
  functions = map declared P.functions;
  code = Some (map (λ (g : FunctionCode). g.code) (codes_in P));
}

-- The object of a program of the first format is this program, compiled: types, state, roles and code are its own.
abbrev pub ObjectsArePrograms : Type 0
ObjectsArePrograms = (P : Program) (names : List (List (List ℕ))) → P.format ≡ object_format → IsClosedProgram P → program_in (object_of P names) ≡ compiled P

-- And so its code does in both modes what the program means,
abbrev pub ObjectsDoTheSame : Type 0
ObjectsDoTheSame = (P : Program) (names : List (List (List ℕ))) → P.format.limit ≡ object_format.limit → IsClosedProgram P → P.code ≡ None → IsTyped P
    → (f : ℕ) (args : Values) (k : ℕ)
    → (AreIdeal P.types (function_at P f).parameters args → call_code_from (body_in (object_of P names)) ideal_mode f args k [] ≡ Ran (ideal P f args k))
    × ((hash : Hash) (w : Taking) → AreShallow P.types (function_at P f).parameters args → call_code_from (body_in (object_of P names)) (checked_mode hash P) f args k w ≡ Ran (checked hash P f args k w))

-- and it means what the program means.
abbrev pub ObjectsMeanTheSame : Type 0
ObjectsMeanTheSame = (P : Program) (names : List (List (List ℕ))) → P.format ≡ object_format → IsClosedProgram P → P.code ≡ None → IsTyped P
    → (f : ℕ) (args : Values) (k : ℕ)
    → (AreIdeal P.types (function_at P f).parameters args → ideal (program_in (object_of P names)) f args k ≡ ideal P f args k)
    × ((hash : Hash) (w : Taking) → AreShallow P.types (function_at P f).parameters args → checked hash (program_in (object_of P names)) f args k w ≡ checked hash P f args k w)

-- So each verdict on it is that on the program, for a role that reads the state, and whatever bytes are given for state, argument and proof.
abbrev pub VerdictsAreTheSame : Type 0
VerdictsAreTheSame = (P : Program) (names : List (List (List ℕ))) → P.format ≡ object_format → IsClosedProgram P → P.code ≡ None → IsTyped P
    → (hash : Hash) (f : ℕ) (kind : Kind) (t answer : Ty) → IsRole P f kind t answer → ReadsState kind
    → (state argument : List ℕ) → AreBytes state → AreBytes argument → (k : ℕ) (bytes : List ℕ)
    → verdict hash (program_in (object_of P names)) t f state argument k bytes ≡ verdict hash P t f state argument k bytes

-- What is accepted of bytes is accepted code, which is never stuck in any mode.
abbrev pub ObjectsAreAccepted : Type 0
ObjectsAreAccepted = (bytes : List ℕ) (o : Object) → accepting bytes ≡ Accepts o → IsAccepted (body_in o)

-- It is a program as the laws ask for: of a format that they speak of, well-typed, and with roles that have their shapes. So the headline, its
-- companion and the laws of sessions hold of it as they stand.
pub record IsSoundProgram (P : Program) : Type 0 where
  pub format : IsFormat P.format
  pub typed : IsTyped P
  pub passes : is_typed P ≡ true
  pub shaped : is_shaped P ≡ true

abbrev pub ObjectsAreSound : Type 0
ObjectsAreSound = (bytes : List ℕ) (o : Object) → accepting bytes ≡ Accepts o → IsSoundProgram (program_in o)

-- It is within the limits of compiled programs, where there are no more bytes than an object may have:
abbrev pub ObjectsAreWithin : Type 0
ObjectsAreWithin = (bytes : List ℕ) (o : Object) → length bytes ≤ most_object_bytes → accepting bytes ≡ Accepts o → IsWithinLimits (program_in o)

-- and each of its constructors has a name. A named type has none in an object: what holds the program chooses one.
abbrev pub ConstructorsHaveNames : Type 0
ConstructorsHaveNames = (bytes : List ℕ) (o : Object) → accepting bytes ≡ Accepts o → All (All IsName) (constructor_names o.types)

-- What is written of a program is accepted, as the object that it is.
abbrev pub ProgramsAreAccepted : Type 0
ProgramsAreAccepted = (P : Program) (names : List (List (List ℕ))) (bytes : List ℕ) → IsEmittable P names → written P names ≡ Some bytes → accepting bytes ≡ Accepts (object_of P names)
