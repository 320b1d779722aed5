-- The laws of spelling, projection and typing: what a reader may hold the definitions to.
use Rattle.std.specs.Prelude.{◌≡◌, ◌⊎◌, ◌↔◌, ◌<◌, ◌^◌, ℕ, true, List, [], ◌++◌, length, Some, None, slice_get}
use Rattle.core_terms.specs.Types.{Ty, Table}
use Rattle.core_terms.specs.Formats.{IsFormat, first_format, second_format}
use Rattle.core_terms.specs.Values.{Value, IsIdeal, IsShallow, IsWithin, size, depth}
use Rattle.core_terms.specs.Spelling.{AreBytes, Spells, spelling, shallow}
use Rattle.core_terms.specs.Reading.{Good, BadAt, read}
use Rattle.core_terms.specs.Terms.{Function, Program}
use Rattle.core_terms.specs.TypingRules.{IsTyped}
use Rattle.core_terms.specs.Roles.{is_entered}
use Rattle.core_terms.specs.RoleTypes.{IsPlain, IsRole}
use Rattle.core_terms.specs.Typing.{is_typed, is_shaped}
use Rattle.core_terms.specs.ProgramFormats.{format_with}
use Rattle.core_terms.specs.declared.format.Format.TheVariants.{First, Second}

-- The first format is one, with whatever greatest ring size fits its field.
abbrev pub FirstFormatIsFormat : Type 0
FirstFormatIsFormat = (most : ℕ) → most < 2 ^ 16 → IsFormat (first_format most)

-- So is the second one, whatever type declarations it is of.
abbrev pub SecondFormatIsFormat : Type 0
SecondFormatIsFormat = (text : List ℕ) (most : ℕ) → most < 2 ^ 16 → IsFormat (second_format text most)

-- The format of a program of the code is one of the two.
abbrev pub FormatsAreTheTwo : Type 0
FormatsAreTheTwo = (text : List ℕ) → (format_with First text ≡ first_format 1024) × (format_with Second text ≡ second_format text 1024)

-- Bytes are read as a value exactly where they spell it, in a format whose limit fits the length field of a text.
abbrev pub ReadingIsExact : Type 0
ReadingIsExact = (limit : ℕ) → limit < 2 ^ 32 → (types : Table) (bytes : List ℕ) (t : Ty) (s : Value) → AreBytes bytes
    → Spells limit types bytes t s ↔ ((place : ℕ) × (read limit types t bytes ≡ Good s [] place))

-- A string spells at most one value at a type.
abbrev pub OneIsSpelled : Type 0
OneIsSpelled = (limit : ℕ) → limit < 2 ^ 32 → (types : Table) (bytes : List ℕ) (t : Ty) (s s' : Value)
    → Spells limit types bytes t s → Spells limit types bytes t s' → s ≡ s'

-- No spelling at a type is a proper prefix of another at that type.
abbrev pub NoneIsPrefix : Type 0
NoneIsPrefix = (limit : ℕ) → limit < 2 ^ 32 → (types : Table) (bytes more : List ℕ) (t : Ty) (s s' : Value)
    → Spells limit types bytes t s → Spells limit types (bytes ++ more) t s' → more ≡ []

-- The size of a shallow value is the number of bytes of its spelling.
abbrev pub SizeIsLength : Type 0
SizeIsLength = (types : Table) (t : Ty) (s : Value) → IsShallow types t s → length (spelling s) ≡ size types t s

-- A value and its projection have one size and one depth.
abbrev pub ProjectionKeepsLimits : Type 0
ProjectionKeepsLimits = (digest : Ty → List ℕ → List ℕ) (types : Table) (t : Ty) (v : Value)
    → (size types t (shallow digest types t v) ≡ size types t v) × (depth types t (shallow digest types t v) ≡ depth types t v)

-- The projection of an ideal value is a shallow value of the same type, where digests have 32 bytes.
abbrev pub ProjectionIsShallow : Type 0
ProjectionIsShallow = (digest : Ty → List ℕ → List ℕ) → ((t : Ty) (bytes : List ℕ) → length (digest t bytes) ≡ 32)
    → (types : Table) (t : Ty) (v : Value) → IsIdeal types t v → IsShallow types t (shallow digest types t v)

-- A value of a type without `auth` is its own projection.
abbrev pub PlainIsOwnProjection : Type 0
PlainIsOwnProjection = (digest : Ty → List ℕ → List ℕ) (types : Table) (t : Ty) (v : Value)
    → IsPlain types t → IsIdeal types t v → shallow digest types t v ≡ v

-- The typing test says yes exactly where the typing rules hold of a written program. Of a compiled one it says more than that its code is
-- accepted: each instruction is also led to, and no place has more locals than there may be.
abbrev pub TypingTestIsExact : Type 0
TypingTestIsExact = (P : Program) → (is_typed P ≡ true → IsTyped P) × (P.code ≡ None → IsTyped P → is_typed P ≡ true)

-- The shape test says yes exactly where each function that can be entered from outside is a role of its kind.
abbrev pub ShapeTestIsExact : Type 0
ShapeTestIsExact = (P : Program) → (is_shaped P ≡ true)
    ↔ ((f : ℕ) (g : Function) → slice_get P.functions f ≡ Some g → is_entered g.kind ≡ true
    → (argument : Ty) × (answer : Ty) × IsRole P f g.kind argument answer)

-- The projection of an ideal value is read back from its spelling exactly where the value is within the limits; else its
-- spelling is refused.
abbrev pub ProjectionIsReadBack : Type 0
ProjectionIsReadBack = (digest : Ty → List ℕ → List ℕ) → ((t : Ty) (bytes : List ℕ) → length (digest t bytes) ≡ 32)
    → (limit : ℕ) → limit < 2 ^ 32 → (types : Table) (t : Ty) (v : Value) → IsIdeal types t v
    → let projected = shallow digest types t v in
    (IsWithin limit types t v × ((place : ℕ) × (read limit types t (spelling projected) ≡ Good projected [] place)))
    ⊎ ((IsWithin limit types t v → ⊥) × ((place : ℕ) × (read limit types t (spelling projected) ≡ BadAt place)))
