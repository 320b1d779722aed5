-- Marks of a program's types: whether the type is the state's, or a part of it.
use Rattle.std.specs.Prelude.{◌≡◌, ◌⊎◌, ℕ, ◌<◌, Bool, true, false, List, [], length, Option, Some, None, option_map, slice_get, slice_index_or, unwrap_or}
use Rattle.core_terms.specs.Types.{Ty, UnitTy, NamedTy}
use Rattle.core_terms.specs.ProgramTypes.{types_by_number, types_meaning}
use Rattle.core_terms.specs.TypeTables.{type_of_form}
use Rattle.core_terms.specs.declared.types.TyId.{TyId}
use Rattle.core_terms.specs.declared.term.Constructor.{Constructor}
use Rattle.core_terms.specs.declared.term.NamedType.{NamedType}
use Rattle.core_terms.specs.declared.types.TyForm.{TyForm}
use Rattle.core_terms.specs.declared.types.TyForm.TheVariants.{AuthForm, BoolForm, IntForm, PairForm, TextForm, UnitForm, VecForm}
use Rattle.core_terms.specs.declared.program_types.Types.{Types}
use Rattle.images.specs.Parts.{is_part, is_part_within}
use Rattle.images.specs.declared.parts.Leaves.{Leaves}
use Rattle.images.specs.declared.parts.PartMarks.{PartMarks}

-- the type with a number
abbrev pub type_of : Types → ℕ → Ty
type_of types i = slice_index_or (types_by_number types) i UnitTy

-- the number is marked
abbrev pub IsMarked : List Bool → ℕ → Type 0
IsMarked marks i = slice_index_or marks i false ≡ true

-- The marks are as many as the program's types. The mark with a number says whether the type with that number is the state's or a part of it, and
-- there is no part of the state's type that has no number.
abbrev pub ArePartMarks : Types → List Bool → Type 0
ArePartMarks types marks = (length marks ≡ length (types_by_number types))
    × ((i : ℕ) → i < length (types_by_number types) → slice_index_or marks i false
    ≡ is_part (types_meaning types).types (type_of types i) (types_meaning types).state)
    × ((t : Ty) → is_part (types_meaning types).types t (types_meaning types).state ≡ true
    → (i : ℕ) × (i < length (types_by_number types)) × (type_of types i ≡ t))

-- the number of the form's type, which is the state's or a part of it; or the form's type is neither
abbrev pub IsPartOfState : Types → TyForm → Option TyId → Type 0
IsPartOfState types form None = is_part (types_meaning types).types (type_of_form (types_by_number types) form) (types_meaning types).state ≡ false
IsPartOfState types form (Some ty) = (is_part (types_meaning types).types (type_of_form (types_by_number types) form) (types_meaning types).state ≡ true)
    × (type_of types ty.0 ≡ type_of_form (types_by_number types) form)
    × (ty.0 < length (types_by_number types))

-- of each type without parts its number, where it is the state's or a part of it
pub record AreLeaves (types : Types) (leaves : Leaves) : Type 0 where
  pub unit : IsPartOfState types UnitForm leaves.unit
  pub bool : IsPartOfState types BoolForm leaves.bool
  pub int : IsPartOfState types IntForm leaves.int
  pub text : IsPartOfState types TextForm leaves.text

-- those are the marks of the program
pub record IsMarksOf (types : Types) (parts : PartMarks) : Type 0 where
  pub marks : ArePartMarks types parts.marks.items
  pub leaves : AreLeaves types parts.leaves

-- the parts that are found by opening so many named types at most are marked, and nothing else is
abbrev pub AreLevelMarks : Types → ℕ → List Bool → Type 0
AreLevelMarks types opened marks = (length marks ≡ length (types_by_number types))
    × ((i : ℕ) → IsMarked marks i → is_part_within (types_meaning types).types opened (type_of types i) (types_meaning types).state ≡ true)
    × ((t : Ty) → is_part_within (types_meaning types).types opened t (types_meaning types).state ≡ true → (i : ℕ) × IsMarked marks i × (type_of types i ≡ t))

-- these are marked beside those that were, and nothing else is
abbrev pub AddsMarks : (ℕ → Type 0) → (old new : List Bool) → Type 0
AddsMarks IsAdded old new = (length new ≡ length old)
    × ((i : ℕ) → IsMarked old i → IsMarked new i)
    × ((i : ℕ) → IsMarked new i → IsMarked old i ⊎ IsAdded i)
    × ((i : ℕ) → IsAdded i → IsMarked new i)

-- the type with this number is a direct part of one of this form
abbrev pub IsPartOfForm : TyForm → ℕ → Type 0
IsPartOfForm (AuthForm part) i = part.0 ≡ i
IsPartOfForm (VecForm len part) i = part.0 ≡ i
IsPartOfForm (PairForm first second) i = (first.0 ≡ i) ⊎ (second.0 ≡ i)
IsPartOfForm form i = ⊥

-- the number is one of the first so many of these
abbrev pub IsAmong : List TyId → ℕ → ℕ → Type 0
IsAmong ids count i = (k : ℕ) × (id : TyId) × (k < count) × (slice_get ids k ≡ Some id) × (id.0 ≡ i)

-- the type with this number is one of a field of the first so many constructors
abbrev pub IsOfField : List Constructor → ℕ → ℕ → Type 0
IsOfField constructors count i =
    (tag : ℕ) × (c : Constructor) × (tag < count) × (slice_get constructors tag ≡ Some c) × IsAmong c.fields.items (length c.fields.items) i

-- the constructors of a named type; other types have none
abbrev pub constructors_in : Types → Ty → List Constructor
constructors_in types (NamedTy number) = unwrap_or (option_map (λ (declared : NamedType). declared.constructors.items) (slice_get types.named.items number)) []
constructors_in types t = []

-- the type with this number is one of a field of a type that is marked, among the first so many
abbrev pub IsOpened : Types → List Bool → ℕ → ℕ → Type 0
IsOpened types marks count i =
    (number : ℕ) × (number < count) × IsMarked marks number
    × IsOfField (constructors_in types (type_of types number)) (length (constructors_in types (type_of types number))) i

-- Beside what was marked, those types are marked that are parts of it with no named type opened, and nothing else is. They are types of the
-- program.
abbrev pub IsSpread : Types → (old new : List Bool) → Type 0
IsSpread types old new = (length new ≡ length old)
    × ((i : ℕ) → IsMarked old i → IsMarked new i)
    × ((i : ℕ) → IsMarked new i → (j : ℕ) × IsMarked old j × (is_part_within (types_meaning types).types 0 (type_of types i) (type_of types j) ≡ true))
    × ((j : ℕ) (t : Ty) → IsMarked new j → is_part_within (types_meaning types).types 0 t (type_of types j) ≡ true
    → (i : ℕ) × IsMarked new i × (type_of types i ≡ t))
