-- Marks of the types of a table: whether an `auth` stands in the type, at any depth and through named types.
use Rattle.std.specs.Prelude.{◌≡◌, ℕ, ◌<◌, Bool, true, false, ◌||◌, List, slice_index_or}
use Rattle.std.specs.List.{list_any}
use Rattle.core_terms.specs.Types.{Ty, UnitTy, NamedTy, Table}
use Rattle.core_terms.specs.Roles.{has_auth, has_auth_within}
use Rattle.core_terms.specs.ProgramTrees.{table_of}
use Rattle.core_terms.specs.declared.types.TyId.{TyId}
use Rattle.core_terms.specs.declared.types.TyForm.{TyForm}
use Rattle.core_terms.specs.declared.types.TyForm.TheVariants.{AuthForm, PairForm, NamedForm, VecForm}
use Rattle.core_terms.specs.declared.term.Constructor.{Constructor}
use Rattle.core_terms.specs.declared.term.NamedType.{NamedType}

-- the mark of each type says whether an `auth` stands in it
abbrev pub AreAuthMarks : List Ty → List NamedType → List Bool → Type 0
AreAuthMarks types named marks = (i : ℕ) → slice_index_or marks i false ≡ has_auth (table_of types named) (slice_index_or types i UnitTy)

-- the mark of each named type says whether an `auth` stands in it, found by opening named types so many times at most
abbrev pub AreOpenedMarks : Table → ℕ → List Bool → Type 0
AreOpenedMarks table opened marks = (n : ℕ) → slice_index_or marks n false ≡ has_auth_within table opened (NamedTy n)

-- the marks of the first so many types say the same, wherever those of the named types do
abbrev pub AreLevelMarks : List Ty → (opened_marks : List Bool) → ℕ → List Bool → Type 0
AreLevelMarks types opened_marks count marks = (table : Table) (opened : ℕ) → AreOpenedMarks table opened opened_marks
    → (i : ℕ) → i < count → slice_index_or marks i false ≡ has_auth_within table opened (slice_index_or types i UnitTy)

-- the field with this type is marked
abbrev pub is_marked_field : List Bool → TyId → Bool
is_marked_field marks id = slice_index_or marks id.0 false

-- a field of one of the constructors is marked
abbrev pub is_marked_type : List Bool → NamedType → Bool
is_marked_type marks declared = list_any (λ (c : Constructor). list_any (is_marked_field marks) c.fields.items) declared.constructors.items

-- the mark of a form, from those of its parts and of the named types
abbrev pub mark_of_form : (marks opened_marks : List Bool) → TyForm → Bool
mark_of_form marks opened_marks (AuthForm part) = true
mark_of_form marks opened_marks (PairForm first second) = is_marked_field marks first || is_marked_field marks second
mark_of_form marks opened_marks (VecForm n part) = is_marked_field marks part
mark_of_form marks opened_marks (NamedForm named) = slice_index_or opened_marks named.0 false
mark_of_form marks opened_marks form = false
