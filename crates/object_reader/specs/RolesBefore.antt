-- The names of the roles before a function, and how its own role is read.
use Rattle.std.specs.Prelude.{◌≡◌, ℕ, List, [], ◌∷◌, slice_index_or, Option, Some, None}
use Rattle.std.specs.Borrow.{Bor}
use Rattle.core_terms.specs.Terms.{Kind, Inner}
use Rattle.object_meaning.specs.Objects.{ListedFunction}
use Rattle.object_meaning.specs.Readers.{Reader, then_take, taken_as, u8, within}
use Rattle.object_meaning.specs.ReadObjects.{is_lower_name, name_read, kinds, role_names, role_name_read}
use Rattle.object_reader.specs.NamesRead.{names_in}
use Rattle.object_reader.specs.ObjectViews.{kind_in, name_in}
use Rattle.object_reader.specs.declared.object.ListedRole.{ListedRole}

-- the names that a set holds are those of the roles among these functions
abbrev pub IsNamedBefore : List (Bor (List ℕ)) → List ListedFunction → Type 0
IsNamedBefore keys before = names_in keys ≡ role_names before

-- the name of a function, where it is a role
abbrev pub own_name : Option ListedRole → List (List ℕ)
own_name (Some role) = role.name.now ∷ []
own_name None = []

-- the kind and the name of a role, or of none
abbrev pub role_of : Option ListedRole → Kind × List ℕ
role_of role = (kind_in role, name_in role)

abbrev pub entered_read : Kind → List ListedFunction → Reader (Kind × List ℕ)
entered_read kind before bytes place = taken_as (λ name. (kind, name)) (name_read is_lower_name (role_names before) bytes place)

abbrev pub role_read : List ListedFunction → Reader (Kind × List ℕ)
role_read before bytes place =
    then_take (u8 (within 0 3) bytes place) (λ number bytes place. let kind = slice_index_or kinds number Inner in taken_as (λ name. (kind, name)) (role_name_read kind before bytes place))
