-- The roles of a small program. Each equation holds by computing both sides.
use Rattle.std.specs.Prelude.{◌≡◌, ℕ, List, [], ◌∷◌, codes, true, false, Some, None, refl}
use Rattle.core_terms.specs.Types.{Ty, UnitTy, BoolTy, IntTy, TextTy, PairTy, NamedTy, AuthTy, Table}
use Rattle.core_terms.specs.Formats.{first_format}
use Rattle.core_terms.specs.Terms.{UnitE, Inner, Init, Query, Update, Function, Kind, Program}
use Rattle.core_terms.specs.Roles.{argument_type, has_auth, program_roles, role_named}
use Rattle.core_terms.specs.RoleTypes.{init_type, role_function}

abbrev pub declared : List ℕ → Kind → List Ty → Ty → Function
declared name kind parameters result = record { name = name; kind = kind; parameters = parameters; result = result; body = UnitE }

-- an inner function, an init, another inner function of that name, a query and an update
abbrev pub five : Program
five = record {
  format = first_format 0;
  types = [];
  state = BoolTy;
  functions = declared (codes "help") Inner (IntTy ∷ TextTy ∷ []) UnitTy
      ∷ declared (codes "make") Init (IntTy ∷ []) BoolTy
      ∷ declared (codes "ask") Inner (TextTy ∷ []) IntTy
      ∷ declared (codes "ask") Query (BoolTy ∷ TextTy ∷ []) UnitTy
      ∷ declared (codes "put") Update (BoolTy ∷ UnitTy ∷ []) (PairTy BoolTy IntTy)
      ∷ [];
  code = None;
}

-- in the order of declarations, each with the number of its function, its kind, what its caller passes and what its function gives
pub roles_in_order : program_roles five
    ≡ record { function = 1; name = codes "make"; kind = Init; argument = IntTy; result = BoolTy }
    ∷ record { function = 3; name = codes "ask"; kind = Query; argument = TextTy; result = UnitTy }
    ∷ record { function = 4; name = codes "put"; kind = Update; argument = UnitTy; result = PairTy BoolTy IntTy }
    ∷ []
roles_in_order = refl

pub functions_of_roles : (role_function five 0 ≡ Some 1) × (role_function five 2 ≡ Some 4) × (role_function five 3 ≡ None)
functions_of_roles = (refl, refl, refl)

-- an inner function of a name is none of its roles
pub role_by_name : role_named five (codes "ask") ≡ Some 3
role_by_name = refl

pub inner_function_is_no_role : role_named five (codes "help") ≡ None
inner_function_is_no_role = refl

pub update_by_name : role_named five (codes "put") ≡ Some 4
update_by_name = refl

pub what_callers_pass : (init_type five 1 ≡ IntTy) × (argument_type five 3 ≡ TextTy) × (argument_type five 4 ≡ UnitTy)
what_callers_pass = (refl, refl, refl)

-- Whether an `auth` stands in a type: in either part of a pair, and in any field of any constructor of a named type, through others.
-- The first type holds the second one in its second constructor, and the second an authenticated int; the third holds itself.
abbrev pub three_types : Table
three_types = ([] ∷ (TextTy ∷ NamedTy 1 ∷ []) ∷ []) ∷ ((BoolTy ∷ AuthTy IntTy ∷ []) ∷ []) ∷ ((NamedTy 2 ∷ IntTy ∷ []) ∷ []) ∷ []

pub leaves_have_none : (has_auth three_types UnitTy ≡ false) × (has_auth three_types BoolTy ≡ false) × (has_auth three_types IntTy ≡ false) × (has_auth three_types TextTy ≡ false)
leaves_have_none = (refl, refl, refl, refl)

pub either_part_counts : (has_auth three_types (PairTy (AuthTy IntTy) IntTy) ≡ true) × (has_auth three_types (PairTy IntTy (AuthTy IntTy)) ≡ true)
either_part_counts = (refl, refl)

pub found_through_named_types : has_auth three_types (NamedTy 0) ≡ true
found_through_named_types = refl

pub recursive_type_has_none : has_auth three_types (NamedTy 2) ≡ false
recursive_type_has_none = refl
