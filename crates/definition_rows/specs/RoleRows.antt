-- The roles of a program (`Roles`, `Typing`): what each kind takes and gives, and what is no role; and which types have two numbers (`TypeTables`).
use Rattle.std.specs.Prelude.{◌≡◌, ℕ, [], ◌∷◌, true, false, None}
use Rattle.core_terms.specs.Types.{Ty, UnitTy, BoolTy, IntTy, TextTy, PairTy, NamedTy, AuthTy, Table}
use Rattle.core_terms.specs.Formats.{first_format}
use Rattle.core_terms.specs.Terms.{Inner, Init, Query, Update, Function, Kind, Program}
use Rattle.core_terms.specs.Roles.{has_auth}
use Rattle.core_terms.specs.RoleTypes.{HasRoleShape, IsPlain, IsRole, role_parameters, role_result}
use Rattle.core_terms.specs.Typing.{is_shaped}
use Rattle.core_terms.specs.RoleShapes.{shape_test}
use Rattle.core_terms.specs.RoleRows.{declared, five}
use Rattle.core_terms.specs.TypingRows.{small}
use Rattle.core_terms.specs.TypeTables.{HasNoNumber, HasOneNumber, IsWithForm}
use Rattle.core_terms.specs.declared.types.TyForm.TheVariants.{AuthForm, IntForm}

-- a query that gives a state beside its answer
abbrev pub giving_both : Function
giving_both = declared [] Query (BoolTy ∷ UnitTy ∷ []) (PairTy BoolTy UnitTy)

abbrev pub of_one : Program
of_one = record { format = first_format 0; types = []; state = BoolTy; functions = giving_both ∷ []; code = None }

-- a chain of two named types, of which the second holds an authenticated int
abbrev pub chain : Table
chain = ((NamedTy 1 ∷ []) ∷ []) ∷ ((AuthTy IntTy ∷ []) ∷ []) ∷ []

-- a query, and another of which the state isn't that of the program
abbrev pub two_queries : Program
two_queries = record { format = first_format 0; types = []; state = BoolTy; functions = giving_both ∷ declared [] Query (IntTy ∷ UnitTy ∷ []) BoolTy ∷ []; code = None }

pub record RoleRows : Type 0 where
  -- what a role takes and gives, where the state is a bool and the rest an int
  pub parameters_by_kind : (role_parameters Inner BoolTy IntTy ≡ []) × (role_parameters Init BoolTy IntTy ≡ IntTy ∷ [])
      × (role_parameters Query BoolTy IntTy ≡ BoolTy ∷ IntTy ∷ []) × (role_parameters Update BoolTy IntTy ≡ BoolTy ∷ IntTy ∷ [])
  pub results_by_kind : (role_result Inner BoolTy IntTy ≡ IntTy) × (role_result Init BoolTy IntTy ≡ BoolTy)
      × (role_result Query BoolTy IntTy ≡ IntTy) × (role_result Update BoolTy IntTy ≡ PairTy BoolTy IntTy)
  pub no_auth_in_an_init_argument : shape_test small Init (AuthTy IntTy ∷ []) (AuthTy IntTy) ≡ false
  pub query_takes_no_other_state : shape_test small Query (IntTy ∷ TextTy ∷ []) BoolTy ≡ false
  pub each_function_counts : (is_shaped of_one ≡ true) × (is_shaped two_queries ≡ false)
  -- an `auth` is found where each named type has to be opened
  pub found_at_the_end_of_a_chain : has_auth chain (NamedTy 0) ≡ true
  pub no_chain_is_plain : IsPlain chain (NamedTy 0) → ⊥
  -- no role is passed an authenticated value, or another argument than its function's
  pub auth_is_no_argument : (P : Program) (f : ℕ) (kind : Kind) (answer : Ty) → IsRole P f kind (AuthTy IntTy) answer → ⊥
  pub other_argument_is_none : IsRole of_one 0 Query IntTy (PairTy BoolTy UnitTy) → ⊥
  -- what isn't entered is no role
  pub inner_is_no_role : (f : ℕ) (t answer : Ty) → IsRole five f Inner t answer → ⊥
  -- that query is no update, and no role with another result than its function's
  pub query_is_no_update : IsRole of_one 0 Update UnitTy UnitTy → ⊥
  pub other_result_is_no_shape : HasRoleShape of_one (record { function = 0; name = []; kind = Query; argument = UnitTy; result = UnitTy }) → ⊥
  -- a type that stands twice has no one number, a form that is there isn't added again, and a type that is there has a number
  pub int_has_two_numbers : HasOneNumber (IntTy ∷ BoolTy ∷ IntTy ∷ []) → ⊥
  pub second_time_is_none : IsWithForm (IntForm ∷ []) IntForm (IntForm ∷ IntForm ∷ []) → ⊥
  pub auth_has_a_number : HasNoNumber (IntTy ∷ AuthTy IntTy ∷ []) (AuthForm (record { 0 = 0 })) → ⊥
