-- The types of the functions of roles.
use Rattle.std.specs.Prelude.{◌≡◌, ℕ, true, false, List, [], ◌∷◌, Option, Some, option_map, slice_get, slice_index_or}
use Rattle.core_terms.specs.Types.{Ty, UnitTy, PairTy, Table}
use Rattle.core_terms.specs.Terms.{Kind, Inner, Init, Query, Update, Function, Program, function_at}
use Rattle.core_terms.specs.Roles.{Role, has_auth_within, is_entered, program_roles}

-- no `auth` stands in the type at any depth, through named types too
abbrev pub IsPlain : Table → Ty → Type 0
IsPlain types t = (opened : ℕ) → has_auth_within types opened t ≡ false

-- the types of a role's parameters, where its caller passes an argument of type `argument`
abbrev pub role_parameters : Kind → (state argument : Ty) → List Ty
role_parameters Inner state argument = []
role_parameters Init state argument = argument ∷ []
role_parameters Query state argument = state ∷ argument ∷ []
role_parameters Update state argument = state ∷ argument ∷ []

-- the type of a role's result: `init` makes a state, `query` answers, `update` gives a new state and answers
abbrev pub role_result : Kind → (state answer : Ty) → Ty
role_result Inner state answer = answer
role_result Init state answer = state
role_result Query state answer = answer
role_result Update state answer = PairTy state answer

-- a role of this kind reads the state
abbrev pub ReadsState : Kind → Type 0
ReadsState Query = Unit {0}
ReadsState Update = Unit {0}
ReadsState kind = ⊥

-- Function f is a role of this kind: it has the shape that the kind asks for, and no `auth` stands in what its caller passes.
pub record IsRole (P : Program) (f : ℕ) (kind : Kind) (argument answer : Ty) : Type 0 where
  pub function : Function
  pub there : slice_get P.functions f ≡ Some function
  pub entered : is_entered kind ≡ true
  pub of_kind : function.kind ≡ kind
  pub parameters : function.parameters ≡ role_parameters kind P.state argument
  pub result : function.result ≡ role_result kind P.state answer
  pub plain : IsPlain P.types argument

-- the number of the function of the n-th role; none where there are no more than n
abbrev pub role_function : Program → ℕ → Option ℕ
role_function P n = option_map (λ (role : Role). role.function) (slice_get (program_roles P) n)

-- the role has the shape that its kind asks for
abbrev pub HasRoleShape : Program → Role → Type 0
HasRoleShape P role = (answer : Ty) × IsRole P role.function role.kind role.argument answer × (role.result ≡ role_result role.kind P.state answer)

-- the type of what the caller of an init passes, its only parameter; and of what that of a query passes, its second one
abbrev pub init_type : Program → ℕ → Ty
init_type P f = slice_index_or (function_at P f).parameters 0 UnitTy
