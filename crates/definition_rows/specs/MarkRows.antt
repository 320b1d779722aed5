-- The marks of types (`AuthMarks`), and the roles of the code (`RoleViews`).
use Rattle.std.specs.Prelude.{◌≡◌, [], ◌∷◌, codes, true, false}
use Rattle.core_terms.specs.Types.{UnitTy, BoolTy, IntTy, NamedTy, AuthTy}
use Rattle.core_terms.specs.Terms as tree
use Rattle.core_terms.specs.AuthMarks.{AreAuthMarks, is_marked_type, mark_of_form}
use Rattle.core_terms.specs.RoleViews.{HasArgument, HaveArguments, has_role_below, role_kind_of, role_of}
use Rattle.core_terms.specs.declared.types.TyForm.TheVariants.{IntForm, AuthForm, PairForm, NamedForm}
use Rattle.core_terms.specs.declared.roles.Role.{Role}
use Rattle.core_terms.specs.declared.roles.RoleKind.TheVariants.{Init, Query, Update}
use Rattle.core_terms.specs.declared.term.Constructor.{Constructor}
use Rattle.core_terms.specs.declared.term.NamedType.{NamedType}
use Rattle.core_terms.specs.declared.term.Function.{Function}
use Rattle.core_terms.specs.declared.term.Kind.TheVariants as kind

-- a role of function 3, which is passed the type with number 1 and gives that with number 2
abbrev pub asked : Role
asked = record { function = record { 0 = 3 }; name = codes "ask"; kind = Query; argument = record { 0 = 1 }; result = record { 0 = 2 } }

pub record MarkRows : Type 0 where
  -- a pair is marked where either part is, an auth always, a named type where it is, and another type never
  pub first_part_is_marked : mark_of_form (true ∷ false ∷ []) [] (PairForm (record { 0 = 0 }) (record { 0 = 1 })) ≡ true
  pub second_part_is_marked : mark_of_form (false ∷ true ∷ []) [] (PairForm (record { 0 = 0 }) (record { 0 = 1 })) ≡ true
  pub no_part_is_marked : mark_of_form (false ∷ false ∷ []) [] (PairForm (record { 0 = 0 }) (record { 0 = 1 })) ≡ false
  pub no_such_part_is_marked : mark_of_form [] [] (PairForm (record { 0 = 0 }) (record { 0 = 1 })) ≡ false
  pub auth_is_marked : mark_of_form (false ∷ []) [] (AuthForm (record { 0 = 0 })) ≡ true
  pub named_type_is_marked : (mark_of_form [] (false ∷ true ∷ []) (NamedForm (record { 0 = 1 })) ≡ true) × (mark_of_form [] (false ∷ true ∷ []) (NamedForm (record { 0 = 0 })) ≡ false)
  pub leaf_is_not_marked : mark_of_form (true ∷ []) (true ∷ []) IntForm ≡ false
  pub marked_field_marks_a_type : (declared : NamedType) (constructor : Constructor)
      → declared.constructors.items ≡ constructor ∷ [] → constructor.fields.items ≡ record { 0 = 0 } ∷ record { 0 = 1 } ∷ []
      → is_marked_type (false ∷ true ∷ []) declared ≡ true
  -- a named type whose field is authenticated has to be marked
  pub field_is_opened : (declared : NamedType) (constructor : Constructor)
      → declared.constructors.items ≡ constructor ∷ [] → constructor.fields.items ≡ record { 0 = 0 } ∷ []
      → AreAuthMarks (AuthTy IntTy ∷ NamedTy 0 ∷ []) (declared ∷ []) (true ∷ false ∷ []) → ⊥
  -- a role of the code is that of the definitions
  pub each_kind_of_role : (role_kind_of Init ≡ tree.Init) × (role_kind_of Query ≡ tree.Query) × (role_kind_of Update ≡ tree.Update)
  pub types_of_a_role : role_of (UnitTy ∷ BoolTy ∷ IntTy ∷ []) asked ≡ record { function = 3; name = codes "ask"; kind = tree.Query; argument = BoolTy; result = IntTy }
  pub numbers_of_a_role : (has_role_below 3 asked ≡ true) × (has_role_below 2 asked ≡ false) × (has_role_below 1 (record { function = record { 0 = 3 }; name = codes "ask"; kind = Query; argument = record { 0 = 1 }; result = record { 0 = 0 } }) ≡ false)
  -- a query without a second parameter has not what its caller passes
  pub one_parameter_is_none : (f : Function) → f.kind ≡ kind.Query → f.parameters.items ≡ record { 0 = 0 } ∷ [] → HasArgument f → ⊥
  pub roles_have_arguments : (f : Function) → f.kind ≡ kind.Query → f.parameters.items ≡ record { 0 = 0 } ∷ [] → HaveArguments (f ∷ []) → ⊥
