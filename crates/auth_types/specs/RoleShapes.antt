-- The rules of roles: each has the shape of its kind, and no `auth` stands in what its caller passes. What breaks them.
use Rattle.std.specs.Prelude.{◌≡◌, ℕ, List, [], ◌∷◌, slice_get, Some}
use Rattle.std.specs.List.{Contains}
use Rattle.core_terms.specs.declared.format.Format.{Format}
use Rattle.core_terms.specs.Types.{Ty, PairTy, NamedTy, AuthTy, Table, VecTy}
use Rattle.lexemes.specs.declared.place.Place.{Place}
use Rattle.auth_syntax.specs.Syntax.{TypeSyntax, place_of_type, ParameterSyntax, KindSyntax, InnerSyntax, InitSyntax, QuerySyntax, UpdateSyntax, FunctionSyntax}
use Rattle.declared_types.specs.WrittenTypes.{type_meant}
use Rattle.declared_types.specs.declared.fault.TypeKind.{TypeKind}
use Rattle.declared_types.specs.declared.fault.TypeKind.TheVariants.{RoleShape, AuthInArgument}

-- An `auth` stands in a type: it is one, or one stands in a part of a pair, in the elements of an array, or in a field of a constructor of a named type.
pub data AuthStandsIn (table : Table) : Ty → Type 0 where
  StandsHere : {t : Ty} → AuthStandsIn table (AuthTy t)
  StandsInFirst : {a b : Ty} → AuthStandsIn table a → AuthStandsIn table (PairTy a b)
  StandsInSecond : {a b : Ty} → AuthStandsIn table b → AuthStandsIn table (PairTy a b)
  StandsInItem : {n : ℕ} {t : Ty} → AuthStandsIn table t → AuthStandsIn table (VecTy n t)
  StandsInField : {number : ℕ} {constructors : List (List Ty)} {fields : List Ty} {t : Ty}
      → slice_get table number ≡ Some constructors → Contains constructors fields → Contains fields t → AuthStandsIn table t
      → AuthStandsIn table (NamedTy number)

-- A function of this kind, with these parameters and this result, has the shape of a role that is passed an argument of the last type:
-- init f(x: A): S; query f(s: S, x: A): R; update f(s: S, x: A): (S, R).
pub data HasShape (format : Format) (names : List (List ℕ)) (state : Ty) : KindSyntax → List ParameterSyntax → TypeSyntax → TypeSyntax → Type 0 where
  InitShape : {argument : ParameterSyntax} {result : TypeSyntax} → type_meant format names result ≡ state
      → HasShape format names state InitSyntax (argument ∷ []) result argument.of_type
  QueryShape : {first argument : ParameterSyntax} {result : TypeSyntax} → type_meant format names first.of_type ≡ state
      → HasShape format names state QuerySyntax (first ∷ argument ∷ []) result argument.of_type
  UpdateShape : {first argument : ParameterSyntax} {result : TypeSyntax} {answer : Ty}
      → type_meant format names first.of_type ≡ state → type_meant format names result ≡ PairTy state answer
      → HasShape format names state UpdateSyntax (first ∷ argument ∷ []) result argument.of_type

-- A function that is called by the program alone may have any shape. A role has that of its kind, and no `auth` in its argument.
pub data MeetsRole (format : Format) (names : List (List ℕ)) (table : Table) (state : Ty) (before : List FunctionSyntax) (function : FunctionSyntax) : Type 0 where
  IsInner : function.kind ≡ InnerSyntax → MeetsRole format names table state before function
  IsShaped : {argument : TypeSyntax} → HasShape format names state function.kind function.parameters function.result_type argument
      → (AuthStandsIn table (type_meant format names argument) → ⊥) → MeetsRole format names table state before function

-- A role hasn't the shape of its kind; or it has, and an `auth` stands in its argument.
pub data BreaksRole (format : Format) (names : List (List ℕ)) (table : Table) (state : Ty) (before : List FunctionSyntax) (function : FunctionSyntax) : TypeKind → Place → Type 0 where
  IsMisshapen : (function.kind ≡ InnerSyntax → ⊥) → ((argument : TypeSyntax) → HasShape format names state function.kind function.parameters function.result_type argument → ⊥)
      → BreaksRole format names table state before function RoleShape function.name.at
  PassesAuth : {argument : TypeSyntax} → HasShape format names state function.kind function.parameters function.result_type argument
      → AuthStandsIn table (type_meant format names argument) → BreaksRole format names table state before function AuthInArgument (place_of_type argument)
