-- The rule of written types: what each stands for in a program of this format, where types of these names are declared. A named type goes by
-- its number among them, and an array stands where the program may have it.
use Rattle.std.specs.Prelude.{◌≡◌, ◌↔◌, ℕ, true, List}
use Rattle.core_terms.specs.declared.format.Format.{Format}
use Rattle.core_terms.specs.Types.{Ty, UnitTy, BoolTy, IntTy, TextTy, PairTy, NamedTy, AuthTy, VecTy}
use Rattle.lexemes.specs.declared.place.Place.{Place}
use Rattle.auth_syntax.specs.Syntax.{TypeSyntax, UnitTypeSyntax, BoolTypeSyntax, IntTypeSyntax, TextTypeSyntax, NamedTypeSyntax, AuthTypeSyntax, PairTypeSyntax, VecTypeSyntax}
use Rattle.declared_types.specs.Checking.{Sound}
use Rattle.declared_types.specs.WrittenTypes.{known_type, may_have, type_meant}
use Rattle.auth_types.specs.InOrder.{IsFirst}

pub data TypeStandsFor (format : Format) (names : List (List ℕ)) : TypeSyntax → Ty → Type 0 where
  UnitStands : {at : Place} → TypeStandsFor format names (UnitTypeSyntax at) UnitTy
  BoolStands : {at : Place} → TypeStandsFor format names (BoolTypeSyntax at) BoolTy
  IntStands : {at : Place} → TypeStandsFor format names (IntTypeSyntax at) IntTy
  TextStands : {at : Place} → TypeStandsFor format names (TextTypeSyntax at) TextTy
  NamedStands : {at : Place} {name : List ℕ} {number : ℕ} → IsFirst (λ other. other ≡ name) names number name
      → TypeStandsFor format names (NamedTypeSyntax at name) (NamedTy number)
  AuthStands : {at : Place} {inner : TypeSyntax} {t : Ty} → TypeStandsFor format names inner t → TypeStandsFor format names (AuthTypeSyntax at inner) (AuthTy t)
  PairStands : {at : Place} {first second : TypeSyntax} {a b : Ty}
      → TypeStandsFor format names first a → TypeStandsFor format names second b → TypeStandsFor format names (PairTypeSyntax at first second) (PairTy a b)
  VecStands : {at : Place} {n : ℕ} {item : TypeSyntax} {t : Ty}
      → may_have format n ≡ true → TypeStandsFor format names item t → TypeStandsFor format names (VecTypeSyntax at n item) (VecTy n t)

-- A written type passes and stands for this one exactly where the rule says so.
abbrev pub WrittenTypesStand : Type 0
WrittenTypesStand =
    (format : Format) (names : List (List ℕ)) (written : TypeSyntax) (t : Ty)
    → ((known_type format names written ≡ Sound tt) × (type_meant format names written ≡ t)) ↔ TypeStandsFor format names written t
