-- A written type passes and stands for a type exactly where the rule says so.
use Rattle.std.proofs.Common.{◌≡◌, ℕ, Bool, true, false, if◌then◌else◌, List, unwrap_or, refl, sym, ap, ap₂, ◌∙◌, subst}
use Rattle.std.specs.List.{Contains}
use Rattle.core_terms.specs.Types.{Ty, NamedTy, PairTy, AuthTy, VecTy}
use Rattle.core_terms.specs.declared.format.Format.{Format}
use Rattle.auth_syntax.specs.Syntax.{TypeSyntax, UnitTypeSyntax, BoolTypeSyntax, IntTypeSyntax, TextTypeSyntax, NamedTypeSyntax, AuthTypeSyntax, PairTypeSyntax, VecTypeSyntax}
use Rattle.declared_types.specs.Checking.{is_among, then_checked, unless_fault}
use Rattle.declared_types.specs.WrittenTypes.{known_array, known_type, may_have, type_meant}
use Rattle.auth_types.specs.WrittenTypeRules.{TypeStandsFor, UnitStands, BoolStands, IntStands, TextStands, NamedStands, AuthStands, PairStands, VecStands, WrittenTypesStand}
use Rattle.declared_types.specs.declared.fault.TypeKind.TheVariants.{NotVec, UnknownName}
use Rattle.declared_types.proofs.SoundSteps.{then_sound}
use Rattle.auth_types.proofs.NamedParts.{among_decides, first_holds, holds_first, number_is}
use Rattle.auth_types.proofs.Ruled.{fine}

module _ (format : Format) (names : List (List ℕ)) where
  stands : (written : TypeSyntax) → known_type format names written ≡ fine → TypeStandsFor format names written (type_meant format names written)
  stands (UnitTypeSyntax at) is = UnitStands
  stands (BoolTypeSyntax at) is = BoolStands
  stands (IntTypeSyntax at) is = IntStands
  stands (TextTypeSyntax at) is = TextStands
  stands (NamedTypeSyntax at name) is =
      let (k, found, first) = holds_first names name (held (is_among name names) (λ e. (among_decides name names).0 e) is) in
      subst (λ o. TypeStandsFor format names (NamedTypeSyntax at name) (NamedTy (unwrap_or o 0))) (sym found) (NamedStands first)
    where
      held : (b : Bool) → (b ≡ true → Contains names name) → unless_fault b UnknownName at fine ≡ fine → Contains names name
      held true h is = h refl
      held false h is = absurd (cc)
  stands (AuthTypeSyntax at inner) is = AuthStands (stands inner is)
  stands (PairTypeSyntax at first second) is =
      let (u, a, b) = then_sound (known_type format names first) (λ _. known_type format names second) tt is in
      PairStands (stands first a) (stands second b)
  stands (VecTypeSyntax at n item) is =
      let (u, a, b) = then_sound (known_array format at n) (λ _. known_type format names item) tt is in
      let may = held (may_have format n) a in
      subst (λ b. TypeStandsFor format names (VecTypeSyntax at n item) (if b then VecTy n (type_meant format names item) else type_meant format names item)) (sym may)
      (VecStands may (stands item b))
    where
      held : (b : Bool) → unless_fault b NotVec at fine ≡ fine → b ≡ true
      held true is = refl
      held false is = absurd (cc)

  stood : {written : TypeSyntax} {t : Ty} → TypeStandsFor format names written t → (known_type format names written ≡ fine) × (type_meant format names written ≡ t)
  stood UnitStands = (refl, refl)
  stood BoolStands = (refl, refl)
  stood IntStands = (refl, refl)
  stood TextStands = (refl, refl)
  stood (NamedStands {at = at} {name = name} {number = k} first) =
      (ap (λ b. unless_fault b UnknownName at fine) ((among_decides name names).1 (first_holds names name k first)), ap (λ o. NamedTy (unwrap_or o 0)) (number_is names name k first))
  stood (AuthStands h) = ((stood h).0, ap AuthTy (stood h).1)
  stood (PairStands {second = second} h j) = (ap (λ c. then_checked c (λ _. known_type format names second)) (stood h).0 ∙ (stood j).0, ap₂ PairTy (stood h).1 (stood j).1)
  stood (VecStands {at = at} {n = n} {item = item} {t = t} may h) = (
    ap (λ b. then_checked (unless_fault b NotVec at fine) (λ _. known_type format names item)) may ∙ (stood h).0,
    ap (λ b. if b then VecTy n (type_meant format names item) else type_meant format names item) may ∙ ap (VecTy n) (stood h).1,
  )

pub written_types_stand : WrittenTypesStand
written_types_stand format names written t = (λ h. subst (TypeStandsFor format names written) h.1 (stands format names written h.0), λ s. stood format names s)
