-- The shapes of functions that are entered.
use Rattle.std.proofs.Common.{◌≡◌, ℕ, ◌<◌, ◌≤◌, true, false, not, eqb, eqb-true, List, [], ◌∷◌, length, get_or, slice_index_or, ap, arith, subst, sym}
use Rattle.core_terms.specs.ProgramTrees.{types_at}
use Rattle.core_terms.specs.Types.{PairTy, Table, Ty, UnitTy}
use Rattle.core_terms.specs.Terms.{Program, Query, Update}
use Rattle.core_terms.specs.Roles.{has_auth}
use Rattle.core_terms.specs.TypeTables.{type_at}
use Rattle.core_terms.specs.RoleShapes.{shape_test}
use Rattle.core_terms.specs.declared.types.TyId.{TyId}
use Rattle.core_terms.proofs.TypingComplete.{both, same_self}

-- two numbers, of which the first is the state's and the second one that of a plain type
pub of_two : (named : Table) (types : List Ty) (state : TyId) (ids : List TyId) → 2 ≤ length ids → length ids < 3
    → eqb (get_or ids 0 (record { 0 = 0 })).0 state.0 ≡ true → has_auth named (type_at types (get_or ids 1 (record { 0 = 0 }))) ≡ false
    → (argument : Ty) × (types_at types ids ≡ type_at types state ∷ argument ∷ []) × (has_auth named argument ≡ false)
of_two named types state [] some few is plain = absurd (omega (arith, some))
of_two named types state (x ∷ []) some few is plain = absurd (omega (arith, some))
of_two named types state (x ∷ y ∷ []) some few is plain = (type_at types y, ap (λ (n : ℕ). slice_index_or types n UnitTy ∷ type_at types y ∷ []) (eqb-true x.0 state.0 is), plain)
of_two named types state (x ∷ y ∷ z ∷ ids) some few is plain = absurd (omega (arith, few))

module _ (P : Program) (ts : List Ty) (r : Ty) (takes : (argument : Ty) × (ts ≡ P.state ∷ argument ∷ []) × (has_auth P.types argument ≡ false)) where
  pub query_shaped : shape_test P Query ts r ≡ true
  query_shaped =
      subst (λ ts. shape_test P Query ts r ≡ true) (sym takes.1) (both _ _ (same_self P.state) (ap not takes.2))

  pub update_shaped : (answer : Ty) × (r ≡ PairTy P.state answer) → shape_test P Update ts r ≡ true
  update_shaped gives =
      subst (λ ts. shape_test P Update ts r ≡ true) (sym takes.1)
      (subst (λ r. shape_test P Update (P.state ∷ takes.0 ∷ []) r ≡ true) (sym gives.1)
      (both _ _ (same_self P.state) (both _ _ (same_self P.state) (ap not takes.2))))
