-- Types by number, the types that forms stand for, and which parts and numbers are in a table (`TypeTables`, `ProgramTrees`). Each equation holds
-- by computing both sides.
use Rattle.std.specs.Prelude.{◌≡◌, [], ◌∷◌, true, false}
use Rattle.core_terms.specs.Types.{UnitTy, BoolTy, IntTy, TextTy, PairTy, NamedTy, AuthTy}
use Rattle.core_terms.specs.TypeTables.{is_in_order, types_of_forms}
use Rattle.core_terms.specs.ProgramTrees.{are_below, types_at}
use Rattle.core_terms.specs.declared.types.TyForm.TheVariants.{UnitForm, BoolForm, IntForm, TextForm, AuthForm, PairForm, NamedForm}

pub record TypeRows : Type 0 where
  -- each form, with its parts among the earlier ones
  pub types_of_each_form : types_of_forms (UnitForm ∷ BoolForm ∷ IntForm ∷ TextForm ∷ AuthForm (record { 0 = 2 }) ∷ PairForm (record { 0 = 1 }) (record { 0 = 4 }) ∷ NamedForm (record { 0 = 3 }) ∷ [])
      ≡ UnitTy ∷ BoolTy ∷ IntTy ∷ TextTy ∷ AuthTy IntTy ∷ PairTy BoolTy (AuthTy IntTy) ∷ NamedTy 3 ∷ []
  -- a number that no type has stands for `unit`
  pub types_by_number : types_at (IntTy ∷ BoolTy ∷ []) (record { 0 = 1 } ∷ record { 0 = 0 } ∷ record { 0 = 2 } ∷ []) ≡ BoolTy ∷ IntTy ∷ UnitTy ∷ []
  -- parts stand before what they are parts of
  pub parts_stand_before : is_in_order 0 (IntForm ∷ AuthForm (record { 0 = 0 }) ∷ PairForm (record { 0 = 1 }) (record { 0 = 0 }) ∷ []) ≡ true
  pub auth_of_itself : is_in_order 0 (IntForm ∷ AuthForm (record { 0 = 1 }) ∷ []) ≡ false
  pub later_second_part : is_in_order 0 (IntForm ∷ PairForm (record { 0 = 0 }) (record { 0 = 1 }) ∷ []) ≡ false
  pub later_first_part : is_in_order 0 (IntForm ∷ PairForm (record { 0 = 1 }) (record { 0 = 0 }) ∷ []) ≡ false
  -- numbers are below a count
  pub both_are_below : are_below 2 (record { 0 = 1 } ∷ record { 0 = 0 } ∷ []) ≡ true
  pub second_is_not_below : are_below 2 (record { 0 = 1 } ∷ record { 0 = 2 } ∷ []) ≡ false
