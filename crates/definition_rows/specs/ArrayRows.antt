-- Arrays in the definitions of `core_terms`: values and their limits, operations and their typing rules, the forms and marks of types, and programs of
-- the code. Each equation holds by computing both sides.
use Rattle.std.specs.Prelude.{◌≡◌, [], ◌∷◌, true, false}
use Rattle.core_terms.specs.Types.{Ty, UnitTy, BoolTy, IntTy, TextTy, NamedTy, AuthTy, VecTy}
use Rattle.core_terms.specs.Values.{Value, TextV, ConV, ItemsV, NoV, AndV, AuthWithin, IsShallow, depth}
use Rattle.core_terms.specs.Terms.{Expression, LocalE, OperateE, VecFill, VecGet, VecPut, NoE, AndE}
use Rattle.core_terms.specs.TypingRules.{HasType, is_operation}
use Rattle.core_terms.specs.ProgramSizes.{locals_in}
use Rattle.core_terms.specs.Roles.{has_auth}
use Rattle.core_terms.specs.AuthMarks.{mark_of_form}
use Rattle.core_terms.specs.TypeTables.{is_form_in, is_in_order, types_of_forms}
use Rattle.core_terms.specs.ProgramTrees.{operation_of}
use Rattle.core_terms.specs.ArrayRows.{seven_and_nine}
use Rattle.core_terms.specs.LimitRows.{bind_two, two_constructors}
use Rattle.core_terms.specs.TypingRows.{small}
use Rattle.core_terms.specs.ValueRows.{of_three, two_types}
use Rattle.core_terms.specs.declared.format.Format.TheVariants.{First, Second}
use Rattle.core_terms.specs.declared.term.Operation.TheVariants as coded
use Rattle.core_terms.specs.declared.types.TyForm.TheVariants.{IntForm, VecForm}

-- two constructors, the second of which is deeper
abbrev pub of_two_depths : Value
of_two_depths = ItemsV (AndV (ConV 0 NoV) (AndV (of_three (TextV [])) NoV))

-- two texts, the second of which has a byte
abbrev pub of_two_sizes : Value
of_two_sizes = ItemsV (AndV (TextV []) (AndV (TextV (0x61 ∷ [])) NoV))

-- where the locals are an array of two texts, an int, a bool, a text, and an array of 65 texts
abbrev pub IsWellTyped : Expression → Ty → Type 0
IsWellTyped e t = HasType small (VecTy 2 TextTy ∷ IntTy ∷ BoolTy ∷ TextTy ∷ VecTy 65 TextTy ∷ []) e t

pub record ArrayRows : Type 0 where
  -- each element is shallow, the deepest one counts, and an authenticated one has to be within the limits wherever it stands
  pub two_are_shallow : IsShallow [] (VecTy 2 IntTy) seven_and_nine
  pub three_are_not_two : IsShallow [] (VecTy 3 IntTy) seven_and_nine → ⊥
  pub deepest_element : depth two_types (VecTy 2 (NamedTy 1)) of_two_depths ≡ 3
  pub second_is_beyond : AuthWithin 4 [] (VecTy 2 (AuthTy TextTy)) of_two_sizes → ⊥
  -- operations are on arrays of 1 to 64 elements
  pub lengths_of_operations : (t : Ty) → (is_operation (VecFill 0 t) ≡ false) × (is_operation (VecFill 64 t) ≡ true) × (is_operation (VecFill 65 t) ≡ false)
      × (is_operation (VecGet 64 t) ≡ true) × (is_operation (VecGet 65 t) ≡ false) × (is_operation (VecPut 64 t) ≡ true) × (is_operation (VecPut 65 t) ≡ false)
  pub fill_has_its_type : IsWellTyped (OperateE (VecFill 2 TextTy) (AndE (LocalE 3) NoE)) (VecTy 2 TextTy)
  pub element_has_its_type : IsWellTyped (OperateE (VecGet 2 TextTy) (AndE (LocalE 0) (AndE (LocalE 1) NoE))) TextTy
  pub replacement_has_its_type : IsWellTyped (OperateE (VecPut 2 TextTy) (AndE (LocalE 0) (AndE (LocalE 1) (AndE (LocalE 3) NoE)))) (VecTy 2 TextTy)
  pub element_is_no_array : IsWellTyped (OperateE (VecGet 2 TextTy) (AndE (LocalE 0) (AndE (LocalE 1) NoE))) (VecTy 2 TextTy) → ⊥
  pub no_element_of_65 : IsWellTyped (OperateE (VecGet 65 TextTy) (AndE (LocalE 4) (AndE (LocalE 1) NoE))) TextTy → ⊥
  pub no_element_at_a_bool : IsWellTyped (OperateE (VecGet 2 TextTy) (AndE (LocalE 0) (AndE (LocalE 2) NoE))) TextTy → ⊥
  pub no_replacement_is_missing : IsWellTyped (OperateE (VecPut 2 TextTy) (AndE (LocalE 0) (AndE (LocalE 1) NoE))) (VecTy 2 TextTy) → ⊥
  pub locals_of_an_operand : locals_in two_constructors 0 (OperateE (VecFill 2 UnitTy) (AndE bind_two NoE)) ≡ 2
  -- an `auth` stands in an array where it stands in the elements' type, and there is its mark
  pub auth_in_an_array : (has_auth [] (VecTy 2 (AuthTy IntTy)) ≡ true) × (has_auth [] (VecTy 2 IntTy) ≡ false)
  pub mark_of_an_array : (mark_of_form (true ∷ false ∷ []) [] (VecForm 2 (record { 0 = 0 })) ≡ true) × (mark_of_form (true ∷ false ∷ []) [] (VecForm 2 (record { 0 = 1 })) ≡ false)
  -- the type of an array's form, which stands behind its elements' type, has 1 to 64 elements, and is of the second format alone
  pub type_of_an_array : types_of_forms (IntForm ∷ VecForm 2 (record { 0 = 0 }) ∷ []) ≡ IntTy ∷ VecTy 2 IntTy ∷ []
  pub array_stands_behind : (is_in_order 0 (IntForm ∷ VecForm 64 (record { 0 = 0 }) ∷ []) ≡ true) × (is_in_order 0 (IntForm ∷ VecForm 64 (record { 0 = 1 }) ∷ []) ≡ false)
  pub lengths_of_forms : (is_in_order 0 (IntForm ∷ VecForm 0 (record { 0 = 0 }) ∷ []) ≡ false) × (is_in_order 0 (IntForm ∷ VecForm 65 (record { 0 = 0 }) ∷ []) ≡ false)
  pub format_of_arrays : (is_form_in First (VecForm 2 (record { 0 = 0 })) ≡ false) × (is_form_in Second (VecForm 2 (record { 0 = 0 })) ≡ true) × (is_form_in First IntForm ≡ true)
  -- an operation of the code, over these types
  pub each_operation : (operation_of (UnitTy ∷ BoolTy ∷ []) (coded.VecFill 2 (record { 0 = 1 })) ≡ VecFill 2 BoolTy)
      × (operation_of (UnitTy ∷ BoolTy ∷ []) (coded.VecGet 2 (record { 0 = 1 })) ≡ VecGet 2 BoolTy)
      × (operation_of (UnitTy ∷ BoolTy ∷ []) (coded.VecPut 2 (record { 0 = 1 })) ≡ VecPut 2 BoolTy)
