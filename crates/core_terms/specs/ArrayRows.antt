-- Arrays: their types, sizes, depths, spellings, readings and typing rules. Each equation holds by computing both sides.
use Rattle.std.specs.Prelude.{◌≡◌, ℕ, zero, suc, [], ◌∷◌, ◌++◌, pos, true, false, replicate, refl}
use Rattle.core_terms.specs.Types.{Ty, UnitTy, BoolTy, IntTy, TextTy, PairTy, AuthTy, VecTy, is_length, same_type}
use Rattle.core_terms.specs.Values.{Value, UnitV, BoolV, IntV, PairV, ItemsV, NoV, AndV, size, depth, IsIdeal, IsShallow}
use Rattle.core_terms.specs.Spelling.{spelling, shallow}
use Rattle.core_terms.specs.Reading.{Good, BadAt, read}
use Rattle.core_terms.specs.Terms.{Expression, LocalE, OperateE, VecFill, VecGet, VecPut, NoE, AndE}
use Rattle.core_terms.specs.ProgramSizes.{expressions_in, levels_of, levels_of_type}
use Rattle.core_terms.specs.ValueRows.{marks}
use Rattle.core_terms.specs.TypingRows.{takes}

-- an array of 7 and 9
abbrev pub seven_and_nine : Value
seven_and_nine = ItemsV (AndV (IntV (pos 7)) (AndV (IntV (pos 9)) NoV))

-- an array has 1 to 64 elements
pub lengths : (is_length 0 ≡ false) × (is_length 1 ≡ true) × (is_length 64 ≡ true) × (is_length 65 ≡ false)
lengths = (refl, refl, refl, refl)

-- two types are one where both the length and the element type are
pub equal_types : (same_type (VecTy 2 IntTy) (VecTy 2 IntTy) ≡ true) × (same_type (VecTy 2 IntTy) (VecTy 3 IntTy) ≡ false) × (same_type (VecTy 2 IntTy) (VecTy 2 BoolTy) ≡ false)
    × (same_type (VecTy 2 (VecTy 3 IntTy)) (VecTy 3 (VecTy 2 IntTy)) ≡ false)
equal_types = (refl, refl, refl, refl)

-- as many elements as the type says
pub two_elements : IsIdeal [] (VecTy 2 IntTy) seven_and_nine
two_elements = (refl, (refl, tt))

pub not_three : IsIdeal [] (VecTy 3 IntTy) seven_and_nine → ⊥
not_three h = h.1.1

pub no_other_element : IsShallow [] (VecTy 1 BoolTy) (ItemsV (AndV (IntV (pos 7)) NoV)) → ⊥
no_other_element h = h.0

-- the size is the sum, and the depth one more than the greatest
pub size_of_two : size [] (VecTy 2 IntTy) seven_and_nine ≡ 16
size_of_two = refl

pub size_of_blanks : size [] (VecTy 2 UnitTy) (ItemsV (AndV UnitV (AndV UnitV NoV))) ≡ 0
size_of_blanks = refl

pub depth_of_two : depth [] (VecTy 2 IntTy) seven_and_nine ≡ 2
depth_of_two = refl

pub depth_of_nested : depth [] (VecTy 1 (VecTy 2 IntTy)) (ItemsV (AndV seven_and_nine NoV)) ≡ 3
depth_of_nested = refl

-- the spelling is the elements in order, and reading reads it back; the state of the language's own row is 16 bytes
pub spelling_of_two : spelling seven_and_nine ≡ replicate 7 0 ++ 7 ∷ replicate 7 0 ++ 9 ∷ []
spelling_of_two = refl

pub two_are_read : read 65536 [] (VecTy 2 IntTy) (replicate 7 0 ++ 7 ∷ replicate 7 0 ++ 9 ∷ []) ≡ Good seven_and_nine [] 16
two_are_read = refl

-- an array of two bools is spelled as a pair is
pub as_a_pair : spelling (ItemsV (AndV (BoolV true) (AndV (BoolV false) NoV))) ≡ spelling (PairV (BoolV true) (BoolV false))
as_a_pair = refl

-- a fault stands in the element where it is, or behind the array
pub second_is_cut : read 65536 [] (VecTy 2 IntTy) (replicate 15 0) ≡ BadAt 8
second_is_cut = refl

pub third_is_no_bool : read 65536 [] (VecTy 3 BoolTy) (1 ∷ 1 ∷ 2 ∷ []) ≡ BadAt 2
third_is_no_bool = refl

pub byte_behind_two : read 65536 [] (VecTy 2 BoolTy) (1 ∷ 1 ∷ 0 ∷ []) ≡ BadAt 2
byte_behind_two = refl

-- 64 of blank elements are read of no bytes
pub blanks_are_read : read 65536 [] (VecTy 3 UnitTy) [] ≡ Good (ItemsV (AndV UnitV (AndV UnitV (AndV UnitV NoV)))) [] 0
blanks_are_read = refl

-- arrays of one element, so many around a type
abbrev pub around : ℕ → Ty → Ty
around zero t = t
around (suc n) t = VecTy 1 (around n t)

-- the elements of the array on level 512 would stand on level 513: a fault where the first would begin
pub deepest_is_read : read 65536 [] (PairTy BoolTy (around 510 BoolTy)) (1 ∷ 2 ∷ []) ≡ BadAt 1
deepest_is_read = refl

pub deeper_is_not_read : (read 65536 [] (PairTy (around 510 BoolTy) (around 511 BoolTy)) (1 ∷ 1 ∷ []) ≡ BadAt 1) × (read 65536 [] (PairTy (around 511 BoolTy) BoolTy) (1 ∷ 1 ∷ []) ≡ BadAt 0)
deeper_is_not_read = (refl, refl)

-- each element is projected
pub projection_of_two : shallow marks [] (VecTy 2 (AuthTy IntTy)) seven_and_nine
    ≡ ItemsV (AndV (shallow marks [] (AuthTy IntTy) (IntV (pos 7))) (AndV (shallow marks [] (AuthTy IntTy) (IntV (pos 9))) NoV))
projection_of_two = refl

-- a fill, an element and a replacement have the types of their rules; the locals of `takes` are an int, a bool, a text and more
pub fill_has_its_type : takes (OperateE (VecFill 2 TextTy) (AndE (LocalE 2) NoE)) (VecTy 2 TextTy) ≡ true
fill_has_its_type = refl

pub fill_of_other_length : takes (OperateE (VecFill 2 TextTy) (AndE (LocalE 2) NoE)) (VecTy 3 TextTy) ≡ false
fill_of_other_length = refl

pub no_fill_of_65 : takes (OperateE (VecFill 65 TextTy) (AndE (LocalE 2) NoE)) (VecTy 65 TextTy) ≡ false
no_fill_of_65 = refl

abbrev pub two_texts : Expression
two_texts = OperateE (VecFill 2 TextTy) (AndE (LocalE 2) NoE)

pub element_has_its_type : takes (OperateE (VecGet 2 TextTy) (AndE two_texts (AndE (LocalE 0) NoE))) TextTy ≡ true
element_has_its_type = refl

pub no_element_of_an_int : takes (OperateE (VecGet 2 TextTy) (AndE (LocalE 0) (AndE (LocalE 0) NoE))) TextTy ≡ false
no_element_of_an_int = refl

pub no_element_at_a_bool : takes (OperateE (VecGet 2 TextTy) (AndE two_texts (AndE (LocalE 1) NoE))) TextTy ≡ false
no_element_at_a_bool = refl

pub replacement_has_its_type : takes (OperateE (VecPut 2 TextTy) (AndE two_texts (AndE (LocalE 0) (AndE (LocalE 2) NoE)))) (VecTy 2 TextTy) ≡ true
replacement_has_its_type = refl

pub no_other_replacement : takes (OperateE (VecPut 2 TextTy) (AndE two_texts (AndE (LocalE 0) (AndE (LocalE 0) NoE)))) (VecTy 2 TextTy) ≡ false
no_other_replacement = refl

pub operand_is_missing : takes (OperateE (VecPut 2 TextTy) (AndE two_texts (AndE (LocalE 0) NoE))) (VecTy 2 TextTy) ≡ false
operand_is_missing = refl

-- each operand counts, and an array's type is a level around its element's
pub parts_of_an_operation : (expressions_in (OperateE (VecGet 2 TextTy) (AndE two_texts (AndE (LocalE 0) NoE))) ≡ 4) × (levels_of (OperateE (VecGet 2 TextTy) (AndE two_texts (AndE (LocalE 0) NoE))) ≡ 3)
parts_of_an_operation = (refl, refl)

pub levels_of_an_array : levels_of_type (VecTy 2 (PairTy IntTy IntTy)) ≡ 3
levels_of_an_array = refl
