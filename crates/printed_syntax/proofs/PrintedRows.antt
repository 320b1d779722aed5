-- Printed values, computed.
use Rattle.std.proofs.Common.{◌≡◌, refl}
use Rattle.std.specs.Prelude.{ℕ, true, false, List, [], ◌∷◌, ◌++◌, codes, pos, negsuc}
use Rattle.std.specs.Fmt.{digits}
use Rattle.std.specs.List.{repeat}
use Rattle.hex.specs.Hex.{encode_with}
use Rattle.core_terms.specs.Types.{Ty, UnitTy, BoolTy, IntTy, TextTy, PairTy, NamedTy, AuthTy, VecTy, Table}
use Rattle.core_terms.specs.Values.{Value, UnitV, BoolV, IntV, TextV, PairV, ConV, DigestV, ItemsV, NoV, AndV}
use Rattle.printed_syntax.specs.Literals.{ConstructorNames}
use Rattle.printed_syntax.specs.PrintedValues.{printed}

-- the text of a value of a type without named types
abbrev text_of : Ty → Value → List ℕ
text_of = printed [] (λ number. [])

unit : text_of UnitTy UnitV ≡ codes "()"
unit = refl

yes : text_of BoolTy (BoolV true) ≡ codes "true"
yes = refl

no : text_of BoolTy (BoolV false) ≡ codes "false"
no = refl

nought : text_of IntTy (IntV (pos 0)) ≡ codes "0"
unfolding digits
nought = refl

one_less : text_of IntTy (IntV (negsuc 0)) ≡ codes "-1"
unfolding digits
one_less = refl

least : text_of IntTy (IntV (negsuc 9223372036854775807)) ≡ codes "-9223372036854775808"
unfolding digits
least = refl

greatest : text_of IntTy (IntV (pos 9223372036854775807)) ≡ codes "9223372036854775807"
unfolding digits
greatest = refl

empty_text : text_of TextTy (TextV []) ≡ codes "\"\""
empty_text = refl

-- a quote, a backslash, 0a, 09, 00, 1f, a blank, `~`, 7f, and the bytes of a letter beyond ASCII
escapes : text_of TextTy (TextV (0x22 ∷ 0x5C ∷ 0x0A ∷ 0x09 ∷ 0x00 ∷ 0x1F ∷ 0x20 ∷ 0x7E ∷ 0x7F ∷ 0xC3 ∷ 0xA9 ∷ [])) ≡ codes "\"\\\"\\\\\\n\\t\\x00\\x1f ~\\x7f" ++ 0xC3 ∷ 0xA9 ∷ codes "\""
unfolding encode_with
escapes = refl

-- a digest is printed whatever it is of
digest : text_of (AuthTy (AuthTy TextTy)) (DigestV (0x0A ∷ 0xB0 ∷ repeat 30 (0xFF ∷ []))) ≡ codes "#0ab0ffffffffffffffffffffffffffffffffffffffffffffffffffffffffffff"
unfolding encode_with
digest = refl

-- a type of trees over texts
trees : Table
trees = ([] ∷ (NamedTy 0 ∷ TextTy ∷ NamedTy 0 ∷ []) ∷ []) ∷ []

tree_names : ConstructorNames
tree_names number = codes "Leaf" ∷ codes "Node" ∷ []

pair_of_pairs : printed trees tree_names (PairTy (PairTy UnitTy BoolTy) TextTy) (PairV (PairV UnitV (BoolV true)) (TextV (codes "a"))) ≡ codes "(((), true), \"a\")"
pair_of_pairs = refl

no_fields : printed trees tree_names (NamedTy 0) (ConV 0 NoV) ≡ codes "Leaf"
unfolding trees tree_names
no_fields = refl

fields : printed trees tree_names (NamedTy 0) (ConV 1 (AndV (ConV 0 NoV) (AndV (TextV (codes "b")) (AndV (ConV 0 NoV) NoV)))) ≡ codes "Node(Leaf, \"b\", Leaf)"
unfolding trees tree_names
fields = refl

array : text_of (VecTy 2 IntTy) (ItemsV (AndV (IntV (pos 7)) (AndV (IntV (negsuc 0)) NoV))) ≡ codes "[7, -1]"
unfolding digits
array = refl

array_of_one : text_of (VecTy 1 BoolTy) (ItemsV (AndV (BoolV true) NoV)) ≡ codes "[true]"
array_of_one = refl

-- elements that are spelled by nothing are printed all the same
blanks : Value
blanks = ItemsV (AndV UnitV (AndV UnitV NoV))

array_of_blanks : text_of (VecTy 2 UnitTy) blanks ≡ codes "[(), ()]"
unfolding blanks
array_of_blanks = refl

array_of_arrays : text_of (VecTy 2 (VecTy 2 UnitTy)) (ItemsV (AndV blanks (AndV blanks NoV))) ≡ codes "[[(), ()], [(), ()]]"
unfolding blanks
array_of_arrays = refl

array_of_constructors : printed trees tree_names (VecTy 2 (NamedTy 0)) (ItemsV (AndV (ConV 0 NoV) (AndV (ConV 1 (AndV (ConV 0 NoV) (AndV (TextV (codes "b")) (AndV (ConV 0 NoV) NoV)))) NoV)))
    ≡ codes "[Leaf, Node(Leaf, \"b\", Leaf)]"
unfolding trees tree_names
array_of_constructors = refl
