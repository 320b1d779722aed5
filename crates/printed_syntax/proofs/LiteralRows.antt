-- Literals, computed, within 3 levels, and within 9 bytes in the first format and 16 in the second.
use Rattle.std.proofs.Common.{◌≡◌, ℕ, List, [], ◌∷◌, refl}
use Rattle.std.specs.Prelude.{true, false, codes, pos, negsuc}
use Rattle.std.specs.Str.{is_utf8, chars}
use lib.Utf8.{encode}
use Rattle.core_terms.specs.Types.{Ty, UnitTy, BoolTy, IntTy, TextTy, PairTy, NamedTy, AuthTy, VecTy, Table}
use Rattle.core_terms.specs.Values.{Value, UnitV, BoolV, IntV, TextV, PairV, ConV, ItemsV, NoV, AndV}
use Rattle.core_terms.specs.declared.format.Format.TheVariants.{First, Second}
use Rattle.lexemes.specs.Tokens.{tokens}
use Rattle.printed_syntax.specs.Literals.{ConstructorNames, Literal, IsValue, FirstFault, literal_of, whole_literal}
use Rattle.lexemes.specs.declared.fault.LexicalFault.TheVariants.{Char as CharFault, NumberRange}
use Rattle.printed_syntax.specs.declared.fault.LiteralKind.TheVariants.{Lexical, Mismatch, TooDeep, TooBig}

-- trees over bools, and a constructor with an authenticated field
types : Table
types = ([] ∷ (NamedTy 0 ∷ BoolTy ∷ NamedTy 0 ∷ []) ∷ []) ∷ ((AuthTy BoolTy ∷ []) ∷ []) ∷ []

names : ConstructorNames
names number = codes "Leaf" ∷ codes "Node" ∷ []

leaf : Value
leaf = ConV 0 NoV

literal_within : Ty → List ℕ → Literal
literal_within t text = whole_literal 9 types t (literal_of types names 3 t (tokens First text))

second_within : Ty → List ℕ → Literal
second_within t text = whole_literal 16 types t (literal_of types names 3 t (tokens Second text))

pair : literal_within (PairTy UnitTy IntTy) (codes " ( ( ), -1 ) # it") ≡ IsValue (PairV UnitV (IntV (negsuc 0)))
unfolding literal_within
pair = refl

no_fields : literal_within (NamedTy 0) (codes "Leaf") ≡ IsValue (ConV 0 NoV)
unfolding literal_within types names
no_fields = refl

fields : literal_within (NamedTy 0) (codes "Node(Leaf, true, Node(Leaf, false, Leaf))") ≡ IsValue (ConV 1 (AndV leaf (AndV (BoolV true) (AndV (ConV 1 (AndV leaf (AndV (BoolV false) (AndV leaf NoV)))) NoV))))
unfolding literal_within types names leaf
fields = refl

text : literal_within TextTy (codes "\"h\\x69\"") ≡ IsValue (TextV (codes "hi"))
unfolding literal_within is_utf8 chars encode
text = refl

-- a byte over the limit, and a level
too_big : literal_within TextTy (codes "\"abcdef\"") ≡ FirstFault TooBig 0
unfolding literal_within is_utf8 chars encode
too_big = refl

too_deep : literal_within (NamedTy 0) (codes "Node(Node(Node(Leaf, true, Leaf), true, Leaf), true, Leaf)") ≡ FirstFault TooDeep 15
unfolding literal_within types names
too_deep = refl

-- nothing authenticated has a literal, in a pair and in a constructor neither
authenticated : literal_within (AuthTy BoolTy) (codes "true") ≡ FirstFault Mismatch 0
unfolding literal_within
authenticated = refl

authenticated_second : literal_within (PairTy BoolTy (AuthTy BoolTy)) (codes "(true, true)") ≡ FirstFault Mismatch 7
unfolding literal_within
authenticated_second = refl

authenticated_field : literal_within (NamedTy 1) (codes "Leaf(true)") ≡ FirstFault Mismatch 5
unfolding literal_within types names
authenticated_field = refl

-- an array
array : second_within (VecTy 2 IntTy) (codes "[7, 9]") ≡ IsValue (ItemsV (AndV (IntV (pos 7)) (AndV (IntV (pos 9)) NoV)))
unfolding second_within
array = refl

array_spread : second_within (VecTy 2 UnitTy) (codes " [( ) , () ]") ≡ IsValue (ItemsV (AndV UnitV (AndV UnitV NoV)))
unfolding second_within
array_spread = refl

array_of_arrays : second_within (VecTy 2 (VecTy 1 IntTy)) (codes "[[1], [2]]") ≡ IsValue (ItemsV (AndV (ItemsV (AndV (IntV (pos 1)) NoV)) (AndV (ItemsV (AndV (IntV (pos 2)) NoV)) NoV)))
unfolding second_within
array_of_arrays = refl

array_of_constructors : second_within (VecTy 2 (NamedTy 0)) (codes "[Leaf, Node(Leaf, true, Leaf)]") ≡ IsValue (ItemsV (AndV leaf (AndV (ConV 1 (AndV leaf (AndV (BoolV true) (AndV leaf NoV)))) NoV)))
unfolding second_within types names leaf
array_of_constructors = refl

-- too few elements, and too many; none; another mark; and an element of another type
too_few : second_within (VecTy 2 IntTy) (codes "[7]") ≡ FirstFault Mismatch 2
unfolding second_within
too_few = refl

too_many : second_within (VecTy 2 IntTy) (codes "[7, 9, 1]") ≡ FirstFault Mismatch 5
unfolding second_within
too_many = refl

no_elements : second_within (VecTy 2 IntTy) (codes "[]") ≡ FirstFault Mismatch 1
unfolding second_within
no_elements = refl

parentheses : second_within (VecTy 1 UnitTy) (codes "()") ≡ FirstFault Mismatch 0
unfolding second_within
parentheses = refl

other_element : second_within (VecTy 2 IntTy) (codes "[7, true]") ≡ FirstFault Mismatch 4
unfolding second_within
other_element = refl

-- 24 bytes, and a level too many
array_too_big : second_within (VecTy 3 IntTy) (codes "[7, 9, 1]") ≡ FirstFault TooBig 0
unfolding second_within
array_too_big = refl

array_too_deep : second_within (VecTy 1 (VecTy 1 (VecTy 1 BoolTy))) (codes "[[[true]]]") ≡ FirstFault TooDeep 3
unfolding second_within
array_too_deep = refl

-- nothing authenticated has a literal in an array either
authenticated_element : second_within (VecTy 1 (AuthTy BoolTy)) (codes "[true]") ≡ FirstFault Mismatch 1
unfolding second_within
authenticated_element = refl

-- the first format has no brackets
no_brackets : literal_within (VecTy 1 UnitTy) (codes "[()]") ≡ FirstFault (Lexical CharFault) 0
unfolding literal_within
no_brackets = refl

no_bracket_behind : literal_within (PairTy BoolTy (VecTy 1 BoolTy)) (codes "(true, [true])") ≡ FirstFault (Lexical CharFault) 7
unfolding literal_within
no_bracket_behind = refl

-- parentheses without fields, a constructor of another type, and a token too many
no_parentheses : literal_within (NamedTy 0) (codes "Leaf()") ≡ FirstFault Mismatch 4
unfolding literal_within types names
no_parentheses = refl

unknown_constructor : literal_within (NamedTy 0) (codes " Twig") ≡ FirstFault Mismatch 1
unfolding literal_within types names
unknown_constructor = refl

two_literals : literal_within BoolTy (codes "true true") ≡ FirstFault Mismatch 5
unfolding literal_within
two_literals = refl

-- the lexical fault comes first, and a fault within the literal before one behind it
out_of_range : literal_within IntTy (codes "9223372036854775808") ≡ FirstFault (Lexical NumberRange) 0
unfolding literal_within
out_of_range = refl

no_token_behind : literal_within BoolTy (codes "true ?") ≡ FirstFault (Lexical CharFault) 5
unfolding literal_within
no_token_behind = refl
