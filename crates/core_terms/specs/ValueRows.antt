-- Ints, sizes, depths and limits of small values. Each equation holds by computing both sides.
use Rattle.std.specs.Prelude.{◌≡◌, ℕ, List, [], ◌∷◌, length, pos, negsuc, true, false, replicate, refl}
use Rattle.core_terms.specs.Types.{Ty, UnitTy, BoolTy, IntTy, TextTy, PairTy, NamedTy, AuthTy, Table, has_numbers, has_tags}
use Rattle.core_terms.specs.Values.{Value, UnitV, BoolV, IntV, TextV, PairV, ConV, DigestV, NoV, AndV, int_fits, size, depth}
use Rattle.core_terms.specs.Spelling.{spelling, shallow}

-- from -2^63 to 2^63 - 1
pub greatest_int : int_fits (pos 9223372036854775807) ≡ true
greatest_int = refl

pub above_greatest_int : int_fits (pos 9223372036854775808) ≡ false
above_greatest_int = refl

pub least_int : int_fits (negsuc 9223372036854775807) ≡ true
least_int = refl

pub below_least_int : int_fits (negsuc 9223372036854775808) ≡ false
below_least_int = refl

-- 256 named types have numbers of two bytes, and 255 constructors tags of one
pub types_have_numbers : has_numbers (replicate 256 []) ≡ true
types_have_numbers = refl

pub type_too_many : has_numbers (replicate 257 []) ≡ false
type_too_many = refl

pub constructors_have_tags : has_tags (replicate 255 [] ∷ []) ≡ true
constructors_have_tags = refl

pub constructor_too_many : has_tags ([] ∷ replicate 256 [] ∷ []) ≡ false
constructor_too_many = refl

-- A table of two named types: the second has two constructors, of no field, and of a bool, an int and an authenticated text.
abbrev pub two_types : Table
two_types = ([] ∷ []) ∷ ([] ∷ (BoolTy ∷ IntTy ∷ AuthTy TextTy ∷ []) ∷ []) ∷ []

abbrev pub of_three : Value → Value
of_three text = ConV 1 (AndV (BoolV true) (AndV (IntV (pos 5)) (AndV text NoV)))

-- sizes: what is authenticated counts 32 bytes, whatever it is
pub size_of_unit : size [] UnitTy UnitV ≡ 0
size_of_unit = refl

pub size_of_text : size [] TextTy (TextV (0x61 ∷ 0x62 ∷ [])) ≡ 6
size_of_text = refl

pub size_of_pair : size [] (PairTy BoolTy IntTy) (PairV (BoolV true) (IntV (pos 5))) ≡ 9
size_of_pair = refl

pub size_of_constructor : size two_types (NamedTy 1) (of_three (TextV (replicate 100 0x61))) ≡ 42
size_of_constructor = refl

pub size_of_constructor_alone : size two_types (NamedTy 1) (ConV 0 NoV) ≡ 1
size_of_constructor_alone = refl

-- depths: a leaf, what is authenticated and a constructor without fields have 1
pub depth_of_leaf : depth [] IntTy (IntV (pos 5)) ≡ 1
depth_of_leaf = refl

pub depth_of_authenticated_pair : depth [] (AuthTy (PairTy UnitTy UnitTy)) (PairV UnitV UnitV) ≡ 1
depth_of_authenticated_pair = refl

pub depth_of_constructor_alone : depth two_types (NamedTy 1) (ConV 0 NoV) ≡ 1
depth_of_constructor_alone = refl

pub depth_of_constructor : depth two_types (NamedTy 1) (of_three (TextV [])) ≡ 2
depth_of_constructor = refl

-- the deeper part counts, the first or the second
pub deep_first : depth [] (PairTy (PairTy (PairTy UnitTy UnitTy) UnitTy) (PairTy UnitTy UnitTy)) (PairV (PairV (PairV UnitV UnitV) UnitV) (PairV UnitV UnitV)) ≡ 4
deep_first = refl

pub deep_second : depth [] (PairTy UnitTy (PairTy UnitTy (PairTy UnitTy UnitTy))) (PairV UnitV (PairV UnitV (PairV UnitV UnitV))) ≡ 4
deep_second = refl

pub deep_later_field : depth ((((PairTy UnitTy UnitTy) ∷ (PairTy UnitTy (PairTy UnitTy UnitTy)) ∷ []) ∷ []) ∷ []) (NamedTy 0)
    (ConV 0 (AndV (PairV UnitV UnitV) (AndV (PairV UnitV (PairV UnitV UnitV)) NoV))) ≡ 4
deep_later_field = refl

-- spellings: a tag, then the fields; a digest as it is
pub spelling_of_constructor : spelling (ConV 1 (AndV (BoolV true) (AndV (TextV (0x61 ∷ [])) (AndV (DigestV (7 ∷ 8 ∷ [])) NoV)))) ≡ 1 ∷ 1 ∷ 0 ∷ 0 ∷ 0 ∷ 1 ∷ 0x61 ∷ 7 ∷ 8 ∷ []
spelling_of_constructor = refl

pub spelling_of_least_int : spelling (IntV (negsuc 9223372036854775807)) ≡ 0x80 ∷ 0 ∷ 0 ∷ 0 ∷ 0 ∷ 0 ∷ 0 ∷ 0 ∷ []
spelling_of_least_int = refl

pub spelling_of_258 : spelling (IntV (pos 258)) ≡ 0 ∷ 0 ∷ 0 ∷ 0 ∷ 0 ∷ 0 ∷ 1 ∷ 2 ∷ []
spelling_of_258 = refl

pub spelling_of_bools : spelling (PairV (BoolV false) (BoolV true)) ≡ 0 ∷ 1 ∷ []
spelling_of_bools = refl

-- A projection, with the digest of two bytes that tells the type and the number of bytes: what stands inside an authenticated value
-- is in its spelling as a digest.
abbrev pub marks : Ty → List ℕ → List ℕ
marks (AuthTy t) bytes = 1 ∷ length bytes ∷ []
marks t bytes = 0 ∷ length bytes ∷ []

pub inner_digest_is_digested : shallow marks [] (AuthTy (PairTy BoolTy (AuthTy IntTy))) (PairV (BoolV true) (IntV (pos 5))) ≡ DigestV (0 ∷ 3 ∷ [])
inner_digest_is_digested = refl

pub digest_at_the_inner_type : shallow marks [] (AuthTy (AuthTy IntTy)) (IntV (pos 5)) ≡ DigestV (1 ∷ 2 ∷ [])
digest_at_the_inner_type = refl

pub parts_are_projected : shallow marks [] (PairTy (AuthTy BoolTy) (AuthTy IntTy)) (PairV (BoolV true) (IntV (pos 5))) ≡ PairV (DigestV (0 ∷ 1 ∷ [])) (DigestV (0 ∷ 8 ∷ []))
parts_are_projected = refl

pub fields_are_projected : shallow marks two_types (NamedTy 1) (of_three (TextV (0x61 ∷ []))) ≡ of_three (DigestV (0 ∷ 5 ∷ []))
fields_are_projected = refl
