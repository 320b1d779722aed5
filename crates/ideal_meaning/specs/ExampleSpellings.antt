-- What the example values spell, and where faulty bytes are refused.
use Rattle.std.specs.Prelude.{◌≡◌, [], ◌∷◌, ◌++◌, length, replicate, negsuc, refl}
use Rattle.std.specs.Str.{is_utf8, chars}
use lib.Utf8.{encode}
use Rattle.core_terms.specs.Types.{IntTy, TextTy, PairTy}
use Rattle.core_terms.specs.Values.{Value, IntV, TextV, PairV, size}
use Rattle.core_terms.specs.Spelling.{spelling}
use Rattle.core_terms.specs.Reading.{Good, BadAt, read}

-- the pair of -1 and the text `é`
abbrev pub minus_one_and_e : Value
minus_one_and_e = PairV (IntV (negsuc 0)) (TextV (0xC3 ∷ 0xA9 ∷ []))

pub pair_spells : spelling minus_one_and_e ≡ 0xFF ∷ 0xFF ∷ 0xFF ∷ 0xFF ∷ 0xFF ∷ 0xFF ∷ 0xFF ∷ 0xFF ∷ 0 ∷ 0 ∷ 0 ∷ 2 ∷ 0xC3 ∷ 0xA9 ∷ []
pair_spells = refl

pub pair_is_read : read 65536 [] (PairTy IntTy TextTy) (spelling minus_one_and_e) ≡ Good minus_one_and_e [] 14
unfolding is_utf8 chars encode
pair_is_read = refl

-- without its last byte the text is cut: the fault stands at the text's length
pub cut_text_is_refused : read 65536 [] (PairTy IntTy TextTy) (0xFF ∷ 0xFF ∷ 0xFF ∷ 0xFF ∷ 0xFF ∷ 0xFF ∷ 0xFF ∷ 0xFF ∷ 0 ∷ 0 ∷ 0 ∷ 2 ∷ 0xC3 ∷ []) ≡ BadAt 8
cut_text_is_refused = refl

-- one byte more: the fault stands at that byte
pub byte_behind_is_refused : read 65536 [] (PairTy IntTy TextTy) (spelling minus_one_and_e ++ 0 ∷ []) ≡ BadAt 14
unfolding is_utf8 chars encode
byte_behind_is_refused = refl

-- a text of 65,532 bytes spells as many bytes as the first format allows
abbrev pub longest_text : Value
longest_text = TextV (replicate 65532 0x61)

pub longest_text_fills_the_limit : length (spelling longest_text) ≡ 65536
longest_text_fills_the_limit = refl

pub longest_text_has_the_size : size [] TextTy longest_text ≡ 65536
longest_text_has_the_size = refl

pub longest_text_is_read : read 65536 [] TextTy (spelling longest_text) ≡ Good longest_text [] 65536
unfolding is_utf8 chars encode
longest_text_is_read = refl
