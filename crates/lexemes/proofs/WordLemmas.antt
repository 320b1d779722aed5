-- Words that are names, and words that are too long; the keyword of a word, among two lists of them.
use Rattle.std.proofs.Common.{◌≡◌, ℕ, ◌≤◌, Bool, true, false, cond, List, [], ◌∷◌, ◌++◌, length, take, Option, Some, None, refl, sym, ap, ◌∙◌, leb-true, le-leb, arith}
use Rattle.std.specs.Prelude.{nat_le, bytes_eq}
use Rattle.std.specs.List.{prefix_len}
use Rattle.std.proofs.lemmas.Bool.Decides.{nat_tests}
use Rattle.core_terms.specs.Names.{IsName}
use Rattle.core_terms.specs.declared.format.Format.{Format}
use Rattle.lexemes.specs.Tokens.{Token, Piece, Taken, Wrong, name_limit, name_piece, is_name_byte, keyword_text, keyword_of, keyword_among, common_keywords, array_keywords}
use Rattle.lexemes.specs.declared.token.Keyword.{Keyword}
use Rattle.lexemes.proofs.TokenLemmas.{capital_is_name_byte, small_is_name_byte, taken_is_part}
use Rattle.lexemes.specs.declared.fault.LexicalFault.TheVariants.{NameLong}

-- a name is a token
pub name_taken : (token : Token) (word : List ℕ) → IsName word → name_piece token word ≡ Taken token (length word)
name_taken token word is = ap (λ fits. cond fits (Taken token (length word)) (Wrong NameLong 0)) (le-leb (length word) name_limit is.1)

otherwise : (fits : Bool) (x y : Piece) → (fits ≡ true → ⊥) → cond fits x y ≡ y
otherwise true x y none = absurd (none refl)
otherwise false x y none = refl

-- a word that is none is too long
pub name_long : (token : Token) (word : List ℕ) → 1 ≤ length word → (IsName word → ⊥) → name_piece token word ≡ Wrong NameLong 0
name_long token word some none = otherwise (nat_le (length word) name_limit) _ _ (λ fits. none (some, leb-true (length word) name_limit fits))

-- a text that begins with a letter begins with a word of at least one byte
word_from : (text : List ℕ) (b : ℕ) (rest : List ℕ) (n : ℕ) → text ≡ b ∷ rest → n ≡ prefix_len is_name_byte text → is_name_byte b ≡ true → 1 ≤ length (take n text)
word_from text b rest n e count h = let part = taken_is_part is_name_byte b rest h in rw (count, e) (omega (arith, part.0))

pub small_word : (text : List ℕ) (b : ℕ) (rest : List ℕ) (n : ℕ) → text ≡ b ∷ rest → n ≡ prefix_len is_name_byte text → 97 ≤ b → b ≤ 122 → 1 ≤ length (take n text)
small_word text b rest n e count low high = word_from text b rest n e count (small_is_name_byte b (grind (arith, nat_tests)))

pub capital_word : (text : List ℕ) (b : ℕ) (rest : List ℕ) (n : ℕ) → text ≡ b ∷ rest → n ≡ prefix_len is_name_byte text → 65 ≤ b → b ≤ 90 → 1 ≤ length (take n text)
capital_word text b rest n e count low high = word_from text b rest n e count (capital_is_name_byte b (grind (arith, nat_tests)))

-- A keyword of both formats is one of each format; a word that is none of these is a keyword where it is one of arrays.
either_word : (test : Bool) (keyword found : Keyword) (others all : Option Keyword) → cond test (Some keyword) others ≡ Some found
    → (others ≡ Some found → all ≡ Some found) → cond test (Some keyword) all ≡ Some found
either_word true keyword found others all h go = h
either_word false keyword found others all h go = go h

neither_word : (test : Bool) (keyword : Keyword) (others all left : Option Keyword) → cond test (Some keyword) others ≡ None
    → (others ≡ None → all ≡ left) → cond test (Some keyword) all ≡ left
neither_word true keyword others all left h go = absurd (cc)
neither_word false keyword others all left h go = go h

among_first : (first second : List Keyword) (word : List ℕ) (found : Keyword) → keyword_among first word ≡ Some found → keyword_among (first ++ second) word ≡ Some found
among_first [] second word found h = absurd (cc)
among_first (keyword ∷ rest) second word found h = either_word (bytes_eq word (keyword_text keyword)) keyword found _ _ h (among_first rest second word found)

among_second : (first second : List Keyword) (word : List ℕ) → keyword_among first word ≡ None → keyword_among (first ++ second) word ≡ keyword_among second word
among_second [] second word h = refl
among_second (keyword ∷ rest) second word h = neither_word (bytes_eq word (keyword_text keyword)) keyword _ _ _ h (among_second rest second word)

pub common_found : (format : Format) (word : List ℕ) (common : Option Keyword) (found : Keyword) → common ≡ keyword_among common_keywords word → common ≡ Some found
    → Some found ≡ keyword_of format word
common_found format word common found e h = sym (among_first common_keywords (array_keywords format) word found (sym e ∙ h))

pub common_missed : (format : Format) (word : List ℕ) (common : Option Keyword) → common ≡ keyword_among common_keywords word → common ≡ None
    → keyword_among (array_keywords format) word ≡ keyword_of format word
common_missed format word common e h = sym (among_second common_keywords (array_keywords format) word (sym e ∙ h))
