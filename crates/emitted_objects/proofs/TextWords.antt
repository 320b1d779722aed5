-- The names among the tokens of a text are words: an upper one begins with a capital, a lower one with a small letter and is no keyword.
use Rattle.std.proofs.Common.{◌≡◌, ℕ, zero, suc, ◌+◌, ◌-◌, ◌^◌, Bool, true, false, cond, List, [], ◌∷◌, ◌++◌, length, take, is_none, Option, Some, None, refl, sym, ap, ◌∙◌, subst, one-add, bytes_eq}
use Rattle.std.specs.Prelude.{nat_le, nat_lt, ◌==◌}
use Rattle.std.specs.Char.{is_ascii_digit, is_ascii_lowercase, is_ascii_uppercase}
use Rattle.std.specs.List.{list_all, prefix_len}
use Rattle.std.specs.Str.{is_utf8}
use Rattle.std.specs.Str.Parse.{digits_value}
use Rattle.core_terms.proofs.TypingComplete.{both}
use Rattle.core_terms.specs.declared.format.Format.{Format}
use Rattle.core_terms.specs.declared.format.Format.TheVariants.{First}
use Rattle.lexemes.specs.declared.place.Place.{Place}
use Rattle.lexemes.specs.declared.token.Keyword.{Keyword}
use Rattle.lexemes.specs.Places.{behind_byte}
use Rattle.lexemes.specs.Tokens.{Token, LowerToken, UpperToken, Tokens, Next, End, Faulty, Piece, PassedOver, Taken, Wrong, Quoted, Closed, CutOff, WrongAt, common_keywords, array_keywords, is_blank, is_name_byte, keyword_among, keyword_of, keyword_text, name_limit, text_limit, name_piece, lower_piece, int_piece, digits_of, minus_piece, quoted_behind, text_piece, word_of, mark_of, mark_piece, first_piece, from_piece, tokens_behind}
use Rattle.lexemes.proofs.TokenLemmas.{capital_is_name_byte, small_is_name_byte}
use Rattle.object_meaning.specs.ReadObjects.{is_lower_name, is_name_from, is_upper_name}

-- a token that is a name is a word
abbrev pub IsWord : Token → Type 0
IsWord (LowerToken name) = is_lower_name name ≡ true
IsWord (UpperToken name) = is_upper_name name ≡ true
IsWord token = Unit {0}

-- the longest run of name bytes has no others
run_passes : (p : ℕ → Bool) (xs : List ℕ) → list_all p (take (prefix_len p xs) xs) ≡ true
run_passes p [] = refl
run_passes p (x ∷ xs) = by (p x) refl (run_passes p xs)
  where
    by : (b : Bool) → p x ≡ b → list_all p (take (prefix_len p xs) xs) ≡ true → list_all p (take (cond b (1 + prefix_len p xs) 0) (x ∷ xs)) ≡ true
    by true passes others = ap (λ n. list_all p (take n (x ∷ xs))) (one-add (prefix_len p xs)) ∙ both _ _ passes others
    by false fails others = refl

word_is : (b : ℕ) (rest : List ℕ) → is_name_byte b ≡ true → word_of (b ∷ rest) ≡ b ∷ word_of rest
word_is b rest passes =
    ap (λ c. take (cond c (1 + prefix_len is_name_byte rest) 0) (b ∷ rest)) passes ∙ ap (λ n. take n (b ∷ rest)) (one-add (prefix_len is_name_byte rest))

-- a word that isn't too long, by its first byte
word_formed : (starts : ℕ → Bool) (b : ℕ) (rest : List ℕ) → starts b ≡ true → is_name_byte b ≡ true
    → nat_le (length (word_of (b ∷ rest))) name_limit ≡ true → is_name_from starts (word_of (b ∷ rest)) ≡ true
word_formed starts b rest begins passes =
    subst (λ word. nat_le (length word) name_limit ≡ true → is_name_from starts word ≡ true) (sym (word_is b rest passes))
    (λ short. both _ _ begins (both _ _ (run_passes is_name_byte rest) short))

-- a word that is no keyword of a format is none of the first
none_of_front : (front back : List Keyword) (word : List ℕ) → keyword_among (front ++ back) word ≡ None → keyword_among (front ++ []) word ≡ None
none_of_front [] back word none = refl
none_of_front (keyword ∷ front) back word none = by (bytes_eq word (keyword_text keyword)) (none_of_front front back word) none
  where
    by : (b : Bool) → (keyword_among (front ++ back) word ≡ None → keyword_among (front ++ []) word ≡ None)
        → cond b (Some keyword) (keyword_among (front ++ back) word) ≡ None → cond b (Some keyword) (keyword_among (front ++ []) word) ≡ None
    by true others none = absurd (cc)
    by false others none = others none

no_keyword : (format : Format) (word : List ℕ) → keyword_of format word ≡ None → is_none (keyword_of First word) ≡ true
no_keyword format word none = ap is_none (none_of_front common_keywords (array_keywords format) word none)

-- piece by piece
abbrev IsWordPiece : Piece → Type 0
IsWordPiece (Taken token size) = IsWord token
IsWordPiece piece = Unit {0}

either_word : (test : Bool) (x y : Piece) → (test ≡ true → IsWordPiece x) → (test ≡ false → IsWordPiece y) → IsWordPiece (cond test x y)
either_word true x y first other = first refl
either_word false x y first other = other refl

upper_word : (b : ℕ) (rest : List ℕ) → is_ascii_uppercase b ≡ true → IsWordPiece (name_piece (UpperToken (word_of (b ∷ rest))) (word_of (b ∷ rest)))
upper_word b rest capital =
    either_word (nat_le (length (word_of (b ∷ rest))) name_limit) _ _ (word_formed is_ascii_uppercase b rest capital (capital_is_name_byte b capital)) (λ _. tt)

lower_word : (format : Format) (b : ℕ) (rest : List ℕ) → is_ascii_lowercase b ≡ true
    → IsWordPiece (lower_piece (keyword_of format (word_of (b ∷ rest))) (word_of (b ∷ rest)))
lower_word format b rest small = by (keyword_of format (word_of (b ∷ rest))) refl
  where
    by : (found : Option Keyword) → keyword_of format (word_of (b ∷ rest)) ≡ found → IsWordPiece (lower_piece found (word_of (b ∷ rest)))
    by (Some keyword) is = tt
    by None is =
        either_word (nat_le (length (word_of (b ∷ rest))) name_limit) _ _
        (λ short. both _ _ (word_formed is_ascii_lowercase b rest small (small_is_name_byte b small) short) (no_keyword format (word_of (b ∷ rest)) is)) (λ _. tt)

int_word : (minus : Bool) (digits : List ℕ) (size : ℕ) → IsWordPiece (int_piece minus digits size)
int_word true digits size = either_word (nat_le (digits_value 10 digits) (2 ^ 63)) _ _ (λ _. tt) (λ _. tt)
int_word false digits size = either_word (nat_lt (digits_value 10 digits) (2 ^ 63)) _ _ (λ _. tt) (λ _. tt)

minus_word : (rest : List ℕ) → IsWordPiece (minus_piece rest)
minus_word [] = tt
minus_word (b ∷ rest) =
    either_word (b == 62) _ _ (λ _. tt) (λ _.
    either_word (is_ascii_digit b) _ _ (λ _. int_word true (digits_of (b ∷ rest)) (length (digits_of (b ∷ rest)) + 1)) (λ _. tt))

text_word : (quoted : Quoted) → IsWordPiece (text_piece quoted)
text_word (Closed bytes size) =
    either_word (is_utf8 bytes) _ _ (λ _. either_word (nat_le (length bytes) text_limit) _ _ (λ _. tt) (λ _. tt)) (λ _. tt)
text_word CutOff = tt
text_word (WrongAt kind offset) = tt

mark_word : (format : Format) (b : ℕ) → IsWordPiece (mark_piece (mark_of format b))
mark_word format b = elim (mark_of format b) as (λ found. IsWordPiece (mark_piece found)) [ Some found ↦ tt | None ↦ tt ]

first_word : (format : Format) (b : ℕ) (rest : List ℕ) → IsWordPiece (first_piece format b rest)
first_word format b rest =
    let text = b ∷ rest in
    either_word (is_blank b) _ _ (λ _. tt) (λ _.
    either_word (b == 35) _ _ (λ _. tt) (λ _.
    either_word (is_ascii_lowercase b) _ _ (λ small. lower_word format b rest small) (λ _.
    either_word (is_ascii_uppercase b) _ _ (λ capital. upper_word b rest capital) (λ _.
    either_word (is_ascii_digit b) _ _ (λ _. int_word false (digits_of text) (length (digits_of text))) (λ _.
    either_word (b == 45) _ _ (λ _. minus_word rest) (λ _.
    either_word (b == 34) _ _ (λ _. text_word (quoted_behind zero 1 rest)) (λ _. mark_word format b)))))))

abbrev pub AreWords : Tokens → Type 0
AreWords (Next at token rest) = IsWord token × AreWords rest
AreWords (End at) = Unit {0}
AreWords (Faulty at kind) = Unit {0}

piece_words : (piece : Piece) (at : Place) (bytes : List ℕ) (go : ℕ → Tokens) → IsWordPiece piece → ((size : ℕ) → AreWords (go size))
    → AreWords (from_piece piece at bytes go)
piece_words (PassedOver size) at bytes go h others = others size
piece_words (Taken token size) at bytes go h others = (h, others size)
piece_words (Wrong kind offset) at bytes go h others = tt

-- the names among the tokens
pub tokens_are_words : (format : Format) (n : ℕ) (at : Place) (text : List ℕ) → AreWords (tokens_behind format n at text)
tokens_are_words format n at [] = tt
tokens_are_words format (suc n) at (b ∷ rest) = tokens_are_words format n (behind_byte at b) rest
tokens_are_words format zero at (b ∷ rest) =
    piece_words (first_piece format b rest) at (b ∷ rest) (λ size. tokens_behind format (size - 1) (behind_byte at b) rest) (first_word format b rest)
    (λ size. tokens_are_words format (size - 1) (behind_byte at b) rest)
