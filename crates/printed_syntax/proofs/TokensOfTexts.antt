-- The tokens of a text are tokens that a text can have; so are those of a tree that is written with them.
use Rattle.std.proofs.Common.{◌≡◌, ℕ, zero, suc, ◌+◌, ◌-◌, ◌^◌, ◌≤◌, Bool, true, false, cond, List, [], ◌∷◌, length, take, Option, Some, None, refl, sym, ap, subst, ◌∙◌, arith, one-add, lt-ltb}
use Rattle.std.proofs.lemmas.Bool.{leb-true}
use Rattle.std.specs.Prelude.{nat_le, nat_lt, ◌==◌, ◌&&◌, bytes_eq}
use Rattle.std.specs.List.{prefix_len, list_all}
use Rattle.std.specs.Char.{is_ascii_lowercase, is_ascii_uppercase, is_ascii_digit}
use Rattle.std.specs.Str.{is_utf8}
use Rattle.std.specs.Str.Parse.{digits_value}
use Rattle.std.proofs.lemmas.Str.{IsUtf8-from_is_utf8}
use Rattle.core_terms.specs.ProgramFormats.{arrays_of}
use Rattle.core_terms.specs.declared.format.Format.{Format}
use Rattle.core_terms.specs.declared.format.Format.TheVariants.{First, Second}
use Rattle.core_terms.specs.Values.{int_fits}
use Rattle.lexemes.specs.declared.place.Place.{Place}
use Rattle.lexemes.specs.declared.token.Keyword.{Keyword}
use Rattle.lexemes.specs.declared.token.Mark.{Mark}
use Rattle.lexemes.specs.declared.token.Mark.TheVariants.{LeftBracket, RightBracket}
use Rattle.lexemes.specs.Places.{behind_byte}
use Rattle.lexemes.specs.Tokens.{Token, LowerToken, UpperToken, Tokens, Next, End, Faulty, Piece, PassedOver, Taken, Wrong, Quoted, Closed, CutOff, WrongAt, is_blank, is_name_byte, keyword_text, keywords, keyword_among, keyword_of, name_limit, text_limit, name_piece, lower_piece, negative, int_piece, digits_of, minus_piece, quoted_behind, text_piece, word_of, mark_of, mark_piece, first_piece, from_piece, tokens_behind}
use Rattle.auth_syntax.specs.Grammar.{Written, AreWritten}
use Rattle.printed_syntax.specs.PrintedProgramLaws.{IsName, IsToken, AreTokens, has_keyword, has_mark}
use Rattle.lexemes.proofs.TokenLemmas.{small_is_name_byte, capital_is_name_byte}
use Rattle.lexemes.proofs.NumberLemmas.{both_true}

-- where the piece is a token, it is one that a text can have
abbrev GivesToken : Format → Piece → Type 0
GivesToken format (Taken token size) = IsToken format token
GivesToken format piece = Unit {0}

-- either way of a test
either_gives : (format : Format) (test : Bool) (x y : Piece) → (test ≡ true → GivesToken format x) → (test ≡ false → GivesToken format y)
    → GivesToken format (cond test x y)
either_gives format true x y first other = first refl
either_gives format false x y first other = other refl

-- a run of bytes that pass a test
run_passes : (p : ℕ → Bool) (bytes : List ℕ) → list_all p (take (prefix_len p bytes) bytes) ≡ true
run_passes p [] = refl
run_passes p (b ∷ bytes) = by_test (p b) refl (run_passes p bytes) where
  by_test : (test : Bool) → p b ≡ test → list_all p (take (prefix_len p bytes) bytes) ≡ true
      → list_all p (take (cond test (1 + prefix_len p bytes) zero) (b ∷ bytes)) ≡ true
  by_test true e more =
      ap (λ n. list_all p (take n (b ∷ bytes))) (one-add (prefix_len p bytes))
      ∙ ap (λ test. test && list_all p (take (prefix_len p bytes) bytes)) e ∙ more
  by_test false e more = refl

run_begins : (p : ℕ → Bool) (b : ℕ) (bytes : List ℕ) → p b ≡ true → take (prefix_len p (b ∷ bytes)) (b ∷ bytes) ≡ b ∷ take (prefix_len p bytes) bytes
run_begins p b bytes h =
    ap (λ test. take (cond test (1 + prefix_len p bytes) zero) (b ∷ bytes)) h ∙ ap (λ n. take n (b ∷ bytes)) (one-add (prefix_len p bytes))

-- names
name_is : (is_first : ℕ → Bool) (b : ℕ) (others word : List ℕ) → word ≡ b ∷ others → is_first b ≡ true → list_all is_name_byte word ≡ true
    → length word ≤ name_limit → IsName is_first word
name_is is_first b others [] e first all short = absurd (cc)
name_is is_first b others (c ∷ word) e first all short =
    let same : c ≡ b = cc in (ap is_first same ∙ first, all, short)

word_is : (is_first : ℕ → Bool) (b : ℕ) (rest : List ℕ) → is_first b ≡ true → is_name_byte b ≡ true → length (word_of (b ∷ rest)) ≤ name_limit
    → IsName is_first (word_of (b ∷ rest))
word_is is_first b rest first stands short =
    name_is is_first b (take (prefix_len is_name_byte rest) rest) (word_of (b ∷ rest)) (run_begins is_name_byte b rest stands) first
    (run_passes is_name_byte (b ∷ rest)) short

name_gives : (format : Format) (token : Token) (word : List ℕ) → (length word ≤ name_limit → IsToken format token) → GivesToken format (name_piece token word)
name_gives format token word h = either_gives format (nat_le (length word) name_limit) _ _ (λ e. h (leb-true (length word) name_limit e)) (λ _. tt)

-- a keyword that is found among some is as each of them
among_all : (p : Keyword → Bool) (all : List Keyword) (word : List ℕ) (keyword : Keyword) → list_all p all ≡ true → keyword_among all word ≡ Some keyword → p keyword ≡ true
among_all p [] word keyword h e = absurd (cc)
among_all p (first ∷ others) word keyword h e =
    let each = both_true (p first) (list_all p others) h in
    by (bytes_eq word (keyword_text first)) each.0 (λ e. among_all p others word keyword each.1 e) e
  where
    by : (test : Bool) → p first ≡ true → (keyword_among others word ≡ Some keyword → p keyword ≡ true)
        → cond test (Some first) (keyword_among others word) ≡ Some keyword → p keyword ≡ true
    by true here others e = let same : first ≡ keyword = cc in ap p (sym same) ∙ here
    by false here others e = others e

has_keywords : (format : Format) → list_all (has_keyword format) (keywords format) ≡ true
has_keywords First = refl
has_keywords Second = refl

lower_gives : (format : Format) (keyword : Option Keyword) (word : List ℕ) → keyword_of format word ≡ keyword → (length word ≤ name_limit → IsName is_ascii_lowercase word)
    → GivesToken format (lower_piece keyword word)
lower_gives format (Some keyword) word e h = among_all (has_keyword format) (keywords format) word keyword (has_keywords format) e
lower_gives format None word e h = name_gives format (LowerToken word) word (λ short. (h short, e))

-- ints
negative_fits : (n : ℕ) → n ≤ 2 ^ 63 → int_fits (negative n) ≡ true
negative_fits zero h = refl
negative_fits (suc n) h = lt-ltb n (2 ^ 63) (omega arith)

int_gives : (format : Format) (minus : Bool) (digits : List ℕ) (size : ℕ) → GivesToken format (int_piece minus digits size)
int_gives format true digits size =
    let n = digits_value 10 digits in either_gives format (nat_le n (2 ^ 63)) _ _ (λ e. negative_fits n (leb-true n (2 ^ 63) e)) (λ _. tt)
int_gives format false digits size = either_gives format (nat_lt (digits_value 10 digits) (2 ^ 63)) _ _ (λ e. e) (λ _. tt)

minus_gives : (format : Format) (rest : List ℕ) → GivesToken format (minus_piece rest)
minus_gives format [] = tt
minus_gives format (b ∷ rest) =
    either_gives format (b == 62) _ _ (λ _. refl) (λ _.
    either_gives format (is_ascii_digit b) _ _ (λ _. int_gives format true (digits_of (b ∷ rest)) (length (digits_of (b ∷ rest)) + 1)) (λ _. tt))

-- texts and marks
text_gives : (format : Format) (quoted : Quoted) → GivesToken format (text_piece quoted)
text_gives format (Closed bytes size) =
    either_gives format (is_utf8 bytes) _ _
    (λ utf8. either_gives format (nat_le (length bytes) text_limit) _ _ (λ short. (IsUtf8-from_is_utf8 bytes utf8, leb-true (length bytes) text_limit short)) (λ _. tt))
    (λ _. tt)
text_gives format CutOff = tt
text_gives format (WrongAt kind offset) = tt

abbrev GivesMark : Format → Option Mark → Type 0
GivesMark format (Some mark) = has_mark format mark ≡ true
GivesMark format None = Unit {0}

either_mark : (format : Format) (test : Bool) (x y : Option Mark) → (test ≡ true → GivesMark format x) → GivesMark format y → GivesMark format (cond test x y)
either_mark format true x y first other = first refl
either_mark format false x y first other = other

mark_given : (format : Format) (b : ℕ) → GivesMark format (mark_of format b)
mark_given format b =
    either_mark format (b == 40) _ _ (λ _. refl)
    (either_mark format (b == 41) _ _ (λ _. refl)
    (either_mark format (b == 44) _ _ (λ _. refl)
    (either_mark format (b == 59) _ _ (λ _. refl)
    (either_mark format (b == 58) _ _ (λ _. refl)
    (either_mark format (b == 61) _ _ (λ _. refl)
    (either_mark format (b == 124) _ _ (λ _. refl)
    (either_mark format (b == 91) _ _ (λ _. either_mark format (arrays_of format) (Some LeftBracket) None (λ h. h) tt)
    (either_mark format (b == 93) _ _ (λ _. either_mark format (arrays_of format) (Some RightBracket) None (λ h. h) tt) tt))))))))

mark_gives : (format : Format) (mark : Option Mark) → GivesMark format mark → GivesToken format (mark_piece mark)
mark_gives format (Some mark) h = h
mark_gives format None h = tt

first_gives : (format : Format) (b : ℕ) (rest : List ℕ) → GivesToken format (first_piece format b rest)
first_gives format b rest =
    let text = b ∷ rest in
    either_gives format (is_blank b) _ _ (λ _. tt) (λ _.
    either_gives format (b == 35) _ _ (λ _. tt) (λ _.
    either_gives format (is_ascii_lowercase b) _ _
    (λ h. lower_gives format (keyword_of format (word_of text)) (word_of text) refl (word_is is_ascii_lowercase b rest h (small_is_name_byte b h))) (λ _.
    either_gives format (is_ascii_uppercase b) _ _
    (λ h. name_gives format (UpperToken (word_of text)) (word_of text) (word_is is_ascii_uppercase b rest h (capital_is_name_byte b h))) (λ _.
    either_gives format (is_ascii_digit b) _ _ (λ _. int_gives format false (digits_of text) (length (digits_of text))) (λ _.
    either_gives format (b == 45) _ _ (λ _. minus_gives format rest) (λ _.
    either_gives format (b == 34) _ _ (λ _. text_gives format (quoted_behind zero 1 rest)) (λ _. mark_gives format (mark_of format b) (mark_given format b))))))))

-- tokens
abbrev pub AllTokens : Format → Tokens → Type 0
AllTokens format (Next at token rest) = IsToken format token × AllTokens format rest
AllTokens format (End at) = Unit {0}
AllTokens format (Faulty at kind) = Unit {0}

piece_first : (format : Format) (piece : Piece) (at : Place) (bytes : List ℕ) (go : ℕ → Tokens) → GivesToken format piece → ((size : ℕ) → AllTokens format (go size))
    → AllTokens format (from_piece piece at bytes go)
piece_first format (PassedOver size) at bytes go h others = others size
piece_first format (Taken token size) at bytes go h others = (h, others size)
piece_first format (Wrong kind offset) at bytes go h others = tt

pub tokens_all : (format : Format) (n : ℕ) (at : Place) (text : List ℕ) → AllTokens format (tokens_behind format n at text)
tokens_all format n at [] = tt
tokens_all format (suc n) at (b ∷ rest) = tokens_all format n (behind_byte at b) rest
tokens_all format zero at (b ∷ rest) =
    piece_first format (first_piece format b rest) at (b ∷ rest) (λ size. tokens_behind format (size - 1) (behind_byte at b) rest) (first_gives format b rest)
    (λ size. tokens_all format (size - 1) (behind_byte at b) rest)

pub written_all : (format : Format) (before : Tokens) (ws : List Written) (end : Place) → AreWritten before ws end → AllTokens format before → AreTokens format ws
written_all format before [] end h all = tt
written_all format (Next at token rest) (w ∷ ws) end h all = (subst (IsToken format) h.0 all.0, written_all format rest ws end h.2 all.1)
written_all format (End at) (w ∷ ws) end h all = absurd h
written_all format (Faulty at kind) (w ∷ ws) end h all = absurd h
