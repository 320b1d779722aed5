-- A token that both formats have stands at the head of a text in the second format where it does in the first; so a text tells the same format
-- by the tokens of the format that it tells.
use Rattle.std.proofs.Common.{◌≡◌, ℕ, zero, suc, ◌-◌, Bool, true, false, cond, List, [], ◌∷◌, length, Option, Some, None, pos, negsuc, refl, sym, ap, ◌∙◌, subst, eqb-true}
use Rattle.std.specs.Bool.{Decides}
use Rattle.std.proofs.lemmas.Slice.Eq.{bytes_eq-Decides}
use Rattle.std.specs.Prelude.{nat_le, ◌==◌, bytes_eq}
use Rattle.std.specs.Char.{is_ascii_lowercase, is_ascii_uppercase, is_ascii_digit}
use Rattle.core_terms.specs.declared.format.Format.{Format}
use Rattle.core_terms.specs.declared.format.Format.TheVariants.{First, Second}
use Rattle.lexemes.specs.declared.place.Place.{Place}
use Rattle.lexemes.specs.declared.token.Keyword.{Keyword}
use Rattle.lexemes.specs.declared.token.Mark.{Mark}
use Rattle.lexemes.specs.declared.token.Mark.TheVariants.{Semicolon, LeftBracket, RightBracket}
use Rattle.lexemes.specs.Places.{start, behind_byte}
use Rattle.lexemes.specs.declared.fault.LexicalFault.TheVariants.{NameLong}
use Rattle.lexemes.specs.declared.fault.SyntaxKind.TheVariants.{Expected}
use Rattle.lexemes.specs.Readings.{Reading, Found, FaultAt, then_read, is_mark, read_mark}
use Rattle.lexemes.specs.Tokens.{Token, MarkToken, LowerToken, UpperToken, IntToken, Tokens, Next, Piece, PassedOver, Taken, Wrong, is_blank, keyword_of, name_limit, name_piece, lower_piece, int_piece, digits_of, minus_piece, quoted_behind, text_piece, word_of, mark_of, array_mark, mark_piece, first_piece, from_piece, tokens_behind, tokens}
use Rattle.lexemes.proofs.Signs.{is_mark-true}
use Rattle.lexemes.proofs.WordLemmas.{common_found}
use Rattle.auth_syntax.specs.ProgramTokens.{format_word, known_format, read_format_number, read_format, told_format}

-- a name that is no keyword of the second format, where the token is a lower name
abbrev IsCommon : Token → Type 0
IsCommon (LowerToken name) = keyword_of Second name ≡ None
IsCommon token = Unit {0}

-- what is no fault, and is such a token if it is one, stands in the second format too
abbrev IsKept : Piece → Piece → Type 0
IsKept (PassedOver size) other = other ≡ PassedOver size
IsKept (Taken token size) other = IsCommon token → other ≡ Taken token size
IsKept (Wrong kind offset) other = Unit {0}

same_kept : (piece : Piece) → IsKept piece piece
same_kept (PassedOver size) = refl
same_kept (Taken token size) = λ h. refl
same_kept (Wrong kind offset) = tt

either_kept : (test : Bool) (x y x' y' : Piece) → IsKept x x' → IsKept y y' → IsKept (cond test x y) (cond test x' y')
either_kept true x y x' y' first other = first
either_kept false x y x' y' first other = other

name_kept : (word : List ℕ) → IsKept (name_piece (LowerToken word) word) (lower_piece (keyword_of Second word) word)
name_kept word = by (nat_le (length word) name_limit) refl where
  by : (test : Bool) → nat_le (length word) name_limit ≡ test
      → IsKept (cond test (Taken (LowerToken word) (length word)) (Wrong NameLong 0)) (lower_piece (keyword_of Second word) word)
  by true e = λ none. ap (λ keyword. lower_piece keyword word) none ∙ ap (λ test. cond test (Taken (LowerToken word) (length word)) (Wrong NameLong 0)) e
  by false e = tt

lower_kept : (word : List ℕ) (keyword : Option Keyword) → keyword_of First word ≡ keyword → IsKept (lower_piece keyword word) (lower_piece (keyword_of Second word) word)
lower_kept word (Some keyword) e = λ h. ap (λ found. lower_piece found word) (sym (common_found Second word (keyword_of First word) keyword refl e))
lower_kept word None e = name_kept word

either_mark : (test : Bool) (mark : Option Mark) (y y' : Option Mark) → IsKept (mark_piece y) (mark_piece y') → IsKept (mark_piece (cond test mark y)) (mark_piece (cond test mark y'))
either_mark true mark y y' other = same_kept (mark_piece mark)
either_mark false mark y y' other = other

either_array : (test : Bool) (mark : Mark) (y y' : Option Mark) → IsKept (mark_piece y) (mark_piece y')
    → IsKept (mark_piece (cond test (array_mark First mark) y)) (mark_piece (cond test (array_mark Second mark) y'))
either_array true mark y y' other = tt
either_array false mark y y' other = other

mark_kept : (b : ℕ) → IsKept (mark_piece (mark_of First b)) (mark_piece (mark_of Second b))
mark_kept b =
    either_mark (b == 40) _ _ _
    (either_mark (b == 41) _ _ _
    (either_mark (b == 44) _ _ _
    (either_mark (b == 59) _ _ _
    (either_mark (b == 58) _ _ _
    (either_mark (b == 61) _ _ _
    (either_mark (b == 124) _ _ _
    (either_array (b == 91) LeftBracket _ _
    (either_array (b == 93) RightBracket _ _ tt))))))))

piece_kept : (b : ℕ) (rest : List ℕ) → IsKept (first_piece First b rest) (first_piece Second b rest)
piece_kept b rest =
    let text = b ∷ rest in
    either_kept (is_blank b) _ _ _ _ refl
    (either_kept (b == 35) _ _ _ _ refl
    (either_kept (is_ascii_lowercase b) _ _ _ _ (lower_kept (word_of text) (keyword_of First (word_of text)) refl)
    (either_kept (is_ascii_uppercase b) _ _ _ _ (same_kept (name_piece (UpperToken (word_of text)) (word_of text)))
    (either_kept (is_ascii_digit b) _ _ _ _ (same_kept (int_piece false (digits_of text) (length (digits_of text))))
    (either_kept (b == 45) _ _ _ _ (same_kept (minus_piece rest))
    (either_kept (b == 34) _ _ _ _ (same_kept (text_piece (quoted_behind zero 1 rest))) (mark_kept b)))))))

-- such a token at the head, and what stands behind it in both formats
record AtBothHeads (place : Place) (token : Token) (rest second : Tokens) : Type 0 where
  size : ℕ
  after : Place
  others : List ℕ
  left : rest ≡ tokens_behind First size after others
  is : second ≡ Next place token (tokens_behind Second size after others)

both_heads : (n : ℕ) (at : Place) (text : List ℕ) (place : Place) (token : Token) (rest : Tokens) → tokens_behind First n at text ≡ Next place token rest → IsCommon token
    → AtBothHeads place token rest (tokens_behind Second n at text)
both_heads n at [] place token rest e common = absurd (cc)
both_heads (suc n) at (b ∷ others) place token rest e common = both_heads n (behind_byte at b) others place token rest e common
both_heads zero at (b ∷ others) place token rest e common =
    by (first_piece First b others) (first_piece Second b others) (piece_kept b others) e (λ size e. both_heads (size - 1) (behind_byte at b) others place token rest e common)
  where
    by : (piece other : Piece) → IsKept piece other
        → from_piece piece at (b ∷ others) (λ size. tokens_behind First (size - 1) (behind_byte at b) others) ≡ Next place token rest
        → ((size : ℕ) → tokens_behind First (size - 1) (behind_byte at b) others ≡ Next place token rest
        → AtBothHeads place token rest (tokens_behind Second (size - 1) (behind_byte at b) others))
        → AtBothHeads place token rest (from_piece other at (b ∷ others) (λ size. tokens_behind Second (size - 1) (behind_byte at b) others))
    by (PassedOver size) other kept e go =
        subst (λ other. AtBothHeads place token rest (from_piece other at (b ∷ others) (λ size. tokens_behind Second (size - 1) (behind_byte at b) others))) (sym kept)
        (go size e)
    by (Taken found size) other kept e go =
        let here : at ≡ place = cc in
        let same : found ≡ token = cc in
        let behind : tokens_behind First (size - 1) (behind_byte at b) others ≡ rest = cc in
        record {
          size = size - 1;
          after = behind_byte at b;
          others = others;
          left = sym behind;
          is = ap (λ other. from_piece other at (b ∷ others) (λ size. tokens_behind Second (size - 1) (behind_byte at b) others)) (kept (subst IsCommon (sym same) common))
              ∙ ap (λ place. Next place found (tokens_behind Second (size - 1) (behind_byte at b) others)) here
              ∙ ap (λ token. Next place token (tokens_behind Second (size - 1) (behind_byte at b) others)) same;
        }
    by (Wrong kind offset) other kept e go = absurd (cc)

-- the tokens of the head of a program that tells the second format
abbrev head_of : Place → Place → Place → Tokens → Tokens
head_of a b c rest = Next a (LowerToken format_word) (Next b (IntToken (pos 2)) (Next c (MarkToken Semicolon) rest))

-- what is read behind the number of a format, and behind the word
abbrev behind_number : Format → Tokens → Reading (Option Format)
behind_number format tokens = then_read (read_mark Semicolon tokens) (λ _ tokens. Found (Some format) tokens)

abbrev behind_word : Tokens → Reading (Option Format)
behind_word tokens = then_read (read_format_number tokens) behind_number

-- a mark, where the test of it says this
abbrev tested : Bool → Place → Tokens → Reading (Unit {0})
tested test c rest = cond test (Found tt rest) (FaultAt Expected c)

ends_head : (format : Format) (tokens : Tokens) → told_format (behind_number format tokens) ≡ Second
    → (format ≡ Second) × ((c : Place) × (rest : Tokens) × (tokens ≡ Next c (MarkToken Semicolon) rest))
ends_head format (Next c (MarkToken mark) rest) e = by (is_mark Semicolon mark) refl e where
  by : (test : Bool) → is_mark Semicolon mark ≡ test
      → told_format (then_read (tested test c rest) (λ _ tokens. Found (Some format) tokens)) ≡ Second
      → (format ≡ Second) × ((c' : Place) × (rest' : Tokens) × (Next c (MarkToken mark) rest ≡ Next c' (MarkToken Semicolon) rest'))
  by true is e = (e, (c, rest, ap (λ mark. Next c (MarkToken mark) rest) (sym (is_mark-true Semicolon mark is))))
  by false is e = absurd (cc)
ends_head format tokens e = absurd (cc)

numbers_head : (tokens : Tokens) → told_format (behind_word tokens) ≡ Second
    → (b c : Place) × (rest : Tokens) × (tokens ≡ Next b (IntToken (pos 2)) (Next c (MarkToken Semicolon) rest))
numbers_head (Next b (IntToken (pos n)) rest) e = by (n == 1) (n == 2) refl refl e where
  by : (one two : Bool) → n == 1 ≡ one → n == 2 ≡ two
      → told_format (then_read (known_format (cond one (Some First) (cond two (Some Second) None)) b rest) behind_number) ≡ Second
      → (b' c : Place) × (rest' : Tokens) × (Next b (IntToken (pos n)) rest ≡ Next b' (IntToken (pos 2)) (Next c (MarkToken Semicolon) rest'))
  by true two is is' e = let ended = ends_head First rest e in let no : First ≡ Second = ended.0 in absurd (cc)
  by false true is is' e =
      let ended = ends_head Second rest e in
      let number : n ≡ 2 = eqb-true n 2 is' in
      (b, ended.1.0, ended.1.1, ap (λ n. Next b (IntToken (pos n)) rest) number ∙ ap (Next b (IntToken (pos 2))) ended.1.2)
  by false false is is' e = absurd (cc)
numbers_head (Next b (IntToken (negsuc n)) rest) e = absurd (cc)
numbers_head tokens e = absurd (cc)

is_head : (tokens : Tokens) → told_format (read_format tokens) ≡ Second → (a b c : Place) × (rest : Tokens) × (tokens ≡ head_of a b c rest)
is_head (Next a (LowerToken name) rest) e = by (bytes_eq name format_word) (bytes_eq-Decides name format_word) e where
  by : (test : Bool) → Decides test (name ≡ format_word)
      → told_format (then_read (cond test (Found true rest) (Found false (Next a (LowerToken name) rest)))
      (λ stands tokens. cond stands (behind_word tokens) (Found None tokens))) ≡ Second
      → (a' b c : Place) × (rest' : Tokens) × (Next a (LowerToken name) rest ≡ head_of a' b c rest')
  by true is e =
      let numbered = numbers_head rest e in
      (a, numbered.0, numbered.1, numbered.2, ap (λ name. Next a (LowerToken name) rest) (is.0 refl) ∙ ap (Next a (LowerToken format_word)) numbered.3)
  by false is e = absurd (cc)
is_head tokens e = absurd (cc)

-- so the head is the same by the tokens of the second format, token by token
ending_again : (a b c : Place) (rest first second : Tokens) → AtBothHeads b (IntToken (pos 2)) (Next c (MarkToken Semicolon) rest) second
    → first ≡ Next a (LowerToken format_word) second → (left : Tokens) × (first ≡ head_of a b c left)
ending_again a b c rest first second number is =
    let ending = both_heads number.size number.after number.others c (MarkToken Semicolon) rest (sym number.left) tt in
    (tokens_behind Second ending.size ending.after ending.others, is ∙ ap (Next a (LowerToken format_word)) (number.is ∙ ap (Next b (IntToken (pos 2))) ending.is))

number_again : (a b c : Place) (rest first : Tokens) → AtBothHeads a (LowerToken format_word) (Next b (IntToken (pos 2)) (Next c (MarkToken Semicolon) rest)) first
    → (left : Tokens) × (first ≡ head_of a b c left)
number_again a b c rest first word =
    ending_again a b c rest first (tokens_behind Second word.size word.after word.others)
    (both_heads word.size word.after word.others b (IntToken (pos 2)) (Next c (MarkToken Semicolon) rest) (sym word.left) tt) word.is

second_again : (text : List ℕ) → told_format (read_format (tokens First text)) ≡ Second → told_format (read_format (tokens Second text)) ≡ Second
second_again text e =
    let head = is_head (tokens First text) e in
    let again = number_again head.0 head.1 head.2 head.3 (tokens Second text)
    (both_heads zero start text head.0 (LowerToken format_word) (Next head.1 (IntToken (pos 2)) (Next head.2 (MarkToken Semicolon) head.3)) head.4 refl) in
    ap (λ ts. told_format (read_format ts)) again.1

-- the format that a text tells, by its own tokens
pub told_again : (format : Format) (text : List ℕ) → told_format (read_format (tokens First text)) ≡ format → told_format (read_format (tokens format text)) ≡ format
told_again First text e = e
told_again Second text e = second_again text e
