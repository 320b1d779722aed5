-- The tokens of a text, piece by piece.
use Rattle.std.proofs.Common.{◌≡◌, ℕ, zero, suc, ◌+◌, ◌-◌, ◌<◌, ◌≤◌, Bool, true, false, List, [], ◌∷◌, length, drop, take, Option, Some, None, refl, sym, ap, subst, arith, cond, ◌∙◌, sub-one}
use Rattle.std.proofs.lemmas.Bool.{eqb-true}
use Rattle.std.proofs.lemmas.Bool.Decides.{nat_tests}
use Rattle.std.proofs.lemmas.List.Sums.{prefix_len-le-length}
use Rattle.std.proofs.lemmas.List.Folds.{length-prefix_len}
use Rattle.std.specs.Prelude.{option_map, ◌==◌, nat_le, nat_lt, ◌^◌}
use Rattle.std.specs.List.{prefix_len}
use Rattle.std.specs.Char.{is_ascii_lowercase, is_ascii_uppercase, is_ascii_digit}
use Rattle.std.specs.Str.Parse.{digits_value}
use Rattle.std.specs.Str.{is_utf8}
use Rattle.core_terms.specs.declared.format.Format.{Format}
use Rattle.lexemes.specs.Places.{behind, behind_byte}
use Rattle.lexemes.specs.Tokens.{Token, Next, End, Faulty, is_in_line, is_name_byte, is_blank, mark_of, mark_piece, word_of, name_limit, name_piece, lower_piece, LowerToken, int_piece, digits_of, minus_piece, Escape, escape_of, is_control, Quoted, Closed, CutOff, WrongAt, put, with_escape, quoted_behind, text_piece, text_limit, Piece, PassedOver, Taken, Wrong, first_piece, from_piece, tokens_behind, tokens_from}
use Rattle.lexemes.specs.PieceViews.{head_piece, piece_view}
use Rattle.lexemes.specs.declared.lexer.pieces.Piece.{Piece as PieceCode}
use Rattle.lexemes.specs.declared.fault.LexicalFault.{LexicalFault}
use Rattle.lexemes.specs.declared.place.Place.{Place}
use Rattle.lexemes.specs.declared.token.Keyword.{Keyword}
use Rattle.lexemes.specs.declared.token.Mark.{Mark}

-- A piece has at least one byte of a text of so many, and no more than all; a fault stands within it.
abbrev pub IsPart : ℕ → Piece → Type 0
IsPart n (PassedOver size) = (0 < size) × (size ≤ n)
IsPart n (Taken token size) = (0 < size) × (size ≤ n)
IsPart n (Wrong kind offset) = offset ≤ n

-- either way of a test
either_part : (n : ℕ) (test : Bool) (x y : Piece) → (test ≡ true → IsPart n x) → (test ≡ false → IsPart n y) → IsPart n (cond test x y)
either_part n true x y first other = first refl
either_part n false x y first other = other refl

-- what the tests of bytes say of one another
pub small_is_name_byte : (b : ℕ) → is_ascii_lowercase b ≡ true → is_name_byte b ≡ true
small_is_name_byte b h = grind (arith, nat_tests)

pub capital_is_name_byte : (b : ℕ) → is_ascii_uppercase b ≡ true → is_name_byte b ≡ true
capital_is_name_byte b h = grind (arith, nat_tests)

hash_is_in_line : (b : ℕ) → (b == 35) ≡ true → is_in_line b ≡ true
hash_is_in_line b h = let e : b ≡ 35 = eqb-true b 35 h in rw e

-- a run that the first byte begins
prefix_is_part : (p : ℕ → Bool) (b : ℕ) (rest : List ℕ) → p b ≡ true
    → (0 < prefix_len p (b ∷ rest)) × (prefix_len p (b ∷ rest) ≤ length (b ∷ rest))
prefix_is_part p b rest h = (rw h (omega arith), prefix_len-le-length p (b ∷ rest))

pub taken_is_part : (p : ℕ → Bool) (b : ℕ) (rest : List ℕ) → p b ≡ true
    → let run = take (prefix_len p (b ∷ rest)) (b ∷ rest) in (0 < length run) × (length run ≤ length (b ∷ rest))
taken_is_part p b rest h =
    let part = prefix_is_part p b rest h in
    let e = length-prefix_len p (b ∷ rest) in
    (subst (λ n. 0 < n) (sym e) part.0, subst (λ n. n ≤ length (b ∷ rest)) (sym e) part.1)

-- a word, an int and a mark are parts
name_is_part : (token : Token) (word : List ℕ) (n : ℕ) → (0 < length word) × (length word ≤ n) → IsPart n (name_piece token word)
name_is_part token word n h = either_part n (nat_le (length word) name_limit) _ _ (λ _. h) (λ _. omega arith)

lower_is_part : (keyword : Option Keyword) (word : List ℕ) (n : ℕ) → (0 < length word) × (length word ≤ n) → IsPart n (lower_piece keyword word)
lower_is_part (Some keyword) word n h = h
lower_is_part None word n h = name_is_part (LowerToken word) word n h

int_is_part : (minus : Bool) (digits : List ℕ) (size n : ℕ) → (0 < size) × (size ≤ n) → IsPart n (int_piece minus digits size)
int_is_part true digits size n h = either_part n (nat_le (digits_value 10 digits) (2 ^ 63)) _ _ (λ _. h) (λ _. omega arith)
int_is_part false digits size n h = either_part n (nat_lt (digits_value 10 digits) (2 ^ 63)) _ _ (λ _. h) (λ _. omega arith)

minus_is_part : (rest : List ℕ) → IsPart (suc (length rest)) (minus_piece rest)
minus_is_part [] = omega arith
minus_is_part (b ∷ rest) =
    let n = suc (length (b ∷ rest)) in
    either_part n (b == 62) _ _ (λ _. (omega arith, omega arith)) (λ _.
    either_part n (is_ascii_digit b) _ _
    (λ h. let run = taken_is_part is_ascii_digit b rest h in int_is_part true (digits_of (b ∷ rest)) _ n (omega arith, omega arith))
    (λ _. omega arith))

mark_is_part : (n : ℕ) (mark : Option Mark) → IsPart (suc n) (mark_piece mark)
mark_is_part n None = omega arith
mark_is_part n (Some mark) = (omega arith, omega arith)

-- a text, of so many bytes from its opening quote on
abbrev IsQuotedPart : ℕ → Quoted → Type 0
IsQuotedPart n (Closed bytes size) = (0 < size) × (size ≤ n)
IsQuotedPart n CutOff = Unit {0}
IsQuotedPart n (WrongAt kind offset) = offset ≤ n

put_is_part : (n b : ℕ) (quoted : Quoted) → IsQuotedPart n quoted → IsQuotedPart n (put b quoted)
put_is_part n b (Closed bytes size) h = h
put_is_part n b CutOff h = h
put_is_part n b (WrongAt kind offset) h = h

either_quoted : (n : ℕ) (test : Bool) (x y : Quoted) → IsQuotedPart n x → IsQuotedPart n y → IsQuotedPart n (cond test x y)
either_quoted n true x y h h' = h
either_quoted n false x y h h' = h'

escape_is_part : (n : ℕ) (escape : Option Escape) (offset : ℕ) (go : ℕ → Quoted) → offset ≤ n → ((size : ℕ) → IsQuotedPart n (go size))
    → IsQuotedPart n (with_escape escape offset go)
escape_is_part n None offset go h h' = h
escape_is_part n (Some escape) offset go h h' = put_is_part n escape.byte (go escape.size) (h' escape.size)

quoted_is_part : (n skipped offset : ℕ) (bytes : List ℕ) → offset + length bytes ≤ n → IsQuotedPart n (quoted_behind skipped offset bytes)
quoted_is_part n skipped offset [] h = tt
quoted_is_part n (suc skipped) offset (b ∷ rest) h = quoted_is_part n skipped (offset + 1) rest (omega arith)
quoted_is_part n zero offset (b ∷ rest) h =
    either_quoted n (b == 34) _ _ (omega arith, omega arith)
    (either_quoted n (b == 92) _ _
    (escape_is_part n (escape_of rest) offset _ (omega arith) (λ size. quoted_is_part n size (offset + 1) rest (omega arith)))
    (either_quoted n (is_control b) _ _ (omega arith)
    (put_is_part n b _ (quoted_is_part n zero (offset + 1) rest (omega arith)))))

text_is_part : (n : ℕ) (quoted : Quoted) → IsQuotedPart n quoted → IsPart n (text_piece quoted)
text_is_part n (Closed bytes size) h =
    either_part n (is_utf8 bytes) _ _ (λ _. either_part n (nat_le (length bytes) text_limit) _ _ (λ _. h) (λ _. omega arith)) (λ _. omega arith)
text_is_part n CutOff h = omega arith
text_is_part n (WrongAt kind offset) h = h

-- so is the first piece
first_piece-is_part : (format : Format) (b : ℕ) (rest : List ℕ) → IsPart (length (b ∷ rest)) (first_piece format b rest)
first_piece-is_part format b rest =
    let text = b ∷ rest in
    let n = length text in
    either_part n (is_blank b) _ _ (λ _. (omega arith, omega arith)) (λ _.
    either_part n (b == 35) _ _ (λ h. prefix_is_part is_in_line b rest (hash_is_in_line b h)) (λ _.
    either_part n (is_ascii_lowercase b) _ _
    (λ h. lower_is_part _ (word_of text) n (taken_is_part is_name_byte b rest (small_is_name_byte b h))) (λ _.
    either_part n (is_ascii_uppercase b) _ _
    (λ h. name_is_part _ (word_of text) n (taken_is_part is_name_byte b rest (capital_is_name_byte b h))) (λ _.
    either_part n (is_ascii_digit b) _ _
    (λ h. int_is_part false (digits_of text) _ n (taken_is_part is_ascii_digit b rest h)) (λ _.
    either_part n (b == 45) _ _ (λ _. minus_is_part rest) (λ _.
    either_part n (b == 34) _ _ (λ _. text_is_part n _ (quoted_is_part n zero 1 rest (omega arith)))
    (λ _. mark_is_part (length rest) (mark_of format b))))))))

-- the piece that the code has found is within the text
pub piece_is_part : (format : Format) (text : List ℕ) (piece : Piece) → Some piece ≡ head_piece format text → IsPart (length text) piece
piece_is_part format [] piece h = absurd (cc)
piece_is_part format (b ∷ rest) piece h =
    let e : first_piece format b rest ≡ piece = cc in subst (IsPart (length (b ∷ rest))) e (first_piece-is_part format b rest)

-- the tokens behind some bytes are those of the text without them
tokens_behind-drop : (format : Format) (n : ℕ) (at : Place) (text : List ℕ) → tokens_behind format n at text ≡ tokens_from format (behind at (take n text)) (drop n text)
tokens_behind-drop format zero at [] = refl
tokens_behind-drop format (suc n) at [] = refl
tokens_behind-drop format zero at (b ∷ rest) = refl
tokens_behind-drop format (suc n) at (b ∷ rest) = tokens_behind-drop format n (behind_byte at b) rest

-- behind a byte, so many bytes less are passed
behind_first : (format : Format) (b : ℕ) (rest : List ℕ) (size : ℕ) (at : Place) → 0 < size
    → tokens_behind format (size - 1) (behind_byte at b) rest ≡ tokens_from format (behind at (take size (b ∷ rest))) (drop size (b ∷ rest))
behind_first format b rest zero at h = absurd (omega arith)
behind_first format b rest (suc n) at h = rw sub-one (tokens_behind-drop format n (behind_byte at b) rest)

-- the tokens of a text are those from its first piece on
pub tokens-passed_over : (format : Format) (text : List ℕ) (at : Place) (size : ℕ) → Some (PassedOver size) ≡ head_piece format text
    → tokens_from format at text ≡ tokens_from format (behind at (take size text)) (drop size text)
tokens-passed_over format [] at size h = absurd (cc)
tokens-passed_over format (b ∷ rest) at size h =
    let part = piece_is_part format (b ∷ rest) (PassedOver size) h in
    let e : first_piece format b rest ≡ PassedOver size = cc in
    ap (λ piece. from_piece piece at (b ∷ rest) (λ size. tokens_behind format (size - 1) (behind_byte at b) rest)) e
    ∙ behind_first format b rest size at part.0

pub tokens-taken : (format : Format) (text : List ℕ) (at : Place) (token : Token) (size : ℕ) → Some (Taken token size) ≡ head_piece format text
    → tokens_from format at text ≡ Next at token (tokens_from format (behind at (take size text)) (drop size text))
tokens-taken format [] at token size h = absurd (cc)
tokens-taken format (b ∷ rest) at token size h =
    let part = piece_is_part format (b ∷ rest) (Taken token size) h in
    let e : first_piece format b rest ≡ Taken token size = cc in
    ap (λ piece. from_piece piece at (b ∷ rest) (λ size. tokens_behind format (size - 1) (behind_byte at b) rest)) e
    ∙ ap (Next at token) (behind_first format b rest size at part.0)

pub tokens-wrong : (format : Format) (text : List ℕ) (at : Place) (kind : LexicalFault) (offset : ℕ) → Some (Wrong kind offset) ≡ head_piece format text
    → tokens_from format at text ≡ Faulty (behind at (take offset text)) kind
tokens-wrong format [] at kind offset h = absurd (cc)
tokens-wrong format (b ∷ rest) at kind offset h =
    let e : first_piece format b rest ≡ Wrong kind offset = cc in
    ap (λ piece. from_piece piece at (b ∷ rest) (λ size. tokens_behind format (size - 1) (behind_byte at b) rest)) e

pub tokens-end : (format : Format) (text : List ℕ) (at : Place) → None ≡ head_piece format text → tokens_from format at text ≡ End at
tokens-end format [] at h = refl
tokens-end format (b ∷ rest) at h = absurd (cc)

-- the piece that the code has found
pub found_piece : (format : Format) (text : List ℕ) (found : Option PieceCode) (first piece : PieceCode) → option_map piece_view found ≡ head_piece format text
    → found ≡ Some first → first ≡ piece → Some (piece_view piece) ≡ head_piece format text
found_piece format text found first piece h e e' = sym (ap (option_map piece_view) (e ∙ ap (λ p. Some p) e')) ∙ h

-- the tokens left at the same place of the same text
pub same_left : (format of_lexer : Format) (at other : Place) (text rest : List ℕ) → of_lexer ≡ format → other ≡ at → rest ≡ text → tokens_from format at text ≡ tokens_from of_lexer other rest
same_left format of_lexer at other text rest same e e' = cc
