-- The tokens of a text: no more than it has bytes, and names and texts within their limits; so are those with which its tree is written.
use Rattle.std.proofs.Common.{◌≡◌, ℕ, zero, suc, ◌+◌, ◌-◌, ◌≤◌, ◌^◌, Bool, true, false, cond, List, [], ◌∷◌, ◌++◌, length, Option, Some, None, refl, subst, arith}
use Rattle.std.proofs.lemmas.Bool.{leb-true}
use Rattle.std.proofs.lemmas.List.Elements.{All-nil, All-cons}
use Rattle.std.specs.Prelude.{All, flat_map, nat_le, nat_lt, ◌==◌}
use Rattle.std.specs.Char.{is_ascii_lowercase, is_ascii_uppercase, is_ascii_digit}
use Rattle.std.specs.Str.{is_utf8}
use Rattle.std.specs.Str.Parse.{digits_value}
use Rattle.core_terms.specs.declared.format.Format.{Format}
use Rattle.lexemes.specs.declared.place.Place.{Place}
use Rattle.lexemes.specs.declared.token.Keyword.{Keyword}
use Rattle.lexemes.specs.declared.token.Mark.{Mark}
use Rattle.lexemes.specs.Places.{start, behind_byte}
use Rattle.lexemes.specs.Tokens.{Token, LowerToken, UpperToken, TextToken, Tokens, Next, End, Faulty, Piece, PassedOver, Taken, Wrong, Quoted, Closed, CutOff, WrongAt, is_blank, keyword_of, name_limit, text_limit, name_piece, lower_piece, int_piece, digits_of, minus_piece, quoted_behind, text_piece, word_of, mark_of, mark_piece, first_piece, from_piece, tokens_behind, tokens, count}
use Rattle.auth_syntax.specs.Grammar.{Written, AreWritten}
use Rattle.lexemes.proofs.TokenLemmas.{IsPart, piece_is_part}

-- no more tokens than bytes
piece_counted : (piece : Piece) (at : Place) (bytes : List ℕ) (go : ℕ → Tokens) (n : ℕ) → ((size : ℕ) → count (go size) ≤ n)
    → count (from_piece piece at bytes go) ≤ suc n
piece_counted (PassedOver size) at bytes go n h = omega (arith, h size)
piece_counted (Taken token size) at bytes go n h = omega (arith, h size)
piece_counted (Wrong kind offset) at bytes go n h = omega arith

tokens_counted : (format : Format) (n : ℕ) (at : Place) (text : List ℕ) → count (tokens_behind format n at text) ≤ length text
tokens_counted format n at [] = omega arith
tokens_counted format (suc n) at (b ∷ rest) = omega (arith, tokens_counted format n (behind_byte at b) rest)
tokens_counted format zero at (b ∷ rest) =
    piece_counted (first_piece format b rest) at (b ∷ rest) (λ size. tokens_behind format (size - 1) (behind_byte at b) rest) (length rest)
    (λ size. tokens_counted format (size - 1) (behind_byte at b) rest)

written_counted : (before : Tokens) (ws : List Written) (end : Place) → AreWritten before ws end → length ws ≡ count before
written_counted (End at) [] end h = refl
written_counted (Next at token rest) [] end h = absurd h
written_counted (Faulty at kind) [] end h = absurd h
written_counted (Next at token rest) (w ∷ ws) end h = omega (arith, written_counted rest ws end h.2)
written_counted (End at) (w ∷ ws) end h = absurd h
written_counted (Faulty at kind) (w ∷ ws) end h = absurd h

-- a tree is written with no more tokens than its text has bytes
pub written_short : (format : Format) (text : List ℕ) (ws : List Written) (end : Place) → AreWritten (tokens format text) ws end → length ws ≤ length text
written_short format text ws end h = omega (arith, written_counted (tokens format text) ws end h, tokens_counted format 0 start text)

-- where a piece is a name or a text, it is within the limit
abbrev IsLimitedPiece : Piece → Type 0
IsLimitedPiece (Taken (LowerToken name) size) = (size ≡ length name) × (length name ≤ name_limit)
IsLimitedPiece (Taken (UpperToken name) size) = (size ≡ length name) × (length name ≤ name_limit)
IsLimitedPiece (Taken (TextToken bytes) size) = length bytes ≤ text_limit
IsLimitedPiece piece = Unit {0}

either_limited : (test : Bool) (x y : Piece) → (test ≡ true → IsLimitedPiece x) → IsLimitedPiece y → IsLimitedPiece (cond test x y)
either_limited true x y first other = first refl
either_limited false x y first other = other

lower_limited : (keyword : Option Keyword) (word : List ℕ) → IsLimitedPiece (lower_piece keyword word)
lower_limited (Some keyword) word = tt
lower_limited None word = either_limited (nat_le (length word) name_limit) _ _ (λ e. (refl, leb-true (length word) name_limit e)) tt

upper_limited : (word : List ℕ) → IsLimitedPiece (name_piece (UpperToken word) word)
upper_limited word = either_limited (nat_le (length word) name_limit) _ _ (λ e. (refl, leb-true (length word) name_limit e)) tt

int_limited : (minus : Bool) (digits : List ℕ) (size : ℕ) → IsLimitedPiece (int_piece minus digits size)
int_limited true digits size = either_limited (nat_le (digits_value 10 digits) (2 ^ 63)) _ _ (λ _. tt) tt
int_limited false digits size = either_limited (nat_lt (digits_value 10 digits) (2 ^ 63)) _ _ (λ _. tt) tt

minus_limited : (rest : List ℕ) → IsLimitedPiece (minus_piece rest)
minus_limited [] = tt
minus_limited (b ∷ rest) =
    either_limited (b == 62) _ _ (λ _. tt)
    (either_limited (is_ascii_digit b) _ _ (λ _. int_limited true (digits_of (b ∷ rest)) (length (digits_of (b ∷ rest)) + 1)) tt)

text_limited : (quoted : Quoted) → IsLimitedPiece (text_piece quoted)
text_limited (Closed bytes size) =
    either_limited (is_utf8 bytes) _ _ (λ _. either_limited (nat_le (length bytes) text_limit) _ _ (λ short. leb-true (length bytes) text_limit short) tt) tt
text_limited CutOff = tt
text_limited (WrongAt kind offset) = tt

mark_limited : (mark : Option Mark) → IsLimitedPiece (mark_piece mark)
mark_limited (Some mark) = tt
mark_limited None = tt

first_limited : (format : Format) (b : ℕ) (rest : List ℕ) → IsLimitedPiece (first_piece format b rest)
first_limited format b rest =
    let text = b ∷ rest in
    either_limited (is_blank b) _ _ (λ _. tt)
    (either_limited (b == 35) _ _ (λ _. tt)
    (either_limited (is_ascii_lowercase b) _ _ (λ _. lower_limited (keyword_of format (word_of text)) (word_of text))
    (either_limited (is_ascii_uppercase b) _ _ (λ _. upper_limited (word_of text))
    (either_limited (is_ascii_digit b) _ _ (λ _. int_limited false (digits_of text) (length (digits_of text)))
    (either_limited (b == 45) _ _ (λ _. minus_limited rest)
    (either_limited (b == 34) _ _ (λ _. text_limited (quoted_behind zero 1 rest)) (mark_limited (mark_of format b))))))))

-- how long a name may be, and a text
abbrev pub HasNameSize : List ℕ → Type 0
HasNameSize name = (1 ≤ length name) × (length name ≤ name_limit)

abbrev pub HasTextSize : List ℕ → Type 0
HasTextSize bytes = length bytes ≤ text_limit

-- a token that is within the limits
abbrev pub IsLimited : Token → Type 0
IsLimited (LowerToken name) = HasNameSize name
IsLimited (UpperToken name) = HasNameSize name
IsLimited (TextToken bytes) = HasTextSize bytes
IsLimited token = Unit {0}

abbrev AllLimited : Tokens → Type 0
AllLimited (Next at token rest) = IsLimited token × AllLimited rest
AllLimited (End at) = Unit {0}
AllLimited (Faulty at kind) = Unit {0}

token_limited : (token : Token) (size n : ℕ) → IsPart n (Taken token size) → IsLimitedPiece (Taken token size) → IsLimited token
token_limited (LowerToken name) size n part h = (omega (arith, part.0, h.0), h.1)
token_limited (UpperToken name) size n part h = (omega (arith, part.0, h.0), h.1)
token_limited (TextToken bytes) size n part h = h
token_limited token size n part h = tt

piece_limited : (piece : Piece) (at : Place) (bytes : List ℕ) (go : ℕ → Tokens) → IsPart (length bytes) piece → IsLimitedPiece piece
    → ((size : ℕ) → AllLimited (go size)) → AllLimited (from_piece piece at bytes go)
piece_limited (PassedOver size) at bytes go part h others = others size
piece_limited (Taken token size) at bytes go part h others = (token_limited token size (length bytes) part h, others size)
piece_limited (Wrong kind offset) at bytes go part h others = tt

tokens_limited : (format : Format) (n : ℕ) (at : Place) (text : List ℕ) → AllLimited (tokens_behind format n at text)
tokens_limited format n at [] = tt
tokens_limited format (suc n) at (b ∷ rest) = tokens_limited format n (behind_byte at b) rest
tokens_limited format zero at (b ∷ rest) =
    piece_limited (first_piece format b rest) at (b ∷ rest) (λ size. tokens_behind format (size - 1) (behind_byte at b) rest)
    (piece_is_part format (b ∷ rest) (first_piece format b rest) refl) (first_limited format b rest)
    (λ size. tokens_limited format (size - 1) (behind_byte at b) rest)

-- the name that a token is, and the text
abbrev name_of_token : Token → List (List ℕ)
name_of_token (LowerToken name) = name ∷ []
name_of_token (UpperToken name) = name ∷ []
name_of_token token = []

abbrev text_of_token : Token → List (List ℕ)
text_of_token (TextToken bytes) = bytes ∷ []
text_of_token token = []

abbrev pub name_in : Written → List (List ℕ)
name_in w = name_of_token w.token

abbrev pub text_in : Written → List (List ℕ)
text_in w = text_of_token w.token

-- the names and the texts among the tokens of a tree
abbrev pub names_written : List Written → List (List ℕ)
names_written ws = flat_map name_in ws

abbrev pub texts_written : List Written → List (List ℕ)
texts_written ws = flat_map text_in ws

name_limited : (token : Token) (others : List (List ℕ)) → IsLimited token → All HasNameSize others → All HasNameSize (name_of_token token ++ others)
name_limited (LowerToken name) others h more = All-cons HasNameSize name others h more
name_limited (UpperToken name) others h more = All-cons HasNameSize name others h more
name_limited token others h more = more

text_within : (token : Token) (others : List (List ℕ)) → IsLimited token → All HasTextSize others → All HasTextSize (text_of_token token ++ others)
text_within (TextToken bytes) others h more = All-cons HasTextSize bytes others h more
text_within token others h more = more

names_from : (before : Tokens) (ws : List Written) (end : Place) → AreWritten before ws end → AllLimited before → All HasNameSize (names_written ws)
names_from before [] end h all = All-nil HasNameSize
names_from (Next at token rest) (w ∷ ws) end h all =
    name_limited w.token (names_written ws) (subst IsLimited h.0 all.0) (names_from rest ws end h.2 all.1)
names_from (End at) (w ∷ ws) end h all = absurd h
names_from (Faulty at kind) (w ∷ ws) end h all = absurd h

texts_from : (before : Tokens) (ws : List Written) (end : Place) → AreWritten before ws end → AllLimited before → All HasTextSize (texts_written ws)
texts_from before [] end h all = All-nil HasTextSize
texts_from (Next at token rest) (w ∷ ws) end h all =
    text_within w.token (texts_written ws) (subst IsLimited h.0 all.0) (texts_from rest ws end h.2 all.1)
texts_from (End at) (w ∷ ws) end h all = absurd h
texts_from (Faulty at kind) (w ∷ ws) end h all = absurd h

-- they are within the limits, where they are those of a text
pub names_limited : (format : Format) (text : List ℕ) (ws : List Written) (end : Place) → AreWritten (tokens format text) ws end
    → All HasNameSize (names_written ws)
names_limited format text ws end h = names_from (tokens format text) ws end h (tokens_limited format 0 start text)

pub texts_limited : (format : Format) (text : List ℕ) (ws : List Written) (end : Place) → AreWritten (tokens format text) ws end
    → All HasTextSize (texts_written ws)
texts_limited format text ws end h = texts_from (tokens format text) ws end h (tokens_limited format 0 start text)
