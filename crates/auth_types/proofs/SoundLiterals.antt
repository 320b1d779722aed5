-- The literals of a tree that a text has are those of its tokens: ints of 64 bits, and texts of UTF-8 within their limit.
use Rattle.std.proofs.Common.{◌≡◌, ℕ, zero, suc, ◌+◌, ◌-◌, ◌^◌, ◌≤◌, Bool, true, false, cond, List, [], ◌∷◌, ◌++◌, length, Some, None, refl, subst, arith, lt-ltb}
use Rattle.std.specs.Prelude.{All, IsUtf8, nat_le, nat_lt, ◌==◌}
use Rattle.std.specs.Char.{is_ascii_lowercase, is_ascii_uppercase, is_ascii_digit}
use Rattle.std.specs.Str.{is_utf8}
use Rattle.std.specs.Str.Parse.{digits_value}
use Rattle.std.proofs.lemmas.Bool.{leb-true}
use Rattle.std.proofs.lemmas.List.Elements.{All-cons, All-nil}
use Rattle.std.proofs.lemmas.Str.{IsUtf8-from_is_utf8}
use Rattle.core_terms.specs.Values.{int_fits}
use Rattle.core_terms.specs.declared.format.Format.{Format}
use Rattle.lexemes.specs.declared.place.Place.{Place}
use Rattle.lexemes.specs.declared.token.Mark.TheVariants.{LeftParenthesis}
use Rattle.lexemes.specs.Places.{behind_byte}
use Rattle.lexemes.specs.Tokens.{Token, LowerToken, UpperToken, IntToken, TextToken, Tokens, Next, End, Faulty, Piece, PassedOver, Taken, Wrong, Quoted, Closed, CutOff, WrongAt, is_blank, keyword_of, name_limit, text_limit, name_piece, lower_piece, negative, int_piece, digits_of, minus_piece, quoted_behind, text_piece, word_of, mark_of, mark_piece, first_piece, from_piece, tokens_behind}
use Rattle.auth_syntax.specs.Syntax.{ExpSyntax, UnitSyntax, BoolSyntax, IntSyntax, TextSyntax, LocalSyntax, PairSyntax, UnarySyntax, BinarySyntax, CallSyntax, ConstructorSyntax, OperateSyntax, LetSyntax, IfSyntax, MatchSyntax, ExpsSyntax, NoExp, AndExp, ArmsSyntax, NoArmSyntax, AndArmSyntax, DeclarationSyntax, TypeDeclaration, StateDeclaration, FunctionDeclaration, FunctionSyntax, Program}
use Rattle.auth_syntax.specs.Grammar.{Written, AreWritten, arms_tokens, brackets, declaration_tokens, declarations_tokens, expression_tokens, expressions_tokens, format_tokens, in_parentheses, mark, names_tokens, parameters_tokens, program_tokens, type_tokens}
use Rattle.auth_syntax.specs.ProgramTokens.{text_tokens}
use Rattle.auth_syntax.specs.Parsing.{parsed, Tree}
use Rattle.auth_syntax.proofs.Exact.{parsed_is_written}
use Rattle.declared_types.specs.WrittenTypes.{functions_in}
use Rattle.auth_types.specs.CheckedLaws.{ArmsHaveGoodLiterals, HasGoodLiterals, HaveGoodLiterals, ProgramHasGoodLiterals}

-- a literal of a token
abbrev IsGood : Token → Type 0
IsGood (IntToken z) = int_fits z ≡ true
IsGood (TextToken bytes) = IsUtf8 bytes × (length bytes ≤ 65532)
IsGood token = Unit {0}

-- The tokens of a text, piece by piece.
abbrev IsGoodPiece : Piece → Type 0
IsGoodPiece (Taken token size) = IsGood token
IsGoodPiece piece = Unit {0}

either_good : (test : Bool) (x y : Piece) → (test ≡ true → IsGoodPiece x) → (test ≡ false → IsGoodPiece y) → IsGoodPiece (cond test x y)
either_good true x y first other = first refl
either_good false x y first other = other refl

name_good : (token : Token) (word : List ℕ) → IsGood token → IsGoodPiece (name_piece token word)
name_good token word h = either_good (nat_le (length word) name_limit) _ _ (λ _. h) (λ _. tt)

word_good : (format : Format) (word : List ℕ) → IsGoodPiece (lower_piece (keyword_of format word) word)
word_good format word = elim (keyword_of format word) as (λ keyword. IsGoodPiece (lower_piece keyword word))
    [ Some keyword ↦ tt | None ↦ name_good (LowerToken word) word tt ]

negative_fits : (n : ℕ) → n ≤ 2 ^ 63 → int_fits (negative n) ≡ true
negative_fits zero h = refl
negative_fits (suc n) h = lt-ltb n (2 ^ 63) (omega arith)

int_good : (minus : Bool) (digits : List ℕ) (size : ℕ) → IsGoodPiece (int_piece minus digits size)
int_good true digits size =
    let n = digits_value 10 digits in either_good (nat_le n (2 ^ 63)) _ _ (λ e. negative_fits n (leb-true n (2 ^ 63) e)) (λ _. tt)
int_good false digits size = either_good (nat_lt (digits_value 10 digits) (2 ^ 63)) _ _ (λ e. e) (λ _. tt)

minus_good : (rest : List ℕ) → IsGoodPiece (minus_piece rest)
minus_good [] = tt
minus_good (b ∷ rest) =
    either_good (b == 62) _ _ (λ _. tt) (λ _.
    either_good (is_ascii_digit b) _ _ (λ _. int_good true (digits_of (b ∷ rest)) (length (digits_of (b ∷ rest)) + 1)) (λ _. tt))

text_good : (quoted : Quoted) → IsGoodPiece (text_piece quoted)
text_good (Closed bytes size) =
    either_good (is_utf8 bytes) _ _
    (λ utf8. either_good (nat_le (length bytes) text_limit) _ _ (λ short. (IsUtf8-from_is_utf8 bytes utf8, leb-true (length bytes) text_limit short))
    (λ _. tt))
    (λ _. tt)
text_good CutOff = tt
text_good (WrongAt kind offset) = tt

mark_good : (format : Format) (b : ℕ) → IsGoodPiece (mark_piece (mark_of format b))
mark_good format b = elim (mark_of format b) as (λ found. IsGoodPiece (mark_piece found)) [ Some found ↦ tt | None ↦ tt ]

first_good : (format : Format) (b : ℕ) (rest : List ℕ) → IsGoodPiece (first_piece format b rest)
first_good format b rest =
    let text = b ∷ rest in
    either_good (is_blank b) _ _ (λ _. tt) (λ _.
    either_good (b == 35) _ _ (λ _. tt) (λ _.
    either_good (is_ascii_lowercase b) _ _ (λ _. word_good format (word_of text)) (λ _.
    either_good (is_ascii_uppercase b) _ _ (λ _. name_good (UpperToken (word_of text)) (word_of text) tt) (λ _.
    either_good (is_ascii_digit b) _ _ (λ _. int_good false (digits_of text) (length (digits_of text))) (λ _.
    either_good (b == 45) _ _ (λ _. minus_good rest) (λ _.
    either_good (b == 34) _ _ (λ _. text_good (quoted_behind zero 1 rest)) (λ _. mark_good format b)))))))

abbrev AreGood : Tokens → Type 0
AreGood (Next at token rest) = IsGood token × AreGood rest
AreGood (End at) = Unit {0}
AreGood (Faulty at kind) = Unit {0}

piece_first : (piece : Piece) (at : Place) (bytes : List ℕ) (go : ℕ → Tokens) → IsGoodPiece piece → ((size : ℕ) → AreGood (go size))
    → AreGood (from_piece piece at bytes go)
piece_first (PassedOver size) at bytes go h others = others size
piece_first (Taken token size) at bytes go h others = (h, others size)
piece_first (Wrong kind offset) at bytes go h others = tt

tokens_good : (format : Format) (n : ℕ) (at : Place) (text : List ℕ) → AreGood (tokens_behind format n at text)
tokens_good format n at [] = tt
tokens_good format (suc n) at (b ∷ rest) = tokens_good format n (behind_byte at b) rest
tokens_good format zero at (b ∷ rest) =
    piece_first (first_piece format b rest) at (b ∷ rest) (λ size. tokens_behind format (size - 1) (behind_byte at b) rest) (first_good format b rest)
    (λ size. tokens_good format (size - 1) (behind_byte at b) rest)

-- the tokens of a tree
abbrev AllGood : List Written → Type 0
AllGood [] = Unit {0}
AllGood (w ∷ ws) = IsGood w.token × AllGood ws

written_good : (found : Tokens) (ws : List Written) (end : Place) → AreWritten found ws end → AreGood found → AllGood ws
written_good found [] end h good = tt
written_good (Next at token rest) (w ∷ ws) end h good = (subst IsGood h.0 good.0, written_good rest ws end h.2 good.1)
written_good (End at) (w ∷ ws) end h good = absurd h
written_good (Faulty at kind) (w ∷ ws) end h good = absurd h

parts_good : (ws vs : List Written) → AllGood (ws ++ vs) → AllGood ws × AllGood vs
parts_good [] vs h = (tt, h)
parts_good (w ∷ ws) vs h = let (first, second) = parts_good ws vs h.1 in ((h.0, first), second)

inside_good : (ws : List Written) → AllGood (in_parentheses ws) → AllGood ws
inside_good [] h = tt
inside_good (w ∷ ws) h = (parts_good (w ∷ ws) _ h.1).0

mutual
  -- the literals of an expression whose tokens are such
  literals_good : (e : ExpSyntax) → AllGood (expression_tokens e) → HasGoodLiterals e
  literals_good (UnitSyntax at) h = tt
  literals_good (BoolSyntax at b) h = tt
  literals_good (IntSyntax at z) h = h.0
  literals_good (TextSyntax at bytes) h = h.0
  literals_good (LocalSyntax at name) h = tt
  literals_good (PairSyntax at x y) h =
      let (first, second) = parts_good (expression_tokens x) _ (parts_good _ _ h.1).0 in (literals_good x first, literals_good y second.1)
  literals_good (UnarySyntax at operation x) h = literals_good x (parts_good (expression_tokens x) _ h.1.1).0
  literals_good (BinarySyntax at operation x y) h =
      let (first, second) = parts_good (expression_tokens x) _ (parts_good _ _ h.1.1).0 in (literals_good x first, literals_good y second.1)
  literals_good (CallSyntax at name xs) h = each_good xs (parts_good (expressions_tokens xs) _ h.1.1).0
  literals_good (ConstructorSyntax at name xs) h = each_good xs (inside_good (expressions_tokens xs) h.1)
  literals_good (OperateSyntax at operation xs) h =
      let (behind, end) = parts_good (brackets operation ++ mark LeftParenthesis ∷ expressions_tokens xs) _ h.1 in
      each_good xs (parts_good (brackets operation) (mark LeftParenthesis ∷ expressions_tokens xs) behind).1.1
  literals_good (LetSyntax at name x body) h =
      let (first, second) = parts_good (expression_tokens x) _ h.1.1.1 in (literals_good x first, literals_good body second.1)
  literals_good (IfSyntax at test x y) h =
      let (both, other) = parts_good _ _ h.1 in
      let (first, second) = parts_good (expression_tokens test) _ both in
      (literals_good test first, literals_good x second.1, literals_good y other.1)
  literals_good (MatchSyntax at x arms) h =
      let (first, second) = parts_good (expression_tokens x) _ (parts_good _ _ h.1).0 in (literals_good x first, arms_good arms second.1)

  each_good : (xs : ExpsSyntax) → AllGood (expressions_tokens xs) → HaveGoodLiterals xs
  each_good NoExp h = tt
  each_good (AndExp x NoExp) h = (literals_good x h, tt)
  each_good (AndExp x (AndExp next rest)) h =
      let (first, others) = parts_good (expression_tokens x) _ h in (literals_good x first, each_good (AndExp next rest) others.1)

  arms_good : (arms : ArmsSyntax) → AllGood (arms_tokens arms) → ArmsHaveGoodLiterals arms
  arms_good NoArmSyntax h = tt
  arms_good (AndArmSyntax constructor fields body rest) h =
      let (first, others) = parts_good _ (arms_tokens rest) h.1.1 in
      let body_tokens = parts_good (in_parentheses (names_tokens fields)) _ first in
      (literals_good body body_tokens.1.1, arms_good rest others)

-- the body of a function stands between its last two marks
body_good : (a b c d : Written) (ps ts body : List Written) → AllGood (ps ++ a ∷ b ∷ ts ++ c ∷ body ++ d ∷ []) → AllGood body
body_good a b c d ps ts body h = (parts_good (ps ++ a ∷ b ∷ ts) (c ∷ body) (parts_good (ps ++ a ∷ b ∷ ts ++ c ∷ body) (d ∷ []) h).0).1.1

function_good : (at : Place) (f : FunctionSyntax) → AllGood (declaration_tokens (FunctionDeclaration at f)) → HasGoodLiterals f.body
function_good at f h = literals_good f.body (body_good _ _ _ _ (parameters_tokens f.parameters) (type_tokens f.result_type) (expression_tokens f.body)
    h.1.1.1)

declarations_good : (ds : List DeclarationSyntax) → AllGood (declarations_tokens ds) → All (λ f. HasGoodLiterals f.body) (functions_in ds)
declarations_good [] h = All-nil (λ (f : FunctionSyntax). HasGoodLiterals f.body)
declarations_good (TypeDeclaration at name cs ∷ ds) h = declarations_good ds (parts_good (declaration_tokens (TypeDeclaration at name cs)) _ h).1
declarations_good (StateDeclaration at t ∷ ds) h = declarations_good ds (parts_good (declaration_tokens (StateDeclaration at t)) _ h).1
declarations_good (FunctionDeclaration at f ∷ ds) h =
    let (first, others) = parts_good (declaration_tokens (FunctionDeclaration at f)) (declarations_tokens ds) h in
    All-cons (λ (f : FunctionSyntax). HasGoodLiterals f.body) f (functions_in ds) (function_good at f first) (declarations_good ds others)

-- the program that a text is parsed to
pub parsed_has_good_literals : (text : List ℕ) (program : Program) → parsed text ≡ Tree program
    → ProgramHasGoodLiterals program
parsed_has_good_literals text program is =
    declarations_good program.declarations (parts_good (format_tokens program.format) (declarations_tokens program.declarations)
    (written_good (text_tokens text) (program_tokens program.format program.declarations) program.end
    (parsed_is_written text program is).written (tokens_good _ 0 _ text))).1
