-- The tokens of printed lines: those that were printed.
use Rattle.std.proofs.Common.{◌≡◌, ℕ, Bool, true, false, not, ◌||◌, ◌&&◌, List, [], ◌∷◌, ◌++◌, length, Option, Some, None, if◌then◌else◌, codes, refl, sym, ap, subst, ◌∙◌, append_assoc, arith, le-leb}
use Rattle.std.specs.List.{list_all}
use Rattle.std.specs.Char.{is_ascii_lowercase, is_ascii_uppercase}
use Rattle.std.specs.Prelude.{nat_le, ◌==◌}
use Rattle.core_terms.specs.ProgramFormats.{arrays_of}
use Rattle.core_terms.specs.declared.format.Format.{Format}
use Rattle.core_terms.specs.declared.format.Format.TheVariants.{First, Second}
use Rattle.core_terms.specs.declared.term.Arith.{Arith as ArithOperator}
use Rattle.core_terms.specs.declared.term.Arith.TheVariants.{Add}
use Rattle.core_terms.specs.declared.term.Compare.{Compare as CompareOperator}
use Rattle.core_terms.specs.declared.term.Compare.TheVariants.{Eq}
use Rattle.core_terms.specs.declared.term.TextCompare.{TextCompare as TextCompareOperator}
use Rattle.core_terms.specs.declared.term.TextCompare.TheVariants.{Eq as TEq}
use Rattle.core_terms.specs.declared.term.BinaryOperator.TheVariants.{Arith, Compare, TextCompare, Cat}
use Rattle.lexemes.specs.declared.place.Place.{Place}
use Rattle.lexemes.specs.declared.token.Keyword.{Keyword}
use Rattle.lexemes.specs.declared.token.Keyword.TheVariants.{«Type» as TypeWord, Vec as VecWord, VecFill as VecFillWord, VecGet as VecGetWord, VecPut as VecPutWord, Binary as BinaryWord}
use Rattle.lexemes.specs.declared.token.Mark.{Mark}
use Rattle.lexemes.specs.declared.token.Mark.TheVariants.{LeftParenthesis, LeftBracket, RightBracket}
use Rattle.lexemes.specs.declared.fault.LexicalFault.TheVariants.{NameLong}
use Rattle.lexemes.specs.Places.{behind, behind_byte}
use Rattle.lexemes.specs.Tokens.{Token, KeywordToken, MarkToken, LowerToken, UpperToken, IntToken, TextToken, Tokens, Next, End, Taken, Wrong, first_piece, is_blank, is_name_byte, mark_piece, keyword_text, keyword_of, lower_piece, name_piece, name_limit, word_of, tokens_from, operator_text}
use Rattle.lexemes.specs.PieceViews.{head_piece}
use Rattle.auth_syntax.specs.Syntax.{DeclarationSyntax}
use Rattle.auth_syntax.specs.Grammar.{Written, declaration_tokens, declarations_tokens}
use Rattle.printed_syntax.specs.PrintedPrograms.{mark_text, token_text, is_opening, is_applied, are_apart, blank_before, in_line, line_text, declarations_text}
use Rattle.printed_syntax.specs.PrintedProgramLaws.{IsName, IsToken, AreTokens, has_keyword, has_mark}
use Rattle.printed_syntax.proofs.PrintedTokens.{IsParted, IsHeadToken, passed, met, token_read, run_taken, text_at_head, int_token}
use Rattle.printed_syntax.proofs.BeginAnywhere.{TellAnywhere, tell-none, tell-next, tell-append}

-- a small letter, and a capital, are nothing that is asked for before them
small_first : (format : Format) (b : ℕ) (rest : List ℕ) → is_ascii_lowercase b ≡ true
    → first_piece format b rest ≡ lower_piece (keyword_of format (word_of (b ∷ rest))) (word_of (b ∷ rest))
small_first format b rest h =
    passed (is_blank b) _ _ (grind (arith)) ∙ (passed (b == 35) _ _ (grind (arith)) ∙ met (is_ascii_lowercase b) _ _ h)

capital_first : (format : Format) (b : ℕ) (rest : List ℕ) → is_ascii_uppercase b ≡ true
    → first_piece format b rest ≡ name_piece (UpperToken (word_of (b ∷ rest))) (word_of (b ∷ rest))
capital_first format b rest h =
    passed (is_blank b) _ _ (grind (arith))
    ∙ (passed (b == 35) _ _ (grind (arith)) ∙ (passed (is_ascii_lowercase b) _ _ (grind (arith)) ∙ met (is_ascii_uppercase b) _ _ h))

name_fits : (token : Token) (name : List ℕ) → nat_le (length name) name_limit ≡ true → name_piece token name ≡ Taken token (length name)
name_fits token name fits = ap (λ test. if test then Taken token (length name) else Wrong NameLong 0) fits

-- a word, and a name, at the head of a text
word_at_head : (format : Format) (b : ℕ) (bytes rest : List ℕ) → is_ascii_lowercase b ≡ true → list_all is_name_byte (b ∷ bytes) ≡ true → IsParted rest
    → head_piece format (b ∷ bytes ++ rest) ≡ Some (lower_piece (keyword_of format (b ∷ bytes)) (b ∷ bytes))
word_at_head format b bytes rest small h parted =
    ap (λ piece. Some piece)
    (small_first format b (bytes ++ rest) small
    ∙ ap (λ word. lower_piece (keyword_of format word) word) (run_taken is_name_byte (b ∷ bytes) rest h (λ b stops. stops) parted))

lower_at_head : (format : Format) (name rest : List ℕ) → IsName is_ascii_lowercase name → keyword_of format name ≡ None → IsParted rest
    → IsHeadToken format name (LowerToken name) rest
lower_at_head format [] rest h none parted = absurd h
lower_at_head format (b ∷ bytes) rest h none parted =
    word_at_head format b bytes rest h.0 h.1 parted
    ∙ ap (λ keyword. Some (lower_piece keyword (b ∷ bytes))) none
    ∙ ap (λ piece. Some piece) (name_fits (LowerToken (b ∷ bytes)) (b ∷ bytes) (le-leb (length (b ∷ bytes)) name_limit h.2))

pub upper_at_head : (format : Format) (name rest : List ℕ) → IsName is_ascii_uppercase name → IsParted rest → IsHeadToken format name (UpperToken name) rest
upper_at_head format [] rest h parted = absurd h
upper_at_head format (b ∷ bytes) rest h parted =
    ap (λ piece. Some piece)
    (capital_first format b (bytes ++ rest) h.0
    ∙ ap (λ word. name_piece (UpperToken word) word) (run_taken is_name_byte (b ∷ bytes) rest h.1 (λ b stops. stops) parted)
    ∙ name_fits (UpperToken (b ∷ bytes)) (b ∷ bytes) (le-leb (length (b ∷ bytes)) name_limit h.2))

-- a keyword is a word, and its own
abbrev IsKeywordText : Format → List ℕ → Keyword → Type 0
IsKeywordText format [] keyword = ⊥
IsKeywordText format (b ∷ bytes) keyword =
    (is_ascii_lowercase b ≡ true) × (list_all is_name_byte (b ∷ bytes) ≡ true) × (keyword_of format (b ∷ bytes) ≡ Some keyword)

arith_is : (format : Format) (o : ArithOperator) → IsKeywordText format (operator_text (Arith o)) (BinaryWord (Arith o))
arith_is format Add = (refl, refl, refl)
arith_is format o = (refl, refl, refl)

compare_is : (format : Format) (o : CompareOperator) → IsKeywordText format (operator_text (Compare o)) (BinaryWord (Compare o))
compare_is format Eq = (refl, refl, refl)
compare_is format o = (refl, refl, refl)

text_compare_is : (format : Format) (o : TextCompareOperator) → IsKeywordText format (operator_text (TextCompare o)) (BinaryWord (TextCompare o))
text_compare_is format TEq = (refl, refl, refl)
text_compare_is format o = (refl, refl, refl)

array_keyword_is : (format : Format) (text : List ℕ) (keyword : Keyword) → arrays_of format ≡ true → IsKeywordText Second text keyword → IsKeywordText format text keyword
array_keyword_is First text keyword h is = absurd (cc)
array_keyword_is Second text keyword h is = is

keyword_is : (format : Format) (keyword : Keyword) → has_keyword format keyword ≡ true → IsKeywordText format (keyword_text keyword) keyword
keyword_is format TypeWord h = (refl, refl, refl)
keyword_is format VecWord h = array_keyword_is format (codes "vec") VecWord h (refl, refl, refl)
keyword_is format VecFillWord h = array_keyword_is format (codes "vfill") VecFillWord h (refl, refl, refl)
keyword_is format VecGetWord h = array_keyword_is format (codes "vget") VecGetWord h (refl, refl, refl)
keyword_is format VecPutWord h = array_keyword_is format (codes "vput") VecPutWord h (refl, refl, refl)
keyword_is format (BinaryWord (Arith o)) h = arith_is format o
keyword_is format (BinaryWord (Compare o)) h = compare_is format o
keyword_is format (BinaryWord (TextCompare o)) h = text_compare_is format o
keyword_is format (BinaryWord Cat) h = (refl, refl, refl)
keyword_is format keyword h = (refl, refl, refl)

keyword_at_head : (format : Format) (text : List ℕ) (keyword : Keyword) (rest : List ℕ) → IsKeywordText format text keyword → IsParted rest
    → IsHeadToken format text (KeywordToken keyword) rest
keyword_at_head format [] keyword rest h parted = absurd h
keyword_at_head format (b ∷ bytes) keyword rest h parted =
    word_at_head format b bytes rest h.0 h.1 parted ∙ ap (λ keyword. Some (lower_piece keyword (b ∷ bytes))) h.2

-- a mark, whatever stands behind it
pub mark_at_head : (format : Format) (mark : Mark) (rest : List ℕ) → has_mark format mark ≡ true → IsHeadToken format (mark_text mark) (MarkToken mark) rest
mark_at_head format LeftParenthesis rest h = refl
mark_at_head format LeftBracket rest h = ap (λ test. Some (mark_piece (if test then Some LeftBracket else None))) h
mark_at_head format RightBracket rest h = ap (λ test. Some (mark_piece (if test then Some RightBracket else None))) h
mark_at_head format mark rest h = refl

pub token_at_head : (format : Format) (token : Token) (rest : List ℕ) → IsToken format token → (is_opening token ≡ false → IsParted rest)
    → IsHeadToken format (token_text token) token rest
token_at_head format (KeywordToken keyword) rest h parted = keyword_at_head format (keyword_text keyword) keyword rest (keyword_is format keyword h) (parted refl)
token_at_head format (MarkToken mark) rest h parted = mark_at_head format mark rest h
token_at_head format (LowerToken name) rest h parted = lower_at_head format name rest h.0 h.1 (parted refl)
token_at_head format (UpperToken name) rest h parted = upper_at_head format name rest h (parted refl)
token_at_head format (IntToken z) rest h parted = int_token format z rest h (parted refl)
token_at_head format (TextToken bytes) rest h parted = text_at_head format bytes rest h.0 h.1

-- what stands behind a token behind which a blank may stand is parted from it
pub mark_is_parted : (mark : Mark) (rest : List ℕ) → IsParted (mark_text mark ++ rest)
mark_is_parted LeftParenthesis rest = refl
mark_is_parted mark rest = refl

apart_from : (opening applied : Bool) → opening ≡ false → not (opening || false || (applied && false)) ≡ true
apart_from true applied h = absurd (cc)
apart_from false true h = refl
apart_from false false h = refl

blank_is_parted : (test : Bool) (others : List ℕ) → test ≡ true → IsParted ((if test then codes " " else []) ++ others)
blank_is_parted true others h = refl
blank_is_parted false others h = absurd (cc)

blank_or_mark : (test : Bool) (mark : Mark) (others : List ℕ) → IsParted ((if test then codes " " else []) ++ (mark_text mark ++ others))
blank_or_mark true mark others = refl
blank_or_mark false mark others = mark_is_parted mark others

next_is_parted : (last next : Token) (others : List ℕ) → is_opening last ≡ false → IsParted (blank_before (Some last) next ++ (token_text next ++ others))
next_is_parted last (MarkToken mark) others h = blank_or_mark (are_apart last (MarkToken mark)) mark others
next_is_parted last (KeywordToken keyword) others h = blank_is_parted _ (keyword_text keyword ++ others) (apart_from (is_opening last) (is_applied last) h)
next_is_parted last (LowerToken name) others h = blank_is_parted _ (name ++ others) (apart_from (is_opening last) (is_applied last) h)
next_is_parted last (UpperToken name) others h = blank_is_parted _ (name ++ others) (apart_from (is_opening last) (is_applied last) h)
next_is_parted last (IntToken z) others h = blank_is_parted _ (token_text (IntToken z) ++ others) (apart_from (is_opening last) (is_applied last) h)
next_is_parted last (TextToken bytes) others h = blank_is_parted _ (token_text (TextToken bytes) ++ others) (apart_from (is_opening last) (is_applied last) h)

-- a line of tokens from one on, before others
grouped : (a b c others : List ℕ) → (a ++ b ++ c) ++ others ≡ a ++ (b ++ (c ++ others))
grouped a b c others = append_assoc (a ++ b) c others ∙ append_assoc a b (c ++ others)

line_is_parted : (last : Token) (ws : List Written) (others : List ℕ) → is_opening last ≡ false → IsParted others → IsParted (in_line (Some last) ws ++ others)
line_is_parted last [] others h parted = parted
line_is_parted last (w ∷ ws) others h parted =
    subst IsParted (sym (grouped (blank_before (Some last) w.token) (token_text w.token) (in_line (Some w.token) ws) others))
    (next_is_parted last w.token (in_line (Some w.token) ws ++ others) h)

-- a blank is passed over
record Passed (format : Format) (at : Place) (blank others : List ℕ) : Type 0 where
  pub after : Place
  pub is : tokens_from format at (blank ++ others) ≡ tokens_from format after others

blank_passed : (format : Format) (at : Place) (last : Option Token) (next : Token) (others : List ℕ) → Passed format at (blank_before last next) others
blank_passed format at None next others = record { after = at; is = refl }
blank_passed format at (Some last) next others = either (are_apart last next) where
  either : (test : Bool) → Passed format at (if test then codes " " else []) others
  either true = record { after = behind_byte at 32; is = refl }
  either false = record { after = at; is = refl }

-- The tokens of a text from a place on are these, and behind them those of the rest from another place on.
pub record IsRead (format : Format) (at : Place) (text : List ℕ) (ws : List Written) (rest : List ℕ) : Type 0 where
  pub after : Place
  pub tell : TellAnywhere (tokens_from format at text) ws (tokens_from format after rest)

pub line_read : (format : Format) (ws : List Written) (last : Option Token) (at : Place) (rest : List ℕ) → AreTokens format ws → IsParted rest
    → IsRead format at (in_line last ws ++ rest) ws rest
line_read format [] last at rest h parted = record { after = at; tell = tell-none (tokens_from format at rest) }
line_read format (w ∷ ws) last at rest h parted =
    let others = in_line (Some w.token) ws ++ rest in
    let blank = blank_passed format at last w.token (token_text w.token ++ others) in
    let token = token_read format (token_text w.token) w.token others blank.after
    (token_at_head format w.token others h.0 (λ closed. line_is_parted w.token ws rest closed parted)) in
    let more = line_read format ws (Some w.token) (behind blank.after (token_text w.token)) rest h.1 parted in
    let same : tokens_from format at (in_line last (w ∷ ws) ++ rest) ≡ Next blank.after w.token (tokens_from format (behind blank.after (token_text w.token)) others) =
    ap (tokens_from format at) (grouped (blank_before last w.token) (token_text w.token) (in_line (Some w.token) ws) rest) ∙ blank.is ∙ token in
    record {
      after = more.after;
      tell = subst (λ (ts : Tokens). TellAnywhere ts (w ∷ ws) (tokens_from format more.after rest)) (sym same)
          (tell-next blank.after w.token w refl more.tell);
    }

-- a line with its end, and what is read of the text behind it
pub lines_read : (format : Format) (ws vs : List Written) (at : Place) (rest : List ℕ) → AreTokens format ws
    → ((at : Place) → IsRead format at rest vs []) → IsRead format at (line_text ws ++ rest) (ws ++ vs) []
lines_read format ws vs at rest h go =
    let line = line_read format ws None at (10 ∷ rest) h refl in
    let more = go (behind_byte line.after 10) in
    record {
      after = more.after;
      tell = subst (λ (text : List ℕ). TellAnywhere (tokens_from format at text) (ws ++ vs) (End more.after)) (sym (append_assoc (in_line None ws) (codes "\n") rest))
          (tell-append line.tell more.tell);
    }

-- the tokens of the text of some declarations
pub parts_are : (format : Format) (ws vs : List Written) → AreTokens format (ws ++ vs) → AreTokens format ws × AreTokens format vs
parts_are format [] vs h = (tt, h)
parts_are format (w ∷ ws) vs h = let others = parts_are format ws vs h.1 in ((h.0, others.0), others.1)

pub declarations_read_back : (format : Format) (ds : List DeclarationSyntax) (at : Place) → AreTokens format (declarations_tokens ds)
    → IsRead format at (declarations_text ds) (declarations_tokens ds) []
declarations_read_back format [] at h = record { after = at; tell = tell-none (End at) }
declarations_read_back format (d ∷ ds) at h =
    let parts = parts_are format (declaration_tokens d) (declarations_tokens ds) h in
    lines_read format (declaration_tokens d) (declarations_tokens ds) at (declarations_text ds) parts.0 (λ at. declarations_read_back format ds at parts.1)
