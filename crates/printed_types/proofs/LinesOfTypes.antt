-- The lines that are printed of declared types.
use Rattle.std.proofs.Common.{◌≡◌, ℕ, pos, ◌+◌, ◌/◌, ◌%◌, ◌<◌, ◌≤◌, Bool, true, false, not, ◌||◌, ◌&&◌, nat_lt, nat_le, List, [], ◌∷◌, ◌++◌, length, Option, Some, None, if◌then◌else◌, codes, refl, ap, ap₂, ◌∙◌, append_assoc, length-append, arith}
use Rattle.std.specs.Fmt.{decimal, signed_decimal}
use Rattle.std.proofs.lemmas.Fmt.{decimal_digit, decimal_step}
use Rattle.std.proofs.lemmas.Bool.{leb-true, ltb-true}
use Rattle.core_terms.specs.Types.{is_length}
use Rattle.core_terms.specs.TypeDeclarations.{length_text}
use Rattle.lexemes.specs.declared.place.Place.{Place}
use Rattle.lexemes.specs.declared.token.Keyword.TheVariants.{Auth as AuthWord, Unit as UnitWord, Bool as BoolWord, Int as IntWord, Text as TextWord, Vec as VecWord}
use Rattle.lexemes.specs.declared.token.Mark.TheVariants.{LeftParenthesis, RightParenthesis, Comma, Semicolon, EqualsSign, Bar, RightBracket}
use Rattle.lexemes.specs.Tokens.{Token, KeywordToken, MarkToken, LowerToken, UpperToken}
use Rattle.lexemes.proofs.NumberLemmas.{both_true}
use Rattle.auth_syntax.specs.Syntax.{NameSyntax, TypeSyntax, UnitTypeSyntax, BoolTypeSyntax, IntTypeSyntax, TextTypeSyntax, NamedTypeSyntax, AuthTypeSyntax, PairTypeSyntax, VecTypeSyntax, ConstructorDeclaration, TypeDeclaration}
use Rattle.auth_syntax.specs.Grammar.{Written, standing, mark, type_tokens, types_tokens, in_parentheses, constructor_tokens, constructors_tokens, declaration_tokens, HasLengths}
use Rattle.auth_syntax.proofs.Types.{type_tokens-some}
use Rattle.printed_syntax.specs.PrintedPrograms.{token_text, is_opening, is_closing, is_applied, blank_before, in_line}
use Rattle.printed_types.proofs.WrittenTexts.{blank_before_type, type_before, more_before, fields_before, constructor_before, others_before, declaration_before}

-- the first token of a type
abbrev pub first_token : TypeSyntax → Token
first_token (UnitTypeSyntax at) = KeywordToken UnitWord
first_token (BoolTypeSyntax at) = KeywordToken BoolWord
first_token (IntTypeSyntax at) = KeywordToken IntWord
first_token (TextTypeSyntax at) = KeywordToken TextWord
first_token (NamedTypeSyntax at name) = LowerToken name
first_token (AuthTypeSyntax at inner) = KeywordToken AuthWord
first_token (PairTypeSyntax at first second) = MarkToken LeftParenthesis
first_token (VecTypeSyntax at n item) = KeywordToken VecWord

-- what stands before it
behind_auth : (t : TypeSyntax) → blank_before (Some (KeywordToken AuthWord)) (first_token t) ≡ blank_before_type t
behind_auth (PairTypeSyntax at first second) = refl
behind_auth t = refl

behind_comma : (t : TypeSyntax) → blank_before (Some (MarkToken Comma)) (first_token t) ≡ codes " "
behind_comma (PairTypeSyntax at first second) = refl
behind_comma t = refl

behind_bracket : (t : TypeSyntax) → blank_before (Some (MarkToken RightBracket)) (first_token t) ≡ codes " "
behind_bracket (PairTypeSyntax at first second) = refl
behind_bracket t = refl

-- no blank stands before a closing mark
none_before : (opening closing applied : Bool) → closing ≡ true → (if not (opening || closing || applied) then codes " " else []) ≡ []
none_before true closing applied h = refl
none_before false true applied h = refl
none_before false false applied h = absurd (cc)

closing_line : (last : Token) (w : Written) (ws : List Written) → is_closing w.token ≡ true
    → in_line (Some last) (w ∷ ws) ≡ token_text w.token ++ in_line (Some w.token) ws
closing_line last w ws h =
    ap (λ (blank : List ℕ). blank ++ token_text w.token ++ in_line (Some w.token) ws)
    (none_before (is_opening last) (is_closing w.token) (is_applied last && is_opening w.token) h)

-- one token before such a mark
word_line : (last : Option Token) (v w : Written) (ws : List Written) → is_closing w.token ≡ true
    → in_line last (v ∷ w ∷ ws) ≡ blank_before last v.token ++ (token_text v.token ++ (token_text w.token ++ in_line (Some w.token) ws))
word_line last v w ws h =
    append_assoc (blank_before last v.token) (token_text v.token) (in_line (Some v.token) (w ∷ ws))
    ∙ ap (λ (line : List ℕ). blank_before last v.token ++ (token_text v.token ++ line)) (closing_line v.token w ws h)

-- the length of an array is printed as an int
length_by : (n : ℕ) (test : Bool) → nat_lt n 10 ≡ test → n < 100
    → decimal n ≡ (if test then (0x30 + n) ∷ [] else (0x30 + n / 10) ∷ (0x30 + n % 10) ∷ [])
length_by n true e h = decimal_digit n (ltb-true n 10 e)
length_by n false e h =
    let tens : 10 ≤ n = grind (arith) in
    let one_digit : n / 10 < 10 = omega arith in
    decimal_step n tens (omega arith) ∙ ap (λ (digits : List ℕ). digits ++ (48 + n % 10) ∷ []) (decimal_digit (n / 10) one_digit)

length_is : (n : ℕ) → is_length n ≡ true → signed_decimal (pos n) ≡ length_text n
length_is n h =
    let most : n ≤ 64 = leb-true n 64 (both_true (nat_le 1 n) (nat_le n 64) h).1 in
    length_by n (nat_lt n 10) refl (omega arith)

-- the tokens of a pair, one behind the other
pair_grouped : (first second : List Written) (between closing : Written) (ws : List Written)
    → ((first ++ (between ∷ second)) ++ (closing ∷ [])) ++ ws ≡ first ++ (between ∷ (second ++ (closing ∷ ws)))
pair_grouped first second between closing ws =
    append_assoc (first ++ (between ∷ second)) (closing ∷ []) ws ∙ append_assoc first (between ∷ second) (closing ∷ ws)

-- a type before a closing mark
type_line : (t : TypeSyntax) (last : Option Token) (w : Written) (ws : List Written) → is_closing w.token ≡ true → HasLengths t
    → in_line last (type_tokens t ++ (w ∷ ws)) ≡ blank_before last (first_token t) ++ type_before t (token_text w.token ++ in_line (Some w.token) ws)
type_line (UnitTypeSyntax at) last w ws closing h = word_line last (standing at (KeywordToken UnitWord)) w ws closing
type_line (BoolTypeSyntax at) last w ws closing h = word_line last (standing at (KeywordToken BoolWord)) w ws closing
type_line (IntTypeSyntax at) last w ws closing h = word_line last (standing at (KeywordToken IntWord)) w ws closing
type_line (TextTypeSyntax at) last w ws closing h = word_line last (standing at (KeywordToken TextWord)) w ws closing
type_line (NamedTypeSyntax at name) last w ws closing h = word_line last (standing at (LowerToken name)) w ws closing
type_line (AuthTypeSyntax at inner) last w ws closing h =
    let word = KeywordToken AuthWord in
    let rest = token_text w.token ++ in_line (Some w.token) ws in
    append_assoc (blank_before last word) (codes "auth") (in_line (Some word) (type_tokens inner ++ (w ∷ ws)))
    ∙ ap (λ (line : List ℕ). blank_before last word ++ (codes "auth" ++ line))
    (type_line inner (Some word) w ws closing h ∙ ap (λ (blank : List ℕ). blank ++ type_before inner rest) (behind_auth inner))
type_line (PairTypeSyntax at first second) last w ws closing h =
    let open_mark = MarkToken LeftParenthesis in
    let close = mark RightParenthesis in
    let rest = token_text w.token ++ in_line (Some w.token) ws in
    let others = type_tokens second ++ (close ∷ w ∷ ws) in
    let behind : in_line (Some (MarkToken Comma)) others ≡ codes " " ++ type_before second (codes ")" ++ rest) =
    type_line second (Some (MarkToken Comma)) close (w ∷ ws) refl h.1
    ∙ ap₂ (λ (blank line : List ℕ). blank ++ type_before second (codes ")" ++ line)) (behind_comma second) (closing_line close.token w ws closing) in
    append_assoc (blank_before last open_mark) (codes "(")
    (in_line (Some open_mark) (((type_tokens first ++ (mark Comma ∷ type_tokens second)) ++ (close ∷ [])) ++ (w ∷ ws)))
    ∙ ap (λ (line : List ℕ). blank_before last open_mark ++ (codes "(" ++ line))
    (ap (in_line (Some open_mark)) (pair_grouped (type_tokens first) (type_tokens second) (mark Comma) close (w ∷ ws))
    ∙ type_line first (Some open_mark) (mark Comma) others refl h.0
    ∙ ap (λ (line : List ℕ). type_before first (codes "," ++ line)) behind)
type_line (VecTypeSyntax at n item) last w ws closing h =
    let word = KeywordToken VecWord in
    let close = MarkToken RightBracket in
    let rest = token_text w.token ++ in_line (Some w.token) ws in
    let behind : in_line (Some close) (type_tokens item ++ (w ∷ ws)) ≡ codes " " ++ type_before item rest =
    type_line item (Some close) w ws closing h.1 ∙ ap (λ (blank : List ℕ). blank ++ type_before item rest) (behind_bracket item) in
    append_assoc (blank_before last word) (codes "vec") (codes "[" ++ (signed_decimal (pos n) ++ (codes "]" ++ in_line (Some close) (type_tokens item ++ (w ∷ ws)))))
    ∙ ap₂ (λ (number line : List ℕ). blank_before last word ++ (codes "vec[" ++ (number ++ (codes "]" ++ line)))) (length_is n h.0) behind

-- types in a row, and the fields of a constructor
abbrev pub HaveLengths : List TypeSyntax → Type 0
HaveLengths [] = Unit {0}
HaveLengths (t ∷ ts) = HasLengths t × HaveLengths ts

row_line : (ts : List TypeSyntax) (t : TypeSyntax) (last : Option Token) (w : Written) (ws : List Written) → is_closing w.token ≡ true → HaveLengths (t ∷ ts)
    → in_line last (types_tokens (t ∷ ts) ++ (w ∷ ws))
    ≡ blank_before last (first_token t) ++ type_before t (more_before ts (token_text w.token ++ in_line (Some w.token) ws))
row_line [] t last w ws closing h = type_line t last w ws closing h.0
row_line (next ∷ ts) t last w ws closing h =
    let others = types_tokens (next ∷ ts) in
    let rest = token_text w.token ++ in_line (Some w.token) ws in
    ap (in_line last) (append_assoc (type_tokens t) (mark Comma ∷ others) (w ∷ ws))
    ∙ type_line t last (mark Comma) (others ++ (w ∷ ws)) refl h.0
    ∙ ap (λ (line : List ℕ). blank_before last (first_token t) ++ type_before t (codes "," ++ line))
    (row_line ts next (Some (MarkToken Comma)) w ws closing h.1
    ∙ ap (λ (blank : List ℕ). blank ++ type_before next (more_before ts rest)) (behind_comma next))

parentheses_are : (ws : List Written) → 0 < length ws → in_parentheses ws ≡ mark LeftParenthesis ∷ (ws ++ (mark RightParenthesis ∷ []))
parentheses_are [] h = absurd (omega arith)
parentheses_are (w ∷ ws) h = refl

types_tokens-some : (t : TypeSyntax) (ts : List TypeSyntax) → 0 < length (types_tokens (t ∷ ts))
types_tokens-some t [] = type_tokens-some t
types_tokens-some t (next ∷ ts) = omega (arith, type_tokens-some t, length-append (type_tokens t) (mark Comma ∷ types_tokens (next ∷ ts)))

fields_line : (name : List ℕ) (ts : List TypeSyntax) (ws : List Written) (rest : List ℕ) → in_line (Some (UpperToken name)) ws ≡ rest
    → in_line (Some (MarkToken RightParenthesis)) ws ≡ rest → HaveLengths ts
    → in_line (Some (UpperToken name)) (in_parentheses (types_tokens ts) ++ ws) ≡ fields_before ts rest
fields_line name [] ws rest behind_name behind_fields h = behind_name
fields_line name (t ∷ ts) ws rest behind_name behind_fields h =
    let tokens = types_tokens (t ∷ ts) in
    ap (λ (vs : List Written). in_line (Some (UpperToken name)) (vs ++ ws)) (parentheses_are tokens (types_tokens-some t ts))
    ∙ ap (λ (line : List ℕ). codes "(" ++ line)
    (ap (in_line (Some (MarkToken LeftParenthesis))) (append_assoc tokens (mark RightParenthesis ∷ []) ws)
    ∙ row_line ts t (Some (MarkToken LeftParenthesis)) (mark RightParenthesis) ws refl h
    ∙ ap (λ (line : List ℕ). type_before t (more_before ts (codes ")" ++ line))) behind_fields)

-- a constructor, and constructors up to the end of a declaration
constructor_line : (c : ConstructorDeclaration) (last : Option Token) (ws : List Written) (rest : List ℕ) → in_line (Some (UpperToken c.name.name)) ws ≡ rest
    → in_line (Some (MarkToken RightParenthesis)) ws ≡ rest → HaveLengths c.fields
    → in_line last (constructor_tokens c ++ ws) ≡ blank_before last (UpperToken c.name.name) ++ constructor_before c rest
constructor_line c last ws rest behind_name behind_fields h =
    let name = c.name.name in
    append_assoc (blank_before last (UpperToken name)) name (in_line (Some (UpperToken name)) (in_parentheses (types_tokens c.fields) ++ ws))
    ∙ ap (λ (line : List ℕ). blank_before last (UpperToken name) ++ (name ++ line)) (fields_line name c.fields ws rest behind_name behind_fields h)

abbrev pub AllHaveLengths : List ConstructorDeclaration → Type 0
AllHaveLengths [] = Unit {0}
AllHaveLengths (c ∷ cs) = HaveLengths c.fields × AllHaveLengths cs

constructors_line : (cs : List ConstructorDeclaration) (c : ConstructorDeclaration) (last : Option Token) → AllHaveLengths (c ∷ cs)
    → in_line last (constructors_tokens (c ∷ cs) ++ (mark Semicolon ∷ []))
    ≡ blank_before last (UpperToken c.name.name) ++ constructor_before c (others_before cs (codes ";"))
constructors_line [] c last h = constructor_line c last (mark Semicolon ∷ []) (codes ";") refl refl h.0
constructors_line (next ∷ cs) c last h =
    let others = constructors_tokens (next ∷ cs) ++ (mark Semicolon ∷ []) in
    let behind = ap (λ (line : List ℕ). codes " |" ++ line) (constructors_line cs next (Some (MarkToken Bar)) h.1) in
    ap (in_line last) (append_assoc (constructor_tokens c) (mark Bar ∷ constructors_tokens (next ∷ cs)) (mark Semicolon ∷ []))
    ∙ constructor_line c last (mark Bar ∷ others) (others_before (next ∷ cs) (codes ";")) behind behind h.0

-- a declaration
pub declaration_line : (at : Place) (name : NameSyntax) (c : ConstructorDeclaration) (cs : List ConstructorDeclaration) → AllHaveLengths (c ∷ cs)
    → in_line None (declaration_tokens (TypeDeclaration at name (c ∷ cs))) ≡ declaration_before name.name (c ∷ cs) (codes ";")
declaration_line at name c cs h =
    ap (λ (line : List ℕ). codes "type " ++ (name.name ++ (codes " =" ++ line))) (constructors_line cs c (Some (MarkToken EqualsSign)) h)
