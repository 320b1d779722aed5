-- The format that a printed text tells.
use Rattle.std.proofs.Common.{◌≡◌, true, List, [], ◌∷◌, ◌++◌, Option, Some, None, codes, refl, ap, ◌∙◌, append_assoc, lit≤}
use Rattle.core_terms.specs.Values.{int_fits}
use Rattle.core_terms.specs.declared.format.Format.{Format}
use Rattle.core_terms.specs.declared.format.Format.TheVariants.{First, Second}
use Rattle.lexemes.specs.declared.place.Place.{Place}
use Rattle.lexemes.specs.declared.token.Keyword.{Keyword}
use Rattle.lexemes.specs.declared.token.Keyword.TheVariants.{«Type» as TypeWord, State as StateWord}
use Rattle.lexemes.specs.Places.{start}
use Rattle.lexemes.specs.Tokens.{Token, KeywordToken, LowerToken, IntToken, Tokens, Next, End, Faulty, tokens, tokens_from}
use Rattle.auth_syntax.specs.Syntax.{DeclarationSyntax, TypeDeclaration, StateDeclaration, FunctionDeclaration}
use Rattle.auth_syntax.specs.ProgramTokens.{format_word, read_format, told_format, format_or_first}
use Rattle.auth_syntax.specs.Grammar.{Written, kind_keyword, format_number, format_tokens, declaration_tokens, declarations_tokens, program_tokens}
use Rattle.printed_syntax.specs.PrintedPrograms.{in_line, declarations_text, format_text}
use Rattle.printed_syntax.specs.PrintedProgramLaws.{AreTokens}
use Rattle.printed_syntax.proofs.BeginAnywhere.{TellsTokens}
use Rattle.printed_syntax.proofs.PrintedLines.{IsRead, line_read, lines_read, declarations_read_back, parts_are}

-- tokens that begin with those that tell a format tell it
abbrev told_by : Place → Token → Place → Token → Place → Token → Tokens → Format
told_by a word b number c ending rest = told_format (read_format (Next a word (Next b number (Next c ending rest))))

tells : (format : Format) (tokens left : Tokens) → TellsTokens tokens (format_tokens (Some format)) left → told_format (read_format tokens) ≡ format
tells First (Next a word (Next b number (Next c ending rest))) left h =
    ap (λ word. told_by a word b number c ending rest) h.0
    ∙ ap (λ number. told_by a (LowerToken format_word) b number c ending rest) h.1.0
    ∙ ap (λ ending. told_by a (LowerToken format_word) b (IntToken (format_number First)) c ending rest) h.1.1.0
tells Second (Next a word (Next b number (Next c ending rest))) left h =
    ap (λ word. told_by a word b number c ending rest) h.0
    ∙ ap (λ number. told_by a (LowerToken format_word) b number c ending rest) h.1.0
    ∙ ap (λ ending. told_by a (LowerToken format_word) b (IntToken (format_number Second)) c ending rest) h.1.1.0
tells format (Next a word (Next b number (End at))) left h = absurd h.1.1
tells format (Next a word (Next b number (Faulty at kind))) left h = absurd h.1.1
tells format (Next a word (End at)) left h = absurd h.1
tells format (Next a word (Faulty at kind)) left h = absurd h.1
tells format (End at) left h = absurd h
tells format (Faulty at kind) left h = absurd h

-- those that begin with a keyword, as those of a declaration do, tell none
abbrev HasKeyword : List Written → Type 0
HasKeyword [] = ⊥
HasKeyword (written ∷ rest) = (keyword : Keyword) × (written.token ≡ KeywordToken keyword)

keyword_tells : (ws vs : List Written) (tokens left : Tokens) → HasKeyword ws → TellsTokens tokens (ws ++ vs) left → told_format (read_format tokens) ≡ First
keyword_tells [] vs tokens left k h = absurd k
keyword_tells (w ∷ ws) vs (Next at token rest) left (keyword, is) h = ap (λ token. told_format (read_format (Next at token rest))) (h.0 ∙ is)
keyword_tells (w ∷ ws) vs (End at) left k h = absurd h
keyword_tells (w ∷ ws) vs (Faulty at kind) left k h = absurd h

declaration_keyword : (d : DeclarationSyntax) → HasKeyword (declaration_tokens d)
declaration_keyword (TypeDeclaration at name constructors) = (TypeWord, refl)
declaration_keyword (StateDeclaration at of_type) = (StateWord, refl)
declaration_keyword (FunctionDeclaration at function) = (kind_keyword function.kind, refl)

-- the tokens that tell a format are tokens of the first one
number_fits : (format : Format) → int_fits (format_number format) ≡ true
number_fits First = refl
number_fits Second = refl

format_is : (format : Format) → AreTokens First (format_tokens (Some format))
format_is format = (((refl, refl, lit≤ tt), refl), (number_fits format, (refl, tt)))

-- a printed text tells the format of its program
pub printed_tells : (format : Option Format) (ds : List DeclarationSyntax) → AreTokens (format_or_first format) (program_tokens format ds)
    → told_format (read_format (tokens First (format_text format ++ declarations_text ds))) ≡ format_or_first format
printed_tells None [] h = refl
printed_tells None (d ∷ ds) h =
    let read = declarations_read_back First (d ∷ ds) start h in
    keyword_tells (declaration_tokens d) (declarations_tokens ds) (tokens First (declarations_text (d ∷ ds))) (End read.after) (declaration_keyword d) read.tell.is
printed_tells (Some format) ds h =
    let ws = format_tokens (Some format) in
    let rest = 10 ∷ declarations_text ds in
    let line = line_read First ws None start rest (format_is format) refl in
    ap (λ text. told_format (read_format (tokens First text))) (append_assoc (in_line None ws) (codes "\n") (declarations_text ds))
    ∙ tells format (tokens First (in_line None ws ++ rest)) (tokens_from First line.after rest) line.tell.is

-- and its tokens are read back
pub program_read_back : (format : Option Format) (ds : List DeclarationSyntax) → AreTokens (format_or_first format) (program_tokens format ds)
    → IsRead (format_or_first format) start (format_text format ++ declarations_text ds) (program_tokens format ds) []
program_read_back None ds h = declarations_read_back First ds start h
program_read_back (Some format) ds h =
    let parts = parts_are format (format_tokens (Some format)) (declarations_tokens ds) h in
    lines_read format (format_tokens (Some format)) (declarations_tokens ds) start (declarations_text ds) parts.0 (λ at. declarations_read_back format ds at parts.1)
