-- The laws of printed programs: what a reader may hold their definition to.
use Rattle.std.specs.Prelude.{◌≡◌, ℕ, ◌≤◌, Bool, true, List, [], ◌∷◌, length, None}
use Rattle.std.specs.List.{list_all}
use Rattle.std.specs.Char.{is_ascii_lowercase, is_ascii_uppercase}
use Rattle.std.specs.Str.{IsUtf8}
use Rattle.core_terms.specs.ProgramFormats.{arrays_of}
use Rattle.core_terms.specs.Values.{int_fits}
use Rattle.core_terms.specs.declared.format.Format.{Format}
use Rattle.lexemes.specs.declared.token.Keyword.{Keyword}
use Rattle.lexemes.specs.declared.token.Keyword.TheVariants.{Vec as VecWord, VecFill as VecFillWord, VecGet as VecGetWord, VecPut as VecPutWord}
use Rattle.lexemes.specs.declared.token.Mark.{Mark}
use Rattle.lexemes.specs.declared.token.Mark.TheVariants.{LeftBracket, RightBracket}
use Rattle.lexemes.specs.Tokens.{Token, KeywordToken, MarkToken, LowerToken, UpperToken, IntToken, TextToken, is_name_byte, keyword_of, name_limit, text_limit}
use Rattle.auth_syntax.specs.Syntax.{Program}
use Rattle.auth_syntax.specs.ProgramTokens.{format_or_first}
use Rattle.auth_syntax.specs.Grammar.{Written, program_tokens, AreDeclarations, IsProgramText}
use Rattle.auth_syntax.specs.Nesting.{nesting_limit}
use Rattle.auth_syntax.specs.Parsing.{parsed, Tree}
use Rattle.printed_syntax.specs.PrintedPrograms.{program_text}
use Rattle.printed_syntax.specs.WithoutPlaces.{without_places}

-- bytes that may stand in a name, at most 64, of which the first is such a letter
abbrev pub IsName : (ℕ → Bool) → List ℕ → Type 0
IsName is_first [] = ⊥
IsName is_first (b ∷ rest) = (is_first b ≡ true) × (list_all is_name_byte (b ∷ rest) ≡ true) × (length (b ∷ rest) ≤ name_limit)

-- the keywords and the marks that a format has: those of arrays are of the second alone
abbrev pub has_keyword : Format → Keyword → Bool
has_keyword format VecWord = arrays_of format
has_keyword format VecFillWord = arrays_of format
has_keyword format VecGetWord = arrays_of format
has_keyword format VecPutWord = arrays_of format
has_keyword format keyword = true

abbrev pub has_mark : Format → Mark → Bool
has_mark format LeftBracket = arrays_of format
has_mark format RightBracket = arrays_of format
has_mark format mark = true

module _ (format : Format) where
  -- A token that a text of the format can have: a keyword and a mark are the format's, a lower name is no keyword of it, an int is from -2^63
  -- to 2^63 - 1, and a text is UTF-8 of at most 65,532 bytes.
  abbrev pub IsToken : Token → Type 0
  IsToken (KeywordToken keyword) = has_keyword format keyword ≡ true
  IsToken (MarkToken mark) = has_mark format mark ≡ true
  IsToken (LowerToken name) = IsName is_ascii_lowercase name × (keyword_of format name ≡ None)
  IsToken (UpperToken name) = IsName is_ascii_uppercase name
  IsToken (IntToken z) = int_fits z ≡ true
  IsToken (TextToken bytes) = IsUtf8 bytes × (length bytes ≤ text_limit)

  abbrev pub AreTokens : List Written → Type 0
  AreTokens [] = Unit {0}
  AreTokens (written ∷ rest) = IsToken written.token × AreTokens rest

-- A program that a text can have: its words, marks, names, ints and texts are those of tokens of its format, and it is well-formed.
pub record CanBeWritten (program : Program) : Type 0 where
  pub tokens : AreTokens (format_or_first program.format) (program_tokens program.format program.declarations)
  pub well_formed : AreDeclarations nesting_limit program.declarations

-- A text of a program that is equal to this one but for places, and that is printed alike.
pub record IsReadBack (text : List ℕ) (program : Program) : Type 0 where
  pub again : Program
  pub is_written : IsProgramText text again
  pub is_parsed : parsed text ≡ Tree again
  pub is_same : without_places again ≡ without_places program
  pub is_printed : program_text again ≡ program_text program

-- The printed text of such a program is read back.
abbrev pub PrintedProgramIsReadBack : Type 0
PrintedProgramIsReadBack = (program : Program) → CanBeWritten program → IsReadBack (program_text program) program

-- What a text is parsed to is such a program, so that it can be printed and is read back.
abbrev pub ParsedIsReadBack : Type 0
ParsedIsReadBack =
    (text : List ℕ) (program : Program) → parsed text ≡ Tree program
    → CanBeWritten program × IsReadBack (program_text program) program
