-- Printed programs are read back; those that texts are parsed to can be printed.
use Rattle.std.proofs.Common.{◌≡◌, List, [], ◌∷◌, ◌++◌, Option, refl, sym, ap, subst, ◌∙◌}
use Rattle.core_terms.specs.declared.format.Format.{Format}
use Rattle.core_terms.specs.declared.format.Format.TheVariants.{First}
use Rattle.lexemes.specs.declared.place.Place.{Place}
use Rattle.lexemes.specs.Places.{start}
use Rattle.lexemes.specs.Readings.{Reading, Found, FaultAt}
use Rattle.lexemes.specs.Tokens.{Tokens, Next, End, Faulty, count, tokens}
use Rattle.auth_syntax.specs.Syntax.{DeclarationSyntax, Program}
use Rattle.auth_syntax.specs.ProgramTokens.{read_format, told_format, format_or_first, text_tokens}
use Rattle.auth_syntax.specs.Grammar.{Written, AreWritten, program_tokens, IsProgramText}
use Rattle.auth_syntax.specs.Nesting.{nesting_limit}
use Rattle.auth_syntax.specs.Parsing.{Tree, read_declarations, end_of, as_program, read_program}
use Rattle.printed_syntax.specs.PrintedPrograms.{format_text, program_text}
use Rattle.printed_syntax.specs.PrintedProgramLaws.{AreTokens, CanBeWritten, PrintedProgramIsReadBack, ParsedIsReadBack}
use Rattle.auth_syntax.proofs.Beginnings.{Begins}
use Rattle.auth_syntax.proofs.Exact.{parsed_is_written, written_is_parsed}
use Rattle.printed_syntax.proofs.PrintedFormats.{printed_tells, program_read_back}
use Rattle.printed_syntax.proofs.TokensOfBothFormats.{told_again}
use Rattle.printed_syntax.proofs.MovedTrees.{program_moves}
use Rattle.printed_syntax.proofs.TokensOfTexts.{tokens_all, written_all}
use Rattle.printed_syntax.proofs.PartsWithoutPlaces.{well_formed_along}

-- up to the end of the text
begin_to_end : (ws : List Written) (tokens : Tokens) (end : Place) → Begins tokens ws (End end) → AreWritten tokens ws end
begin_to_end [] tokens end h = subst (λ (ts : Tokens). AreWritten ts [] end) (sym h) refl
begin_to_end (w ∷ ws) (Next at token rest) end h = (h.0, h.1, begin_to_end ws rest end h.2)
begin_to_end (w ∷ ws) (End at) end h = absurd h
begin_to_end (w ∷ ws) (Faulty at kind) end h = absurd h

pub printed_is_read_back : PrintedProgramIsReadBack
printed_is_read_back program h =
    let text = program_text program in
    let format = format_or_first program.format in
    let read = program_read_back program.format program.declarations h.tokens in
    let moved = (program_moves program.format program.declarations).move (tokens format text) (End read.after) read.tell in
    let again : Program = record { format = program.format; declarations = moved.thing; end = read.after } in
    let told : tokens format text ≡ text_tokens text = ap (λ format. tokens format text) (sym (printed_tells program.format program.declarations h.tokens)) in
    let written : IsProgramText text again = record {
      written = subst (λ (ts : Tokens). AreWritten ts (program_tokens program.format moved.thing) read.after) told
          (begin_to_end (program_tokens program.format moved.thing) (tokens format text) read.after moved.begin.is);
      well_formed = well_formed_along nesting_limit program.declarations moved.thing moved.is_same.0 h.well_formed;
    } in
    record {
      again = again;
      is_written = written;
      is_parsed = written_is_parsed text again written;
      is_same = ap (λ ds. record { format = program.format; declarations = ds; end = start }) moved.is_same.0;
      is_printed = ap (λ lines. format_text program.format ++ lines) moved.is_same.1;
    }

-- the program that a text is parsed to has the format that the text tells
parsed_format : (reading : Reading (Option Format)) (program : Program) → read_program reading ≡ Tree program → told_format reading ≡ format_or_first program.format
parsed_format (Found format rest) program e = by (read_declarations (count rest) rest) e where
  tree_is : {a b : Program} → Tree a ≡ Tree b → a ≡ b
  tree_is h = cc

  by : (reading : Reading (List DeclarationSyntax)) → as_program format reading ≡ Tree program → format_or_first format ≡ format_or_first program.format
  by (Found ds left) e =
      let same : record { format = format; declarations = ds; end = end_of left } ≡ program = tree_is e in ap (λ (p : Program). format_or_first p.format) same
  by (FaultAt kind at) e = absurd (cc)
parsed_format (FaultAt kind at) program e = absurd (cc)

pub parsed_is_read_back : ParsedIsReadBack
parsed_is_read_back text program e =
    let written = parsed_is_written text program e in
    let told = told_format (read_format (tokens First text)) in
    let format : told ≡ format_or_first program.format = sym (told_again told text refl) ∙ parsed_format (read_format (text_tokens text)) program e in
    let can : CanBeWritten program = record {
      tokens = subst (λ format. AreTokens format (program_tokens program.format program.declarations)) format
          (written_all told (text_tokens text) (program_tokens program.format program.declarations) program.end written.written (tokens_all told 0 start text));
      well_formed = written.well_formed;
    } in
    (can, printed_is_read_back program can)
