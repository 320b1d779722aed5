-- The text of a program's types tells their names, their constructors and their table.
use Rattle.std.proofs.Common.{◌≡◌, ℕ, List, [], ◌∷◌, ◌++◌, codes, refl, sym, ap, ap₂, ◌∙◌}
use Rattle.core_terms.specs.Types.{Ty, Table}
use Rattle.core_terms.specs.TypeDeclarations as table
use Rattle.core_terms.specs.declared.format.Format.{Format}
use Rattle.auth_syntax.specs.ProgramTokens.{format_or_first}
use Rattle.auth_syntax.specs.Syntax.{DeclarationSyntax, TypeDeclaration, Program}
use Rattle.auth_syntax.specs.Grammar.{declarations_tokens, format_tokens}
use Rattle.auth_syntax.specs.Nesting.{nesting_limit}
use Rattle.printed_syntax.specs.PrintedProgramLaws.{ParsedIsReadBack}
use Rattle.declared_types.specs.Checking.{Sound}
use Rattle.declared_types.specs.WrittenTypes.{type_names, table_of, known_constructors, known_declaration, known_declarations}
use Rattle.declared_types.specs.DeclaredPrograms.{constructors_in, names_of}
use Rattle.printed_types.specs.Laws.{types_text_of, HasKnownTypes, EqualTextsAreEqualTables}
use Rattle.printed_types.proofs.KnownTypes.{both_known, constructors_in_second}
use Rattle.printed_types.proofs.WrittenTexts.{declaration_before}
use Rattle.printed_types.proofs.TextsOfTables.{declaration_is}
use Rattle.printed_types.proofs.SpelledTypes.{AreSpelledDeclarations, parts_are, declarations_spelled}
use Rattle.printed_types.proofs.DeclarationsApart.{written_types, types_before, AreSpelledTypes, names_in, all_constructor_names, table_meant, types_same}

-- what a program declares is what its written types are
names_are : (ds : List DeclarationSyntax) → type_names ds ≡ names_in (written_types ds)
names_are [] = refl
names_are (TypeDeclaration at name cs ∷ ds) = ap (λ (others : List (List ℕ)). name.name ∷ others) (names_are ds)
names_are (d ∷ ds) = names_are ds

constructors_are : (ds : List DeclarationSyntax) → constructors_in ds ≡ all_constructor_names (written_types ds)
constructors_are [] = refl
constructors_are (TypeDeclaration at name cs ∷ ds) = ap₂ (λ (first : List (List ℕ)) (others : List (List (List ℕ))). first ∷ others) refl (constructors_are ds)
constructors_are (d ∷ ds) = constructors_are ds

types_spelled : (ds : List DeclarationSyntax) → AreSpelledDeclarations ds → AreSpelledTypes (written_types ds)
types_spelled [] h = tt
types_spelled (TypeDeclaration at name cs ∷ ds) h = (h.0, types_spelled ds h.1)
types_spelled (d ∷ ds) h = types_spelled ds h

module _ (format : Format) (names : List (List ℕ)) where
  table_is : (ds : List DeclarationSyntax) → known_declarations format names ds ≡ Sound tt → table_of format names ds ≡ table_meant names (written_types ds)
  table_is [] known = refl
  table_is (TypeDeclaration at name cs ∷ ds) known =
      let parts = both_known (known_constructors format names cs) (known_declarations format names ds) known in
      ap₂ (λ (rows : List (List Ty)) (others : Table). rows ∷ others) (constructors_in_second format names cs parts.0) (table_is ds parts.1)
  table_is (d ∷ ds) known = table_is ds (both_known (known_declaration format names d) (known_declarations format names ds) known).1

  text_is : (ds : List DeclarationSyntax) → known_declarations format names ds ≡ Sound tt
      → table.declarations_text names (type_names ds) (constructors_in ds) (table_of format names ds) ≡ types_before (written_types ds)
  text_is [] known = refl
  text_is (TypeDeclaration at name cs ∷ ds) known =
      let parts = both_known (known_constructors format names cs) (known_declarations format names ds) known in
      declaration_is format names name.name cs (table.declarations_text names (type_names ds) (constructors_in ds) (table_of format names ds)) parts.0
      ∙ ap (λ (others : List ℕ). declaration_before name.name cs (codes ";\n" ++ others)) (text_is ds parts.1)
  text_is (d ∷ ds) known = text_is ds (both_known (known_declaration format names d) (known_declarations format names ds) known).1

-- the types of a program with a text are spelled
program_spelled : ParsedIsReadBack → (program : Program) → HasKnownTypes program → AreSpelledTypes (written_types program.declarations)
program_spelled parsed_is_read_back program h =
    let can = (parsed_is_read_back h.text program h.is_parsed).0 in
    let format = format_or_first program.format in
    let tokens = parts_are format (format_tokens program.format) (declarations_tokens program.declarations) can.tokens in
    types_spelled program.declarations (declarations_spelled format nesting_limit program.declarations tokens.1 can.well_formed)

program_text_is : (program : Program) → HasKnownTypes program → types_text_of program ≡ types_before (written_types program.declarations)
program_text_is program h = text_is (format_or_first program.format) (names_of program) program.declarations h.are_known

pub equal_texts_are_equal_tables : ParsedIsReadBack → EqualTextsAreEqualTables
equal_texts_are_equal_tables parsed_is_read_back one other h k e =
    let ts = written_types one.declarations in
    let us = written_types other.declarations in
    let same = types_same (names_of one) ts us (program_spelled parsed_is_read_back one h) (program_spelled parsed_is_read_back other k)
    (sym (program_text_is one h) ∙ e ∙ program_text_is other k) in
    let names : names_of one ≡ names_of other = names_are one.declarations ∙ same.0 ∙ sym (names_are other.declarations) in
    record {
      names = names;
      constructors = constructors_are one.declarations ∙ same.1 ∙ sym (constructors_are other.declarations);
      table = table_is (format_or_first one.format) (names_of one) one.declarations h.are_known
          ∙ same.2
          ∙ ap (λ (ns : List (List ℕ)). table_meant ns us) names
          ∙ sym (table_is (format_or_first other.format) (names_of other) other.declarations k.are_known);
    }
