-- The text of a program's types is what is printed of their declarations.
use Rattle.std.proofs.Common.{◌≡◌, ℕ, List, [], ◌∷◌, ◌++◌, codes, refl, sym, ap, ap₂, ◌∙◌}
use Rattle.core_terms.specs.TypeDeclarations as table
use Rattle.core_terms.specs.declared.format.Format.{Format}
use Rattle.auth_syntax.specs.ProgramTokens.{format_or_first}
use Rattle.auth_syntax.specs.Syntax.{TypeSyntax, ConstructorDeclaration, DeclarationSyntax, TypeDeclaration}
use Rattle.printed_syntax.specs.PrintedPrograms.{declarations_text}
use Rattle.declared_types.specs.Checking.{Sound}
use Rattle.declared_types.specs.WrittenTypes.{type_names, table_of, known_types, known_constructors, known_declaration, known_declarations}
use Rattle.declared_types.specs.DeclaredPrograms.{constructors_in}
use Rattle.printed_types.specs.Laws.{types_in, HaveConstructors, TypesTextIsPrinted}
use Rattle.printed_types.proofs.KnownTypes.{both_known, lengths_known, row_known, constructors_known}
use Rattle.printed_types.proofs.TextsOfTables.{line_is}
use Rattle.printed_types.proofs.LinesOfTypes.{HaveLengths, AllHaveLengths, declaration_line}

module _ (format : Format) (names : List (List ℕ)) where
  fields_have : (ts : List TypeSyntax) → known_types format names ts ≡ Sound tt → HaveLengths ts
  fields_have [] h = tt
  fields_have (t ∷ ts) h =
      let parts = row_known format names t ts h in
      (lengths_known format names t parts.0, fields_have ts parts.1)

  all_have : (cs : List ConstructorDeclaration) → known_constructors format names cs ≡ Sound tt → AllHaveLengths cs
  all_have [] h = tt
  all_have (c ∷ cs) h =
      let parts = constructors_known format names c cs h in
      (fields_have c.fields parts.0, all_have cs parts.1)

  lines_are : (ds : List DeclarationSyntax) → known_declarations format names ds ≡ Sound tt → HaveConstructors ds
      → table.declarations_text names (type_names ds) (constructors_in ds) (table_of format names ds) ≡ declarations_text (types_in ds)
  lines_are [] known h = refl
  lines_are (TypeDeclaration at name [] ∷ ds) known h = absurd h.0
  lines_are (TypeDeclaration at name (c ∷ cs) ∷ ds) known h =
      let parts = both_known (known_constructors format names (c ∷ cs)) (known_declarations format names ds) known in
      let line = line_is format names name.name (c ∷ cs) parts.0
      ∙ ap (λ (text : List ℕ). text ++ codes "\n") (sym (declaration_line at name c cs (all_have (c ∷ cs) parts.0))) in
      ap₂ (λ (first others : List ℕ). first ++ others) line (lines_are ds parts.1 h.1)
  lines_are (d ∷ ds) known h = lines_are ds (both_known (known_declaration format names d) (known_declarations format names ds) known).1 h

pub types_text_is_printed : TypesTextIsPrinted
types_text_is_printed program known h =
    lines_are (format_or_first program.format) (type_names program.declarations) program.declarations known h
