-- The laws of the text of a program's types, which their fingerprints are made of: what a reader may hold its definition to.
use Rattle.std.specs.Prelude.{◌≡◌, ℕ, List, [], ◌∷◌}
use Rattle.core_terms.specs.TypeDeclarations.{types_text}
use Rattle.auth_syntax.specs.Syntax.{DeclarationSyntax, TypeDeclaration, Program}
use Rattle.auth_syntax.specs.Grammar.{IsSome}
use Rattle.auth_syntax.specs.Parsing.{parsed, Tree}
use Rattle.printed_syntax.specs.PrintedPrograms.{declarations_text}
use Rattle.declared_types.specs.Checking.{Sound}
use Rattle.declared_types.specs.WrittenTypes.{second_pass}
use Rattle.declared_types.specs.DeclaredPrograms.{constructors_in, names_of, table_of_program}

-- the declarations of types among declarations, in order
abbrev pub types_in : List DeclarationSyntax → List DeclarationSyntax
types_in [] = []
types_in (TypeDeclaration at name constructors ∷ rest) = TypeDeclaration at name constructors ∷ types_in rest
types_in (declaration ∷ rest) = types_in rest

-- each type that is declared has a constructor
abbrev pub HaveConstructors : List DeclarationSyntax → Type 0
HaveConstructors [] = Unit {0}
HaveConstructors (TypeDeclaration at name constructors ∷ rest) = IsSome constructors × HaveConstructors rest
HaveConstructors (declaration ∷ rest) = HaveConstructors rest

-- the text of a program's types, which is made from their names, those of their constructors, and their table
abbrev pub types_text_of : Program → List ℕ
types_text_of program = types_text (names_of program) (constructors_in program.declarations) (table_of_program program)

-- It is what is printed of their declarations, where the written types are known. A type without a constructor, which no text declares, is
-- printed otherwise: with an equals sign.
abbrev pub TypesTextIsPrinted : Type 0
TypesTextIsPrinted =
    (program : Program) → second_pass program ≡ Sound tt → HaveConstructors program.declarations
    → types_text_of program ≡ declarations_text (types_in program.declarations)

-- A program that a text is parsed to and whose written types are known, as those of each checked program are.
pub record HasKnownTypes (program : Program) : Type 0 where
  pub text : List ℕ
  pub is_parsed : parsed text ≡ Tree program
  pub are_known : second_pass program ≡ Sound tt

-- Two programs have the same types: their names, the names of their constructors, and the types of these constructors' fields, in order.
pub record HaveSameTypes (one other : Program) : Type 0 where
  pub names : names_of one ≡ names_of other
  pub constructors : constructors_in one.declarations ≡ constructors_in other.declarations
  pub table : table_of_program one ≡ table_of_program other

-- Programs whose types have the same text have the same types, also where one is of the first format and the other of the second.
abbrev pub EqualTextsAreEqualTables : Type 0
EqualTextsAreEqualTables =
    (one other : Program) → HasKnownTypes one → HasKnownTypes other → types_text_of one ≡ types_text_of other → HaveSameTypes one other
