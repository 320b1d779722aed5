-- What a whole program declares: its format, the types that it names, its state's type, and what its bodies may name.
use Rattle.std.specs.Prelude.{ℕ, List, [], ◌∷◌, map}
use Rattle.core_terms.specs.Types.{Ty, UnitTy}
use Rattle.core_terms.specs.declared.format.Format.{Format}
use Rattle.auth_syntax.specs.ProgramTokens.{format_or_first}
use Rattle.auth_syntax.specs.Syntax.{TypeSyntax, FunctionSyntax, DeclarationSyntax, TypeDeclaration}
use Rattle.auth_syntax.specs.Syntax as syntax
use Rattle.declared_types.specs.Checking.{Checking}
use Rattle.declared_types.specs.WrittenTypes.{type_names, type_meant, table_of, functions_in, states_in}
use Rattle.declared_types.specs.RoleRules.{checked_roles}
use Rattle.declared_types.specs.Signatures.{Signature, Scope}

-- the names of the constructors of each type that is declared
abbrev pub constructors_in : List DeclarationSyntax → List (List (List ℕ))
constructors_in [] = []
constructors_in (TypeDeclaration at name constructors ∷ rest) = map (λ c. c.name.name) constructors ∷ constructors_in rest
constructors_in (declaration ∷ rest) = constructors_in rest

abbrev pub signature_of : Format → List (List ℕ) → FunctionSyntax → Signature
signature_of format names function = record {
  name = function.name.name;
  parameters = map (λ p. type_meant format names p.of_type) function.parameters;
  result = type_meant format names function.result_type;
}

-- the type of the first state that is declared; a program that passes the first pass has exactly one
abbrev pub first_state : Format → List (List ℕ) → List TypeSyntax → Ty
first_state format names [] = UnitTy
first_state format names (t ∷ ts) = type_meant format names t

module _ (program : syntax.Program) where
  abbrev pub format_of : Format
  format_of = format_or_first program.format

  abbrev pub names_of : List (List ℕ)
  names_of = type_names program.declarations

  abbrev pub state_of : Ty
  state_of = first_state format_of names_of (states_in program.declarations)

  abbrev pub table_of_program : List (List (List Ty))
  table_of_program = table_of format_of names_of program.declarations

  -- what is declared for the bodies
  abbrev pub scope_of : Scope
  scope_of = record {
    format = format_of;
    functions = map (signature_of format_of names_of) (functions_in program.declarations);
    constructors = constructors_in program.declarations;
    table = table_of_program;
  }

  -- the third pass
  abbrev pub third_pass : Checking (Unit {0})
  third_pass = checked_roles format_of names_of table_of_program state_of (functions_in program.declarations)
