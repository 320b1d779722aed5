-- What the code holds behind the first passes, in the words of the definitions.
use Rattle.std.specs.Prelude.{◌≡◌, ◌<◌, List, length}
use Rattle.core_terms.specs.Programs.{type_names}
use Rattle.core_terms.specs.TypeTables.{type_at}
use Rattle.core_terms.specs.Types.{Ty}
use Rattle.core_terms.specs.declared.types.TyId.{TyId}
use Rattle.auth_syntax.specs.Syntax.{Program}
use Rattle.declared_types.specs.Checking.{Checking, then_checked}
use Rattle.declared_types.specs.DeclaredPrograms.{format_of, names_of, scope_of, state_of}
use Rattle.declared_types.specs.Declarations.{first_pass}
use Rattle.declared_types.specs.Scopes.{IsWithin, functions_meant, scope_meant}
use Rattle.declared_types.specs.WrittenTypes.{functions_in, second_pass}
use Rattle.declared_types.specs.declared.scope.Scope.{Scope}

-- the first two passes, one after the other
abbrev pub names_known : Program → Checking (Unit {0})
names_known program = then_checked (first_pass program) (λ _. second_pass program)

-- over these types, a scope and the number of the state's type stand for what a program declares
pub record TableStandsFor (program : Program) (types : List Ty) (held : Scope) (number : TyId) : Type 0 where
  pub scope : scope_meant (format_of program) types held ≡ scope_of program
  pub functions : functions_meant held ≡ functions_in program.declarations
  pub names : type_names held.named.items ≡ names_of program
  pub within : IsWithin (length types) held
  pub state : type_at types number ≡ state_of program
  pub inside : number.0 < length types
