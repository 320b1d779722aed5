-- What a program declares for its bodies, as the code holds it, in the words of the definitions.
use Rattle.std.specs.Prelude.{◌≡◌, ℕ, ◌<◌, List, [], length, map, slice_index_or, All}
use Rattle.core_terms.specs.Types.{Ty, UnitTy}
use Rattle.core_terms.specs.TypeTables.{type_at}
use Rattle.core_terms.specs.ProgramTrees.{table_of, types_at}
use Rattle.core_terms.specs.declared.format.Format.{Format}
use Rattle.core_terms.specs.declared.program.FunctionId.{FunctionId}
use Rattle.core_terms.specs.declared.types.TyId.{TyId}
use Rattle.core_terms.specs.declared.term.Constructor.{Constructor}
use Rattle.core_terms.specs.declared.term.NamedType.{NamedType}
use Rattle.auth_syntax.specs.Syntax.{FunctionSyntax, DeclarationSyntax}
use Rattle.auth_syntax.specs.Trees as written
use Rattle.declared_types.specs.Signatures.{Numbered, Scope, Signature}
use Rattle.declared_types.specs.DeclaredPrograms.{constructors_in, signature_of}
use Rattle.declared_types.specs.ScopeNames.{constructors_meant}
use Rattle.declared_types.specs.WrittenTypes as defined
use Rattle.declared_types.specs.WrittenTypes.{functions_in, type_names}
use Rattle.declared_types.specs.declared.scope.Head.{Head}
use Rattle.declared_types.specs.declared.scope.Scope.{Scope as CodeScope}

-- what a function is called with and what it gives, over these types
abbrev pub signature_meant : List Ty → Head → Signature
signature_meant types head = record {
  name = head.function.now.name.name;
  parameters = types_at types head.parameters.items;
  result = type_at types head.result;
}

-- the functions of a scope, over these types
abbrev pub signatures_meant : List Ty → CodeScope → List Signature
signatures_meant types scope = map (signature_meant types) scope.heads.items

-- the scope of the definitions, in a program of this format and over these types
abbrev pub scope_meant : Format → List Ty → CodeScope → Scope
scope_meant format types scope = record {
  format = format;
  functions = signatures_meant types scope;
  constructors = constructors_meant scope.named.items;
  table = table_of types scope.named.items;
}

-- the function with a number
abbrev pub no_signature : Signature
no_signature = record { name = []; parameters = []; result = UnitTy }

abbrev pub function_meant : List Ty → CodeScope → FunctionId → Numbered Signature
function_meant types scope id = record { number = id.0; value = slice_index_or (signatures_meant types scope) id.0 no_signature }

-- the functions of the text that it holds, by number
abbrev pub functions_meant : CodeScope → List FunctionSyntax
functions_meant scope = map (λ (head : Head). written.function_of head.function.now) scope.heads.items

-- what declarations declare for the bodies, in a program of this format
abbrev pub scope_in : Format → List DeclarationSyntax → Scope
scope_in format declarations = record {
  format = format;
  functions = map (signature_of format (type_names declarations)) (functions_in declarations);
  constructors = constructors_in declarations;
  table = defined.table_of format (type_names declarations) declarations;
}

-- each number of a type that it holds is below this count
abbrev pub AreWithin : ℕ → List TyId → Type 0
AreWithin count ids = All (λ (id : TyId). id.0 < count) ids

pub record IsHeadWithin (count : ℕ) (head : Head) : Type 0 where
  pub parameters : AreWithin count head.parameters.items
  pub result : head.result.0 < count

abbrev pub IsConstructorWithin : ℕ → Constructor → Type 0
IsConstructorWithin count constructor = AreWithin count constructor.fields.items

abbrev pub IsNamedWithin : ℕ → NamedType → Type 0
IsNamedWithin count named = All (IsConstructorWithin count) named.constructors.items

pub record IsWithin (count : ℕ) (scope : CodeScope) : Type 0 where
  pub heads : All (IsHeadWithin count) scope.heads.items
  pub named : All (IsNamedWithin count) scope.named.items

-- over these types the heads stand for the signatures of their functions, in a program of this format whose types have these names
abbrev pub AreHeadsOf : Format → List (List ℕ) → List Ty → CodeScope → Type 0
AreHeadsOf format names types scope = signatures_meant types scope ≡ map (signature_of format names) (functions_meant scope)

-- a head has as many numbers of types as its function has parameters
abbrev pub IsCounted : Head → Type 0
IsCounted head = length head.parameters.items ≡ length head.function.now.parameters.items
