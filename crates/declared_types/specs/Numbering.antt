-- What the code numbers of a text: its functions, its named types and their constructors, over the types of a table.
use Rattle.std.specs.Prelude.{◌≡◌, ℕ, List, [], ◌∷◌, map, slice_get, Some}
use Rattle.std.specs.List.{AllZip}
use Rattle.core_terms.specs.Types.{Ty}
use Rattle.core_terms.specs.declared.format.Format.{Format}
use Rattle.core_terms.specs.declared.term.Constructor.{Constructor}
use Rattle.core_terms.specs.declared.term.NamedType.{NamedType}
use Rattle.auth_syntax.specs.Syntax.{FunctionSyntax, ConstructorDeclaration, DeclarationSyntax, NameSyntax, TypeDeclaration}
use Rattle.auth_syntax.specs.Trees as written
use Rattle.declared_types.specs.OverTypes.{AreNumbers}
use Rattle.declared_types.specs.WrittenTypes.{type_meant}
use Rattle.declared_types.specs.declared.scope.Head.{Head}

-- a named type that is declared, with its constructors
pub record NamedSyntax : Type 0 where
  pub name : NameSyntax
  pub constructors : List ConstructorDeclaration

-- those that are declared, in order
abbrev pub named_in : List DeclarationSyntax → List NamedSyntax
named_in [] = []
named_in (TypeDeclaration at name constructors ∷ rest) = record { name = name; constructors = constructors } ∷ named_in rest
named_in (declaration ∷ rest) = named_in rest

module _ (format : Format) (names : List (List ℕ)) (types : List Ty) where
  -- a constructor, with the numbers of its fields' types
  pub record IsConstructorOf (declared : ConstructorDeclaration) (constructor : Constructor) : Type 0 where
    pub name : constructor.name ≡ declared.name.name
    pub fields : AreNumbers types constructor.fields.items (map (type_meant format names) declared.fields)

  abbrev pub AreConstructorsOf : List ConstructorDeclaration → List Constructor → Type 0
  AreConstructorsOf declared constructors = AllZip IsConstructorOf declared constructors

  -- a named type
  pub record IsNamedOf (declared : NamedSyntax) (named : NamedType) : Type 0 where
    pub name : named.name ≡ declared.name.name
    pub constructors : AreConstructorsOf declared.constructors named.constructors.items

  -- the named types of declarations
  abbrev pub AreNamedOf : List DeclarationSyntax → List NamedType → Type 0
  AreNamedOf declarations named = AllZip IsNamedOf (named_in declarations) named

  -- a function, with the numbers of its types
  pub record IsHeadOf (declared : FunctionSyntax) (head : Head) : Type 0 where
    pub function : written.function_of head.function.now ≡ declared
    pub parameters : AreNumbers types head.parameters.items (map (λ p. type_meant format names p.of_type) declared.parameters)
    pub result : slice_get types head.result.0 ≡ Some (type_meant format names declared.result_type)
