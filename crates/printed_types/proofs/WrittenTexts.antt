-- The text of types and constructors as they are written, before what stands behind it.
use Rattle.std.specs.Prelude.{ℕ, List, [], ◌∷◌, ◌++◌, codes}
use Rattle.core_terms.specs.TypeDeclarations.{length_text}
use Rattle.auth_syntax.specs.Syntax.{TypeSyntax, UnitTypeSyntax, BoolTypeSyntax, IntTypeSyntax, TextTypeSyntax, NamedTypeSyntax, AuthTypeSyntax, PairTypeSyntax, VecTypeSyntax, ConstructorDeclaration}

-- behind `auth` stands a blank, but before a parenthesis
abbrev pub blank_before_type : TypeSyntax → List ℕ
blank_before_type (PairTypeSyntax at first second) = []
blank_before_type t = codes " "

abbrev pub type_before : TypeSyntax → List ℕ → List ℕ
type_before (UnitTypeSyntax at) rest = codes "unit" ++ rest
type_before (BoolTypeSyntax at) rest = codes "bool" ++ rest
type_before (IntTypeSyntax at) rest = codes "int" ++ rest
type_before (TextTypeSyntax at) rest = codes "text" ++ rest
type_before (NamedTypeSyntax at name) rest = name ++ rest
type_before (AuthTypeSyntax at inner) rest = codes "auth" ++ (blank_before_type inner ++ type_before inner rest)
type_before (PairTypeSyntax at first second) rest = codes "(" ++ type_before first (codes ", " ++ type_before second (codes ")" ++ rest))
type_before (VecTypeSyntax at n item) rest = codes "vec[" ++ (length_text n ++ (codes "] " ++ type_before item rest))

-- types behind a first one, and the fields of a constructor
abbrev pub more_before : List TypeSyntax → List ℕ → List ℕ
more_before [] rest = rest
more_before (t ∷ ts) rest = codes ", " ++ type_before t (more_before ts rest)

abbrev pub fields_before : List TypeSyntax → List ℕ → List ℕ
fields_before [] rest = rest
fields_before (t ∷ ts) rest = codes "(" ++ type_before t (more_before ts (codes ")" ++ rest))

-- a constructor, constructors behind a first one, and those of a type
abbrev pub constructor_before : ConstructorDeclaration → List ℕ → List ℕ
constructor_before constructor rest = constructor.name.name ++ fields_before constructor.fields rest

abbrev pub others_before : List ConstructorDeclaration → List ℕ → List ℕ
others_before [] rest = rest
others_before (c ∷ cs) rest = codes " | " ++ constructor_before c (others_before cs rest)

abbrev pub constructors_before : List ConstructorDeclaration → List ℕ → List ℕ
constructors_before [] rest = rest
constructors_before (c ∷ cs) rest = codes " = " ++ constructor_before c (others_before cs rest)

-- the declaration of a type, but for its semicolon
abbrev pub declaration_before : List ℕ → List ConstructorDeclaration → List ℕ → List ℕ
declaration_before name constructors rest = codes "type " ++ (name ++ constructors_before constructors rest)
