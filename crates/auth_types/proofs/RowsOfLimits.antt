-- Limits that only long texts reach: what is found behind so many parts already.
use Rattle.std.proofs.Common.{◌≡◌, ℕ, true, List, [], ◌∷◌, Option, Some, None, replicate, refl}
use Rattle.std.specs.Prelude.{codes}
use Rattle.core_terms.specs.Types.{IntTy}
use Rattle.core_terms.specs.declared.format.Format.TheVariants.{First}
use Rattle.auth_syntax.specs.Syntax.{FunctionSyntax, ConstructorDeclaration, DeclarationSyntax, TypeDeclaration}
use Rattle.auth_syntax.specs.Parsing.{Parsed, Tree, parsed}
use Rattle.declared_types.specs.Checking.{Checking, Sound, FaultAt}
use Rattle.declared_types.specs.Declarations.{checked_constructors, checked_declarations}
use Rattle.declared_types.specs.WrittenTypes.{functions_in}
use Rattle.auth_types.specs.Bodies.{elaborated}
use Rattle.auth_types.specs.CheckedPrograms.{Checked, FirstFault}
use Rattle.declared_types.specs.declared.fault.TypeKind.TheVariants.{Twice, Limit, WrongType}
use Rattle.declared_types.specs.declared.fault.Limited.TheVariants.{Types, Constructors, Functions, Locals}

-- the first fault, if there is one
abbrev fault : {A : Type 0} → Checking A → Option Checked
fault (Sound value) = None
fault (FaultAt kind at) = Some (FirstFault kind at.line at.column)

-- what a text declares
abbrev declarations : Parsed → List DeclarationSyntax
declarations (Tree program) = program.declarations
declarations parsed = []

-- the first pass of a text, behind so many types, constructors and functions of the name `a` or `A`
abbrev behind_names : (types constructors functions : ℕ) → List ℕ → Option Checked
behind_names types constructors functions text =
    fault (checked_declarations (record {
      types = replicate types (codes "a");
      constructors = replicate constructors (codes "A");
      functions =
          replicate functions (codes "a");
      state = true;
    })
    (declarations (parsed text)))

a_257th_type : behind_names 256 0 0 (codes "type b = B;") ≡ Some (FirstFault (Limit Types) 1 6)
a_257th_type = refl

a_256th_type : behind_names 255 0 0 (codes "type b = B; type c = C;") ≡ Some (FirstFault (Limit Types) 1 18)
a_256th_type = refl

twice_at_a_257th_type : behind_names 256 0 0 (codes "type a = B;") ≡ Some (FirstFault Twice 1 6)
twice_at_a_257th_type = refl

constructors_of_other_types_are_not_counted : behind_names 0 1000 0 (codes "type b = B | C;") ≡ None
constructors_of_other_types_are_not_counted = refl

a_1025th_function : behind_names 0 0 1024 (codes "init f(x: int): int = x;") ≡ Some (FirstFault (Limit Functions) 1 6)
a_1025th_function = refl

a_1024th_function : behind_names 0 0 1023 (codes "fun f(x: int): int = x; query g(x: int, x: int): int = x;") ≡ Some (FirstFault (Limit Functions) 1
    31)
a_1024th_function = refl

twice_at_a_1025th_function : behind_names 0 0 1024 (codes "init a(x: int): int = x;") ≡ Some (FirstFault Twice 1 6)
twice_at_a_1025th_function = refl

-- the constructors of a text's first type, behind so many of the name `A` in that type
abbrev first_constructors : List DeclarationSyntax → List ConstructorDeclaration
first_constructors (TypeDeclaration at name constructors ∷ rest) = constructors
first_constructors declarations = []

abbrev behind_constructors : ℕ → List ℕ → Option Checked
behind_constructors n text = fault (checked_constructors n (replicate n (codes "A")) (first_constructors (declarations (parsed text))))

a_256th_constructor : behind_constructors 255 (codes "type a = B;") ≡ Some (FirstFault (Limit Constructors) 1 10)
a_256th_constructor = refl

a_255th_constructor : behind_constructors 254 (codes "type a = B | C;") ≡ Some (FirstFault (Limit Constructors) 1 14)
a_255th_constructor = refl

twice_at_a_256th_constructor : behind_constructors 255 (codes "type a = A;") ≡ Some (FirstFault Twice 1 10)
twice_at_a_256th_constructor = refl

-- the body of a text's first function, behind so many locals of the name `x`, which are ints
abbrev of_body : ℕ → List FunctionSyntax → Option Checked
of_body n (function ∷ rest) =
    fault (elaborated (record { format = First; functions = []; constructors = (codes "A" ∷ []) ∷ []; table = ((IntTy ∷ []) ∷ []) ∷ [] })
    (replicate n (record { name = codes "x"; of_type = IntTy })) function.body)
of_body n [] = None

abbrev behind_locals : ℕ → List ℕ → Option Checked
behind_locals n text = of_body n (functions_in (declarations (parsed text)))

a_256th_local : behind_locals 255 (codes "fun f(x: int): int = let y = x in z;") ≡ Some (FirstFault (Limit Locals) 1 26)
a_256th_local = refl

a_255th_local : behind_locals 254 (codes "fun f(x: int): int = let y = x in let z = y in z;") ≡ Some (FirstFault (Limit Locals) 1 39)
a_255th_local = refl

locals_end : behind_locals 254 (codes "fun f(x: int): int = add(let y = x in y, let y = x in y);") ≡ None
locals_end = refl

a_256th_local_in_a_pattern : behind_locals 255 (codes "fun f(x: int): int = match A(x) with | A(y) -> y end;") ≡ Some (FirstFault (Limit Locals) 1 42)
a_256th_local_in_a_pattern = refl

a_bound_part_before_a_256th_local : behind_locals 255 (codes "fun f(x: int): int = let y = add(true, x) in y;") ≡ Some (FirstFault WrongType 1 34)
a_bound_part_before_a_256th_local = refl
