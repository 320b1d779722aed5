-- Operations on arrays, step by step: what is known of the operands before the first is judged, and of the operation behind it.
use Rattle.std.specs.Prelude.{◌≡◌, ◌<◌, ℕ, List, ◌∷◌, ◌++◌, length, map, true, Result, Ok, Err, ⊤}
use Rattle.core_terms.specs.Terms.{result_type}
use Rattle.core_terms.specs.TypeTables.{type_at}
use Rattle.core_terms.specs.declared.format.Format.{Format}
use Rattle.core_terms.specs.declared.types.TyId.{TyId}
use Rattle.core_terms.specs.ProgramTrees.{operation_of, types_at}
use Rattle.core_terms.specs.Types.{Ty}
use Rattle.core_terms.specs.declared.fault.Fault.TheVariants.{At, NoMemory}
use Rattle.lexemes.specs.declared.place.Place.{Place}
use Rattle.auth_syntax.specs.Nesting.{others_of}
use Rattle.auth_syntax.specs.Parsing.{in_a_row}
use Rattle.auth_syntax.specs.Syntax.{ArrayOperation, OperateSyntax}
use Rattle.auth_syntax.specs.Trees.{expression_of}
use Rattle.auth_syntax.specs.declared.tree.ExpTree.{ExpTree}
use Rattle.declared_types.specs.Checking.{Checking, FaultAt}
use Rattle.declared_types.specs.Findings.{TypeFault}
use Rattle.declared_types.specs.Scopes.{AreWithin}
use Rattle.declared_types.specs.Signatures.{Scope}
use Rattle.auth_types.specs.Bodies.{Local, Taken, array_at, elaborated, may_begin}
use Rattle.auth_types.specs.declared.bodies.arrays.Operands.{Operands}
use Rattle.auth_types.specs.declared.bodies.arrays.Taken.{Taken as TakenCode}

-- the operands are as many as the operation takes, and the program may have the array that a fill makes
pub record AreTaken (scope : Scope) (operation : ArrayOperation) (operands : List ExpTree) (parts : Operands) : Type 0 where
  pub both : operands ≡ parts.first.now ∷ parts.others.now
  pub count : length parts.others.now ≡ others_of operation
  pub may_begin : may_begin scope.format operation ≡ true

-- so they are, or the whole is refused
abbrev pub Begins : Scope → List Local → Place → ArrayOperation → List ExpTree → Result Operands TypeFault → Type 0
Begins scope locals at operation operands (Ok parts) = AreTaken scope operation operands parts
Begins scope locals at operation operands (Err (At kind place)) =
    elaborated scope locals (OperateSyntax at operation (in_a_row (map expression_of operands))) ≡ FaultAt kind place
Begins scope locals at operation operands (Err NoMemory) = ⊤

-- an operation with the numbers of types, in the words of the definitions
abbrev pub taken_of : List Ty → TakenCode → Taken
taken_of types taken = record { operation = operation_of types taken.operation; others = types_at types taken.others.items }

-- it takes so many others, whose types are in the table, and gives a type of it
pub record IsTaken (types : List Ty) (operation : ArrayOperation) (taken : TakenCode) : Type 0 where
  pub count : length taken.others.items ≡ others_of operation
  pub within : AreWithin (length types) taken.others.items
  pub inside : taken.ty.0 < length types
  pub whole : (more : List Ty) → type_at (types ++ more) taken.ty ≡ result_type (operation_of (types ++ more) taken.operation)

-- the type at this place is one of arrays that the program may have: of so many elements, and of this type
abbrev pub IsArrayAt : List Ty → Format → Place → Ty → Result (ℕ × TyId) TypeFault → Type 0
IsArrayAt types format at t (Ok (n, item)) = (make : ℕ → Ty → Checking Taken) → array_at format at t make ≡ make n (type_at types item)
IsArrayAt types format at t (Err (At kind place)) = (make : ℕ → Ty → Checking Taken) → array_at format at t make ≡ FaultAt kind place
IsArrayAt types format at t (Err NoMemory) = ⊤
