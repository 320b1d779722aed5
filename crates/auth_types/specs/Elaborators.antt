-- What the code elaborates bodies with, in the words of the definitions, and what its answers say.
use Rattle.std.specs.Prelude.{◌≡◌, ℕ, List, [], ◌++◌, length, map, nat_eq, slice_get, unwrap_or, Box, Vec, Result, Ok, Err, Option, None, option_map, ⊤}
use Rattle.std.specs.Global.{Global}
use Rattle.core_terms.specs.Types.{Ty, NamedTy, Table, fields_at}
use Rattle.core_terms.specs.Terms.{Expression, Expressions, CallE, ConE, MatchE}
use Rattle.core_terms.specs.Terms as tree
use Rattle.core_terms.specs.Programs.{types_in}
use Rattle.core_terms.specs.ProgramTrees.{expression_of, function_of, types_at, in_a_row, arms_in_a_row}
use Rattle.core_terms.specs.TypeTables.{type_at}
use Rattle.core_terms.specs.declared.program.FunctionId.{FunctionId}
use Rattle.core_terms.specs.declared.types.TyId.{TyId}
use Rattle.core_terms.specs.declared.types.NamedId.{NamedId}
use Rattle.core_terms.specs.declared.term.Term.{Term}
use Rattle.core_terms.specs.declared.term.Constructor.{Constructor}
use Rattle.core_terms.specs.declared.term.Function.{Function}
use Rattle.auth_syntax.specs.Syntax.{ExpSyntax, ExpsSyntax, ArmsSyntax, place_of}
use Rattle.auth_syntax.specs.Trees as written
use Rattle.lexemes.specs.declared.place.Place.{Place}
use Rattle.auth_syntax.specs.declared.tree.ExpTree.{ExpTree}
use Rattle.declared_types.specs.Checking.{Checking, Sound, FaultAt, then_checked, unless_fault}
use Rattle.auth_types.specs.Bodies.{Local, Typed, TypedArms, bound_names, called, constructed, elaborated, elaborated_arms, elaborated_each, matched, typed, wanted_arm}
use Rattle.declared_types.specs.Signatures.{Numbered, Scope, Signature}
use Rattle.declared_types.specs.Scopes.{scope_meant}
use Rattle.auth_types.specs.Locals.{locals_meant}
use Rattle.declared_types.specs.OverTypes.{Grows}
use Rattle.declared_types.specs.declared.fault.TypeKind.TheVariants.{WrongCount}
use Rattle.core_terms.specs.declared.fault.Fault.TheVariants.{At, NoMemory}
use Rattle.declared_types.specs.declared.scope.ConstructorId.{ConstructorId}
use Rattle.auth_types.specs.declared.bodies.Typed.{Typed as TypedTerm}
use Rattle.auth_types.specs.declared.bodies.TypedArms.{TypedArms as TypedBodies}
use Rattle.auth_types.specs.declared.bodies.elaborator.Elaborator.{Elaborator}
use Rattle.declared_types.specs.Findings.{TypeFault}

-- the types by number, the scope and the locals where an elaborator stands
abbrev pub types_of : Elaborator → List Ty
types_of e = types_in e.types

unfoldable pub scope_of : Elaborator → Scope
scope_of e = scope_meant e.types.format (types_in e.types) e.scope.now

unfoldable pub locals_of : Elaborator → List Local
locals_of e = locals_meant (types_in e.types) e.locals.items

-- an elaborator stands where it stood, perhaps with more types
pub record Keeps (old new : Elaborator) : Type 0 where
  pub grows : Grows (types_of old) (types_of new)
  pub scope : scope_of new ≡ scope_of old
  pub locals : locals_of new ≡ locals_of old

-- what is found of an expression, where the elaborator stands
abbrev pub found_at : Elaborator → ExpSyntax → Checking Typed
found_at e x = elaborated (scope_of e) (locals_of e) x

abbrev pub found_in : Elaborator → ExpTree → Checking Typed
found_in e tree = found_at e (written.expression_of tree)

-- a term and its type, as an expression with its type
abbrev pub boxed_of : List Ty → Box Term Global → Expression
boxed_of types term = expression_of types term.value

abbrev pub typed_of : List Ty → TypedTerm → Typed
typed_of types typed = record { expression = boxed_of types typed.term; of_type = type_at types typed.ty }

-- a term of this type shows what is found, over these types and over any with more behind them
abbrev pub ShowsTerm : List Ty → Checking Typed → Term → TyId → Type 0
ShowsTerm types found term ty = (more : List Ty) → found ≡ Sound (record { expression = expression_of (types ++ more) term; of_type = type_at (types ++ more) ty })

-- terms as expressions in a row
abbrev pub row_of : List Ty → Vec Term Global → Expressions
row_of types terms = in_a_row (map (expression_of types) terms.items)

-- terms as the arms of a match, with their type
abbrev pub arms_of : List Ty → TypedBodies → TypedArms
arms_of types arms = record { arms = arms_in_a_row (map (expression_of types) arms.bodies.items); of_type = type_at types arms.ty }

-- the function that a call names, where its arguments are as many as the function's parameters
abbrev pub Calls : Place → ℕ → Option (Numbered Signature) → (FunctionId → Numbered Signature) → Result FunctionId TypeFault → Type 0
Calls at count found meant (Ok id) = (arguments : List Ty → Checking Expressions)
    → called at count found arguments ≡ then_checked (arguments (meant id).value.parameters) (λ es. typed (CallE id.0 es) (meant id).value.result)
Calls at count found meant (Err (At kind place)) = (arguments : List Ty → Checking Expressions) → called at count found arguments ≡ FaultAt kind place
Calls at count found meant (Err NoMemory) = ⊤

-- the constructor of a name, where its fields are as many as they should be
abbrev pub Constructs : Place → ℕ → Table → Option (Numbered ℕ) → Result ConstructorId TypeFault → Type 0
Constructs at count table found (Ok id) = (fields : List Ty → Checking Expressions)
    → constructed at count table found fields ≡ then_checked (fields (unwrap_or (fields_at table id.named.0 id.tag.0) [])) (λ es. typed (ConE id.named.0 id.tag.0 es) (NamedTy id.named.0))
Constructs at count table found (Err (At kind place)) = (fields : List Ty → Checking Expressions) → constructed at count table found fields ≡ FaultAt kind place
Constructs at count table found (Err NoMemory) = ⊤

-- the named type of what is matched, whose constructors are those of the arms
abbrev pub Matches : Scope → Place → Place → Ty → List (List ℕ) → Result NamedId TypeFault → Type 0
Matches scope at subject t names (Ok named) = (e : Expression) (arms : List (List Ty) → Checking TypedArms)
    → matched scope at subject e t names arms ≡ then_checked (arms (unwrap_or (slice_get scope.table named.0) [])) (λ typed_arms. typed (MatchE named.0 e typed_arms.arms) typed_arms.of_type)
Matches scope at subject t names (Err (At kind place)) = (e : Expression) (arms : List (List Ty) → Checking TypedArms) → matched scope at subject e t names arms ≡ FaultAt kind place
Matches scope at subject t names (Err NoMemory) = ⊤

-- what is found of an arm, whose pattern has fields of these types, where the type of its body may be wanted
abbrev pub arm_found : Elaborator → Option Ty → List Ty → written.ArmSyntax → Checking Typed
arm_found e want ts arm =
    unless_fault (nat_eq (length arm.fields) (length ts)) WrongCount arm.constructor.at
    (then_checked (bound_names [] (locals_of e) arm.fields ts) (λ inner.
    wanted_arm want (place_of arm.body) (elaborated (scope_of e) inner arm.body)))

-- the type that is wanted, by its number
abbrev pub want_of : List Ty → Option TyId → Option Ty
want_of types want = option_map (type_at types) want

-- the functions of the definitions
abbrev pub functions_of : List Ty → Vec Function Global → List tree.Function
functions_of types functions = map (function_of types) functions.items

-- the types of the fields of constructors
abbrev pub fields_of : List Ty → List Constructor → List (List Ty)
fields_of types constructors = map (λ (c : Constructor). types_at types c.fields.items) constructors

-- what is found of expressions in a row, of these types, and of the arms of a match, whose patterns have fields of these types
abbrev pub row_found : Elaborator → ExpsSyntax → List Ty → Checking Expressions
row_found e xs ts = elaborated_each (scope_of e) (locals_of e) xs ts

abbrev pub arms_found : Elaborator → ArmsSyntax → List (List Ty) → Checking TypedArms
arms_found e arms tss = elaborated_arms (scope_of e) (locals_of e) arms None tss
