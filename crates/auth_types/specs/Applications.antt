-- Calls and constructors: what a name with expressions behind it is applied to.
use Rattle.std.specs.Prelude.{◌≡◌, ℕ, List, Result, Ok, Err, ⊤}
use Rattle.core_terms.specs.Terms.{Expression, Expressions, CallE, ConE}
use Rattle.core_terms.specs.Types.{Ty}
use Rattle.core_terms.specs.TypeTables.{type_at}
use Rattle.core_terms.specs.ProgramTrees.{types_at}
use Rattle.core_terms.specs.declared.fault.Fault.TheVariants.{At, NoMemory}
use Rattle.lexemes.specs.declared.place.Place.{Place}
use Rattle.declared_types.specs.Checking.{Checking, FaultAt, then_checked}
use Rattle.declared_types.specs.Findings.{TypeFault}
use Rattle.declared_types.specs.Signatures.{Scope, constructor_named, function_named}
use Rattle.auth_types.specs.Bodies.{Typed, called, constructed, typed}
use Rattle.auth_types.specs.declared.bodies.calls.Applied.{Applied}
use Rattle.auth_types.specs.declared.bodies.calls.Applied.TheVariants.{Function, Constructor}
use Rattle.auth_types.specs.declared.bodies.calls.Callee.{Callee}
use Rattle.auth_types.specs.declared.bodies.calls.Space.{Space}
use Rattle.auth_types.specs.declared.bodies.calls.Space.TheVariants.{Functions, Constructors}

-- what is found of a name of a space with so many expressions behind it, of which `each` is what is found by their types
abbrev pub application : Scope → Space → Place → List ℕ → ℕ → (List Ty → Checking Expressions) → Checking Typed
application scope Functions at name count each = called at count (function_named 0 scope.functions name) each
application scope Constructors at name count each = constructed at count scope.table (constructor_named 0 scope.constructors name) each

abbrev pub applied_expression : Applied → Expressions → Expression
applied_expression (Function id) es = CallE id.0 es
applied_expression (Constructor id) es = ConE id.named.0 id.tag.0 es

-- the name is there, with parts of these types, as many as stand behind it
abbrev pub Applies : Scope → Space → Place → List ℕ → ℕ → List Ty → Result Callee TypeFault → Type 0
Applies scope space at name count types (Ok callee) = (each : List Ty → Checking Expressions)
    → application scope space at name count each
    ≡ then_checked (each (types_at types callee.types.now)) (λ es. typed (applied_expression callee.applied es) (type_at types callee.ty))
Applies scope space at name count types (Err (At kind place)) = (each : List Ty → Checking Expressions)
    → application scope space at name count each ≡ FaultAt kind place
Applies scope space at name count types (Err NoMemory) = ⊤
