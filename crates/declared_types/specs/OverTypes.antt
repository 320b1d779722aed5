-- What answers of the checker that hold numbers of types say: over the types of a table, and over any with more behind them.
use Rattle.std.specs.Prelude.{◌≡◌, List, ◌++◌, map, slice_get, Some, Result, Ok, Err, ⊤}
use Rattle.core_terms.specs.Types.{Ty}
use Rattle.core_terms.specs.declared.types.TyId.{TyId}
use Rattle.auth_syntax.specs.Syntax.{FunctionSyntax}
use Rattle.auth_syntax.specs.Trees as written
use Rattle.auth_syntax.specs.declared.tree.Declaration.{Declaration}
use Rattle.declared_types.specs.Checking.{Checking, Sound, FaultAt}
use Rattle.declared_types.specs.WrittenTypes.{functions_in}
use Rattle.declared_types.specs.Findings.{TypeFault}
use Rattle.core_terms.specs.declared.fault.Fault.TheVariants.{At, NoMemory}

-- the value shows what is found, over these types and over any with more behind them
abbrev pub Shows : {A B : Type 0} → List Ty → (List Ty → A → B) → Checking B → A → Type 0
Shows types view found value = (more : List Ty) → found ≡ Sound (view (types ++ more) value)

-- Ok shows what a part stands for; a refusal gives its first fault
abbrev pub FindsOver : {A B : Type 0} → List Ty → (List Ty → A → B) → Checking B → Result A TypeFault → Type 0
FindsOver types view found (Ok value) = Shows types view found value
FindsOver types view found (Err (At kind at)) = found ≡ FaultAt kind at
FindsOver types view found (Err NoMemory) = ⊤

-- each type keeps its number
abbrev pub Grows : List Ty → List Ty → Type 0
Grows old new = (more : List Ty) × (new ≡ old ++ more)

-- these are the numbers of these types
abbrev pub AreNumbers : List Ty → List TyId → List Ty → Type 0
AreNumbers types ids ts = map (λ id. slice_get types id.0) ids ≡ map Some ts

-- the functions among the declarations of a tree
abbrev pub functions_written : List Declaration → List FunctionSyntax
functions_written declarations = functions_in (map written.declaration_of declarations)
