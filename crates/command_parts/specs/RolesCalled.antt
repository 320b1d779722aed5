-- The roles that a command calls and how they ended, as the code tells it.
use Rattle.std.specs.Prelude.{◌≡◌, ◌≤◌, ◌^◌, ℕ, true, List, Option, Some, None}
use Rattle.sha2.specs.Sha256.{sha256}
use Rattle.core_terms.specs.Programs.{constructor_names, meaning, types_of}
use Rattle.core_terms.specs.Projection.{digest_at, projection}
use Rattle.core_terms.specs.RoleViews.{role_kind_of}
use Rattle.core_terms.specs.RoleTypes.{IsRole, role_result}
use Rattle.core_terms.specs.TypeTables.{type_at}
use Rattle.core_terms.specs.Types.{Ty}
use Rattle.core_terms.specs.Values.{Value}
use Rattle.core_terms.specs.declared.program.Program.{Program}
use Rattle.core_terms.specs.declared.roles.Role.{Role}
use Rattle.ideal_meaning.specs.Ideal.{Outcome, Done}
use Rattle.printed_lines.specs.OutcomeLines.{named_done_line}
use Rattle.mode_vm.specs.IdealRuns.{IsOutcome}
use Rattle.value_store.specs.Markings.{HasLimit}
use Rattle.value_store.specs.Nodes.{Node}
use Rattle.value_store.specs.Standing.{Kind, ProverNodes, StandsFor}
use Rattle.value_store.specs.Stores.{nodes_in, store_lent}
use Rattle.value_store.specs.declared.node.Ref.{Ref}
use Rattle.command_parts.specs.FueledRoles.{FueledRole}
use Rattle.command_parts.specs.ReadPrograms.{named_of}
use Rattle.command_parts.specs.RoleCalls.{EndedRole, is_called, kind_called, result_called, state_made}
use Rattle.command_parts.specs.declared.machine_calls.Ended.{Ended}
use Rattle.command_parts.specs.declared.roles.CalledRole.{CalledRole}
use Rattle.command_parts.specs.declared.roles.Callee.{Callee}
use Rattle.command_parts.specs.declared.roles.Callee.TheVariants.{Init, OfState}

-- the role of the definitions
abbrev pub role_of : Program → CalledRole → FueledRole
role_of p called = record { program = named_of p; role = called.function.0; fuel = called.fuel }

-- It is a role of the program, in the shape of its kind, and one that the command calls.
pub record IsRoleOf (callee : Callee) (p : Program) (role : Role) : Type 0 where
  pub answer : Ty
  pub shape : IsRole (meaning p) role.function.0 (role_kind_of role.kind) (type_at (types_of p) role.argument) answer
  pub result : type_at (types_of p) role.result ≡ role_result (role_kind_of role.kind) (meaning p).state answer
  pub called : is_called callee (role_kind_of role.kind) ≡ true

-- the same of one with its fuel, which is within its limit
pub record IsCalled (callee : Callee) (p : Program) (role : CalledRole) : Type 0 where
  pub answer : Ty
  pub shape : IsRole (meaning p) role.function.0 (role_kind_of role.kind) (type_at (types_of p) role.argument) answer
  pub result : type_at (types_of p) role.result ≡ role_result (role_kind_of role.kind) (meaning p).state answer
  pub called : is_called callee (role_kind_of role.kind) ≡ true
  pub fuel_fits : role.fuel ≤ 10 ^ 12

-- the nodes of a prover of the program, with SHA-256 digests
abbrev pub prover_nodes : Program → Kind
prover_nodes p = ProverNodes (digest_at sha256 (meaning p))

-- the line of a value of a type: its projection, with the names of constructors
abbrev pub projection_line : Program → Ty → Value → List ℕ
projection_line p t v =
    named_done_line (meaning p).types (constructor_names p.types.named.items) t (projection sha256 (meaning p) t v)

-- the role was called and ended in this outcome, whose value stands in the store, which has the limit of the program's format
pub record EndsIn (callee : Callee) (p : Program) (ended : Ended) (o : Outcome) : Type 0 where
  pub called : IsCalled callee p ended.called
  pub outcome : IsOutcome (prover_nodes p) (meaning p).types (nodes_in ended.store) (result_called (role_of p ended.called)) ended.outcome o
  pub limit : HasLimit (meaning p) (store_lent ended.store)

abbrev pub HasEnded : Callee → Program → Ended → Type 0
HasEnded callee p ended = (o : Outcome) × EndsIn callee p ended o

-- it is this role, and ended so
abbrev pub IsEnded : Callee → Program → Ended → EndedRole → Type 0
IsEnded callee p ended meant = (meant.role ≡ role_of p ended.called) × EndsIn callee p ended meant.outcome

-- the roles that a command calls read a state
abbrev pub CallsOnStates : Callee → Type 0
CallsOnStates Init = ⊥
CallsOnStates callee = Unit {0}

-- they make one, each of them
abbrev pub MakesStates : Callee → Type 0
MakesStates OfState = ⊥
MakesStates callee = Unit {0}

-- what stands for the state that an outcome makes, where it makes one
abbrev pub IsStateMade : Program → FueledRole → List Node → Option Ref → Outcome → Type 0
IsStateMade p r nodes (Some root) o = (v : Value) × (o ≡ Done v) × StandsFor (prover_nodes p) (meaning p).types nodes root.0 (meaning p).state (state_made (kind_called r) v)
IsStateMade p r nodes None o = (v : Value) → o ≡ Done v → ⊥
