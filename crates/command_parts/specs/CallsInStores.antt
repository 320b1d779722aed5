-- Calls of roles on ideal states, as the code holds them: the state and the argument stand in a store over the prover's nodes.
use Rattle.std.specs.Prelude.{◌≡◌, ℕ, List, Option}
use Rattle.lam_outside.specs.Told.{Contents}
use Rattle.core_terms.specs.Programs.{meaning, types_of}
use Rattle.core_terms.specs.TypeTables.{type_at}
use Rattle.core_terms.specs.declared.program.Program.{Program}
use Rattle.value_store.specs.Markings.{HasLimit}
use Rattle.value_store.specs.Standing.{StandsFor}
use Rattle.value_store.specs.Stores.{nodes_in, store_lent}
use Rattle.command_parts.specs.RoleInputs.{with_fueled_role, with_ideal_call}
use Rattle.command_parts.specs.AnswerForms.{Answer}
use Rattle.command_parts.specs.FueledRoles.{NamedProgram}
use Rattle.command_parts.specs.IdealCalls as def
use Rattle.command_parts.specs.RolesCalled.{IsCalled, prover_nodes, role_of}
use Rattle.command_parts.specs.declared.ideal_calls.IdealCall.{IdealCall}
use Rattle.command_parts.specs.declared.roles.Callee.{Callee}

-- what is held is this call of a role that the command calls, in a store with the limit of the program's format
pub record HoldsCall (callee : Callee) (p : Program) (held : IdealCall) (call : def.IdealCall) : Type 0 where
  pub called : IsCalled callee p held.called
  pub role : role_of p held.called ≡ call.role
  pub state : StandsFor (prover_nodes p) (meaning p).types (nodes_in held.store) held.state.0 (meaning p).state call.state
  pub argument : StandsFor (prover_nodes p) (meaning p).types (nodes_in held.store) held.argument.0 (type_at (types_of p) held.called.argument) call.argument
  pub limit : HasLimit (meaning p) (store_lent held.store)

-- it is some such call
abbrev pub HoldsSome : Callee → Program → IdealCall → Type 0
HoldsSome callee p held = (call : def.IdealCall) × HoldsCall callee p held call

-- goes on with the call of the role of this name, on the state in an image
abbrev pub with_called : Callee → NamedProgram → (role image argument fuel : List ℕ) → Contents → (def.IdealCall → Option Answer) → Option Answer
with_called callee p role image argument fuel files go = with_fueled_role callee p role fuel (λ r. with_ideal_call r image argument files go)
