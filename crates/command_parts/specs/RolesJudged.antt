-- Calls of roles on the spelling of a state, as the code tells them.
use Rattle.std.specs.Prelude.{ℕ, List, Option}
use Rattle.lam_outside.specs.Told.{Contents}
use Rattle.core_terms.specs.Spelling.{spelling}
use Rattle.core_terms.specs.declared.program.Program.{Program}
use Rattle.command_parts.specs.RoleInputs as role_inputs
use Rattle.command_parts.specs.RoleInputs.{with_fueled_role, with_passed, with_role_call}
use Rattle.command_parts.specs.AnswerForms.{Answer}
use Rattle.command_parts.specs.FueledRoles.{FueledRole, NamedProgram}
use Rattle.command_parts.specs.RolesCalled.{role_of}
use Rattle.command_parts.specs.declared.calls.RoleCall.{RoleCall}
use Rattle.command_parts.specs.declared.roles.Callee.{Callee}

-- the call of the definitions
abbrev pub call_meant : Program → RoleCall → role_inputs.RoleCall
call_meant p call = record { role = role_of p call.called; state = call.state.items; argument = call.argument }

-- goes on with the spelling of the value of what is passed to a role
abbrev pub with_spelled : FueledRole → List ℕ → (List ℕ → Option Answer) → Option Answer
with_spelled r text go = with_passed r text (λ a. go (spelling a))

-- goes on with the call of the role of this name, on the state that a file spells
abbrev pub with_named_call : Callee → NamedProgram → (role fuel state argument : List ℕ) → Contents → (role_inputs.RoleCall → Option Answer) → Option Answer
with_named_call callee p role fuel state argument files go = with_fueled_role callee p role fuel (λ r. with_role_call r state argument files go)
