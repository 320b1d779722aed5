-- Calls of roles, as words and files give them: on spellings and on ideal states, and how they end.
use Rattle.std.specs.Prelude.{ℕ, List, Option, Some, None, if◌then◌else◌}
use Rattle.sha2.specs.Sha256.{sha256}
use Rattle.command_words.specs.declared.command.Command.TheVariants.{Init}
use Rattle.lam_outside.specs.Told.{Contents}
use Rattle.core_terms.specs.Values.{Value, NoV, AndV}
use Rattle.core_terms.specs.Terms.{Program, function_at}
use Rattle.core_terms.specs.Roles.{role_named, argument_type}
use Rattle.core_terms.specs.Spelling.{spelling}
use Rattle.ideal_meaning.specs.Checked as checked
use Rattle.ideal_meaning.specs.Checked.{verdict}
use Rattle.printed_lines.specs.declared.refusal.InputFault.TheVariants.{RoleUnknown, RoleKind}
use Rattle.command_parts.specs.FueledRoles.{FueledRole, NamedProgram}
use Rattle.command_parts.specs.IdealCalls.{IdealCall, ended_call}
use Rattle.command_parts.specs.RoleCalls.{EndedRole, ended_with, is_called, passed_literal, program_called}
use Rattle.command_parts.specs.declared.roles.Callee.{Callee}
use Rattle.command_parts.specs.declared.roles.Callee.TheVariants as callee
use Rattle.command_parts.specs.AnswerForms.{Answer}
use Rattle.command_parts.specs.RefusedAnswers.{input_refused}
use Rattle.command_parts.specs.FileInputs.{with_fuel, with_image_file, with_literal, with_state_file}

-- goes on with the role of this number, where it is one that the command calls
abbrev pub with_role_at : Callee → Program → Option ℕ → (ℕ → Option Answer) → Option Answer
with_role_at callee P None go = Some (input_refused RoleUnknown)
with_role_at callee P (Some f) go = if is_called callee (function_at P f).kind then go f else Some (input_refused RoleKind)

abbrev pub with_role : Callee → Program → List ℕ → (ℕ → Option Answer) → Option Answer
with_role callee P name go = with_role_at callee P (role_named P name) go

-- goes on with the role of this name, and then with the fuel
abbrev pub with_fueled_role : Callee → NamedProgram → (role fuel : List ℕ) → (FueledRole → Option Answer) → Option Answer
with_fueled_role callee p role fuel go =
    with_role callee p.digested.program role (λ f.
    with_fuel fuel (λ k.
    go (record { program = p; role = f; fuel = k })))

-- goes on with the value of what is passed to a role
abbrev pub with_passed : FueledRole → List ℕ → (Value → Option Answer) → Option Answer
with_passed r text go = with_literal (passed_literal r text) go

-- a call of a query or an update, with the spellings of its state and argument
pub record RoleCall : Type 0 where
  pub role : FueledRole
  pub state : List ℕ
  pub argument : List ℕ

-- goes on with the call of a role on the state that a file spells, and then on what is passed to it
abbrev pub with_role_call : FueledRole → (state argument : List ℕ) → Contents → (RoleCall → Option Answer) → Option Answer
with_role_call r state argument files go =
    with_state_file (program_called r) (files state) (λ s.
    with_passed r argument (λ a.
    go (record { role = r; state = s; argument = spelling a })))

-- the verdict on a proof of a call
unfoldable pub role_verdict : RoleCall → List ℕ → checked.Verdict
role_verdict call proof =
    let r = call.role in
    let P = program_called r in
    verdict sha256 P (argument_type P r.role) r.role call.state call.argument r.fuel proof

-- goes on with an init that was called, and how it ended: the role, the fuel and the argument in this order
abbrev pub with_ended_init : NamedProgram → (role argument fuel : List ℕ) → (EndedRole → Option Answer) → Option Answer
with_ended_init p role argument fuel go =
    with_fueled_role callee.Init p role fuel (λ r.
    with_passed r argument (λ a.
    go (ended_with r (AndV a NoV))))

-- goes on with the call of a role on the ideal state that an image keeps, and then on what is passed to it
abbrev pub with_ideal_call : FueledRole → (image argument : List ℕ) → Contents → (IdealCall → Option Answer) → Option Answer
with_ideal_call r image argument files go =
    with_image_file r.program.digested (files image) (λ s.
    with_passed r argument (λ a.
    go (record { role = r; state = s; argument = a })))

-- the same of a role that a command calls, and how the call ended
abbrev pub with_ended_call : Callee → NamedProgram → (role image argument fuel : List ℕ) → Contents → (EndedRole → Option Answer) → Option Answer
with_ended_call callee p role image argument fuel files go =
    with_fueled_role callee p role fuel (λ r.
    with_ideal_call r image argument files (λ call.
    go (ended_call call)))
