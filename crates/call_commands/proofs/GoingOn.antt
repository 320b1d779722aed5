-- Where the words and the files name a role, a call or a proof, each step of the answer goes on.
use Rattle.std.proofs.Common.{◌≡◌, ℕ, ◌≤◌, Bool, true, false, List, length, cond, Option, Some, refl, ap, sym, ◌∙◌, le-leb}
use Rattle.std.specs.Prelude.{nat_le}
use Rattle.sha2.specs.Sha256.{sha256}
use Rattle.lam_outside.specs.Told.{Contents}
use Rattle.command_words.specs.Invocations.{Invocation}
use Rattle.core_terms.specs.Limits.{most_file_bytes}
use Rattle.core_terms.specs.Terms.{function_at}
use Rattle.core_terms.specs.Values.{Value}
use Rattle.printed_lines.specs.declared.refusal.Argument.{Argument}
use Rattle.printed_lines.specs.declared.refusal.Argument.TheVariants as named
use Rattle.printed_lines.specs.declared.refusal.InputFault.{InputFault}
use Rattle.printed_lines.specs.declared.refusal.InputFault.TheVariants.{RoleKind, TooLong}
use Rattle.command_parts.specs.Answer.{call_audit_answer, command_answer, proof_answer}
use Rattle.command_parts.specs.FileInputs.{with_bytes, with_file, with_fuel, with_image, with_image_file, with_program_file, with_literal, with_number, with_object_or_text, with_program, with_root}
use Rattle.command_parts.specs.AnswerForms.{Answer}
use Rattle.command_parts.specs.RefusedAnswers.{input_refused}
use Rattle.command_parts.specs.Answer.{with_kept}
use Rattle.command_parts.specs.RoleInputs.{with_fueled_role, with_ideal_call, with_passed, with_role_at}
use Rattle.call_commands.specs.AuditedCalls.{CallsAudit}
use Rattle.command_parts.specs.FilePrograms.{constructor_names_of_file}
use Rattle.command_parts.specs.FueledRoles.{DigestedProgram, FueledRole, NamedProgram}
use Rattle.command_parts.specs.IdealCalls.{IdealCall}
use Rattle.call_commands.specs.NamedCalls.{KeepsProgram, KeepsState, NamesInputs, NamesRole}
use Rattle.call_commands.specs.ProvedCalls.{CallsProve}
use Rattle.command_parts.specs.RoleCalls.{is_called, kind_called, program_called}
use Rattle.command_parts.specs.declared.roles.Callee.{Callee}
use Rattle.command_parts.proofs.FileReadings.{bytes_go}

passed : (test : Bool) (fault : InputFault) (behind : Option Answer) → test ≡ true → cond test behind (Some (input_refused fault)) ≡ behind
passed true fault behind is = refl
passed false fault behind is = absurd (cc)

pub file_goes : (most : ℕ) (word : Argument) (file : Option (List ℕ)) (bytes : List ℕ) (go : List ℕ → Option Answer) → file ≡ Some bytes → length bytes ≤ most
    → with_file most word file go ≡ go bytes
file_goes most word file bytes go held fits =
    ap (λ (file : Option (List ℕ)). with_file most word file go) held
    ∙ passed (nat_le (length bytes) most) (TooLong word) (go bytes) (le-leb (length bytes) most fits)

-- the program, in whatever file its bytes are held
pub program_goes : (file other : Option (List ℕ)) (p : NamedProgram) (keeps : KeepsProgram file p) (go : NamedProgram → Option Answer) → other ≡ Some keeps.bytes
    → with_program_file other go ≡ go p
program_goes file other p keeps go held =
    bytes_go keeps.bytes other held keeps.fits (λ bytes. with_object_or_text bytes go)
    ∙ ap (λ found. with_program (sha256 keeps.bytes) found (λ p. go (record { digested = p; names = constructor_names_of_file keeps.bytes }))) keeps.program
    ∙ ap go (sym keeps.named)

-- a role that a command calls, and its fuel
pub fueled_goes : (callee other : Callee) (program role fuel : List ℕ) (files : Contents) (r : FueledRole) (go : FueledRole → Option Answer)
    → NamesRole other program role fuel files r
    → is_called callee (kind_called r) ≡ true → with_fueled_role callee r.program role fuel go ≡ go r
fueled_goes callee other program role fuel files r go names called =
    let P = program_called r in
    let fueled : ℕ → ℕ → Option Answer = λ f k. go (record { program = r.program; role = f; fuel = k }) in
    ap (λ found. with_role_at callee P found (λ f. with_fuel fuel (fueled f))) names.role
    ∙ passed (is_called callee (function_at P r.role).kind) RoleKind (with_fuel fuel (fueled r.role)) called
    ∙ ap (λ found. with_number named.Fuel found (fueled r.role)) names.fuel

role_goes : (callee : Callee) (program role fuel : List ℕ) (files : Contents) (r : FueledRole) (go : FueledRole → Option Answer)
    → NamesRole callee program role fuel files r
    → with_program_file (files program) (λ p. with_fueled_role callee p role fuel go) ≡ go r
role_goes callee program role fuel files r go names =
    program_goes (files program) (files program) r.program names.program_file (λ p. with_fueled_role callee p role fuel go) names.program_file.there
    ∙ fueled_goes callee callee program role fuel files r go names names.called

-- the state, in whatever file its image is held
pub state_goes : (file other : Option (List ℕ)) (p : DigestedProgram) (state : Value) (keeps : KeepsState file p state) (go : Value → Option Answer)
    → other ≡ Some keeps.image
    → with_image_file p other go ≡ go state
state_goes file other p state keeps go held =
    file_goes most_file_bytes named.Image other keeps.image (λ bytes. with_image p bytes go) held keeps.fits ∙ ap (λ found. with_root found go) keeps.root

inputs_go : (image argument : List ℕ) (files : Contents) (call : IdealCall) (go : IdealCall → Option Answer) → NamesInputs image argument files call
    → with_ideal_call call.role image argument files go ≡ go call
inputs_go image argument files call go names =
    let r = call.role in
    state_goes (files image) (files image) r.program.digested call.state names.image_file
    (λ s. with_passed r argument (λ a. go (record { role = r; state = s; argument = a }))) names.image_file.there
    ∙ ap (λ found. with_literal found (λ a. go (record { role = r; state = call.state; argument = a }))) names.argument

pub proof_is_answered : (called : Invocation) (files : Contents) (call : IdealCall) (n : ℕ) (name : List ℕ) → CallsProve called files call n name
    → command_answer called files ≡ Some (proof_answer call n name)
proof_is_answered called files call n name calls =
    let told : ℕ → IdealCall → Option Answer = λ n call. Some (proof_answer call n name) in
    let on_kept : FueledRole → ℕ → Option Answer = λ r n. with_ideal_call r calls.image_name calls.argument_text files (told n) in
    ap (λ called. command_answer called files) calls.words
    ∙ role_goes _ calls.program_name calls.role_name calls.fuel_text files call.role (λ r. with_kept (program_called r) calls.kept_text (on_kept r)) calls.role
    ∙ ap (λ found. with_number named.Number found (on_kept call.role)) calls.kept
    ∙ inputs_go calls.image_name calls.argument_text files call (told n) calls.inputs

pub audit_is_answered : (called : Invocation) (files : Contents) (call : IdealCall) (proof : List ℕ) → CallsAudit called files call proof
    → command_answer called files ≡ Some (call_audit_answer call proof)
audit_is_answered called files call proof calls =
    let on_call : IdealCall → Option Answer = λ call. with_bytes (files calls.proof_name) (λ bytes. Some (call_audit_answer call bytes)) in
    ap (λ called. command_answer called files) calls.words
    ∙ role_goes _ calls.program_name calls.role_name calls.fuel_text files call.role (λ r. with_ideal_call r calls.image_name calls.argument_text files on_call)
    calls.role
    ∙ inputs_go calls.image_name calls.argument_text files call on_call calls.inputs
    ∙ ap (λ file. with_bytes file (λ bytes. Some (call_audit_answer call bytes))) calls.proof_file
