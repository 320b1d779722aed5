-- What is found of an audit of a call.
use Rattle.std.proofs.Common.{◌≡◌, ℕ, List, Option, Some, None, Result, Ok, Err, IsErrAnd, refl, sym, ap, ◌∙◌, subst}
use Rattle.lam_outside.specs.Told.{Contents}
use Rattle.collision_audit.specs.AuditsInCode.{AuditCause}
use Rattle.collision_audit.specs.declared.audited.AuditFault.{AuditFault}
use Rattle.collision_audit.specs.declared.audited.AuditFault.TheVariants as fault
use Rattle.command_parts.specs.Answer.{call_audit_answer}
use Rattle.command_parts.specs.RoleInputs.{with_fueled_role, with_ideal_call}
use Rattle.command_parts.specs.FileInputs.{with_bytes}
use Rattle.command_parts.specs.AnswerForms.{Answer}
use Rattle.command_parts.specs.CallsInStores.{with_called}
use Rattle.call_commands.specs.AnswersBehind.{audited_behind}
use Rattle.command_parts.specs.FueledRoles.{FueledRole, NamedProgram}
use Rattle.command_parts.specs.Halting.{Finds, Found, JudgementCause, of_audit_fault}
use Rattle.command_parts.specs.IdealCalls.{IdealCall}
use Rattle.command_parts.specs.Reaching.{without}
use Rattle.command_parts.specs.declared.report.Halt.{Halt}
use Rattle.command_parts.specs.declared.roles.Callee.TheVariants.{OfState}
use Rattle.command_parts.proofs.Reached.{behind, inputs_step, is_missing}

-- what is found where an audit comes to nothing
pub audit_unfound : (answer : Option Answer) (f : AuditFault) (result : Found) → IsErrAnd result (λ halt. halt ≡ of_audit_fault f) → Finds answer result
audit_unfound answer f (Ok report) halt = absurd halt
audit_unfound answer fault.ReadFault (Err h) halt = subst (λ h. Finds answer (Err h)) (sym halt) tt
audit_unfound answer fault.NoMemory (Err h) halt = subst (λ h. Finds answer (Err h)) (sym halt) tt

pub audit_judges : {T : Type 0} (U : Type 0) (before now : ℕ) (f : AuditFault) (result : Result T Halt) → IsErrAnd result (λ halt. halt ≡ of_audit_fault f) → AuditCause {T = U} before now (Err f)
    → JudgementCause before now result
audit_judges U before now f (Ok t) halt cause = absurd halt
audit_judges {T = T} U before now fault.ReadFault (Err h) halt rose = subst (λ h. JudgementCause {T = T} before now (Err h)) (sym halt) rose
audit_judges {T = T} U before now fault.NoMemory (Err h) halt same = subst (λ h. JudgementCause {T = T} before now (Err h)) (sym halt) same

-- what halts work that reads nothing is no fault of the outside
pub same_cause : {T : Type 0} (before now : ℕ) (result : Result T Halt) → JudgementCause before before result → now ≡ before → JudgementCause before now result
same_cause before now result cause same = subst (λ n. JudgementCause before n result) (sym same) cause

-- without the file of the proof there is no answer behind a call that was read
pub no_proof : (p : NamedProgram) (role image argument fuel proof : List ℕ) (r : FueledRole) (call : IdealCall) (files : Contents)
    → ((go : FueledRole → Option Answer) → with_fueled_role OfState p role fuel go ≡ go r)
    → ((go : IdealCall → Option Answer) → with_called OfState p role image argument fuel files go ≡ go call)
    → audited_behind role image argument fuel proof p (without proof files) ≡ None
no_proof p role image argument fuel proof r call files at_role goes =
    let lacking = without proof files in
    let next : IdealCall → Option Answer = λ call. with_bytes (lacking proof) (λ bytes. Some (call_audit_answer call bytes)) in
    at_role (λ r. with_ideal_call r image argument lacking next)
    ∙ behind (inputs_step r argument) image proof files call next refl (λ go. sym (at_role (λ r. with_ideal_call r image argument files go)) ∙ goes go)
    (ap (λ file. with_bytes file (λ bytes. Some (call_audit_answer call bytes))) (is_missing proof files))
