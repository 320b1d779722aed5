use Rattle.std.proofs.Common.{Ok, Some, ap, sym, ◌∙◌, subst}
use Rattle.core_terms.specs.Programs.{meaning}
use Rattle.code_gen.specs.Programs.{program_in}
use Rattle.collision_audit.specs.AuditsInCode.{TellsAudit}
use Rattle.collision_audit.specs.declared.audited.Audited.{Audited}
use Rattle.command_parts.specs.Answer.{audit_told, call_audit_answer}
use Rattle.command_parts.specs.Halting.{Finds}
use Rattle.command_parts.specs.IdealCalls.{call_audit}
use Rattle.command_parts.specs.RolesCalled.{IsCalled, role_of}
use Rattle.call_commands.proofs.JudgedAudits.{audit_judges, audit_unfound, same_cause}
use Rattle.command_parts.proofs.Steps.{report_found}
use Rattle.call_commands.proofs.audit_proof.audit_started.Goals as goal

pub returns-in_err-audited-clause-finds : goal.returns-in_err-audited-clause-finds
returns-in_err-audited-clause-finds g c = λ callee call calls h bytes told.
    audit_unfound (Some (call_audit_answer call bytes)) c.in_err-audited.field-0.0 c.from_residual.result c.from_residual.ensures.1

pub returns-in_err-audited-clause-cause : goal.returns-in_err-audited-clause-cause
returns-in_err-audited-clause-cause g c = audit_judges Audited _ _ c.in_err-audited.field-0.0 c.from_residual.result c.from_residual.ensures.1 c.in_err-audited.ensures.cause

pub report_audit-requires : goal.report_audit-requires
report_audit-requires g c =
    (c.requires.0, subst (λ p. IsCalled c.requires.0 p c.args.call.called) (sym c.program.ensures) c.requires.2.1.called)

pub returns-clause-finds : goal.returns-clause-finds
returns-clause-finds g c = λ callee call calls h bytes told.
    let p = program_in c.args.code.now in
    let called = c.args.call.called in
    let audit = call_audit call bytes in
    let tells = c.in_ok-audited.ensures.audit callee call calls h bytes told in
    let found = c.report_audit.ensures.finds audit (subst (λ p. TellsAudit (meaning p) called.function.0 audit (Ok c.in_ok-audited.audited)) (sym c.program.ensures) tells) in
    subst (λ r. Finds (Some (audit_told r audit)) c.report_audit.result) (ap (λ p. role_of p called) c.program.ensures ∙ h.role)
    (report_found (audit_told (role_of c.program.result.now called) audit) c.report_audit.result found)

pub returns-clause-cause : goal.returns-clause-cause
returns-clause-cause g c = same_cause _ _ c.report_audit.result (c.report_audit.ensures.faults _) c.in_ok-audited.ensures.cause
