use Rattle.std.proofs.Common.{Some, Ok, ap, ◌∙◌, subst}
use Rattle.core_terms.specs.Programs.{meaning}
use Rattle.collision_audit.specs.AuditsInCode.{TellsAudit}
use Rattle.collision_audit.specs.declared.audited.Audited.{Audited}
use Rattle.command_words.specs.declared.command.Command.TheVariants as command
use Rattle.command_parts.specs.Answer.{audit_told}
use Rattle.command_parts.specs.RolesCalled.{role_of}
use Rattle.command_parts.proofs.Possible.{outcome_possible}
use Rattle.call_commands.proofs.audit_proof.report_audit.Goals as goal

pub returns-in_ok-agreement-in-Agrees-clause-finds : goal.returns-in_ok-agreement-in-Agrees-clause-finds
returns-in_ok-agreement-in-Agrees-clause-finds c = λ audit tells.
    let p = c.args.program.now in
    let called = c.args.called.now in
    let told = subst (λ (audited : Audited). TellsAudit (meaning p) called.function.0 audit (Ok audited)) c.in-Agrees.is tells in
    ap Some (ap (audit_told (role_of p called)) told.1 ∙ c.in_ok-agreement-in-Agrees.ensures.reports told.0 told.2)

pub returns-in_ok-agreement-in-Agrees-clause-ending : goal.returns-in_ok-agreement-in-Agrees-clause-ending
returns-in_ok-agreement-in-Agrees-clause-ending c = outcome_possible command.Audit tt _ c.in_ok-agreement-in-Agrees.ensures.ending
