use Rattle.std.proofs.Common.{subst}
use Rattle.core_terms.specs.Programs.{meaning}
use Rattle.code_gen.specs.Programs.{program_in}
use Rattle.collision_audit.specs.AuditsInCode.{TellsAudit}
use Rattle.command_parts.specs.FueledRoles.{FueledRole}
use Rattle.command_parts.specs.IdealCalls.{call_audit}
use Rattle.call_commands.proofs.HeldCalls.{called_on, takes, there}
use Rattle.call_commands.proofs.audit_proof.audit_call.Goals as goal

pub audit-requires-clause-there : goal.audit-requires-clause-there
audit-requires-clause-there g c κs within = there c.requires.0 (program_in c.args.code.now) c.args.call c.requires.2.0 c.requires.1 c.requires.2.1

pub audit-requires-clause-role : goal.audit-requires-clause-role
audit-requires-clause-role g c κs within = takes c.requires.0 (program_in c.args.code.now) c.args.call c.requires.2.0 c.requires.1 c.requires.2.1

pub audit-requires-clause-stand : goal.audit-requires-clause-stand
audit-requires-clause-stand g c κs within =
    let ideal = c.requires.2.0 in
    (ideal.state, ideal.argument, called_on c.requires.0 (program_in c.args.code.now) c.args.call ideal c.requires.1 c.requires.2.1)

pub audit-requires-clause-limit : goal.audit-requires-clause-limit
audit-requires-clause-limit g c κs within = c.requires.2.1.limit

pub audit-requires-clause-fuel_fits : goal.audit-requires-clause-fuel_fits
audit-requires-clause-fuel_fits g c κs within = c.requires.2.1.called.fuel_fits

pub returns-clause-audit : goal.returns-clause-audit
unfolding call_audit
returns-clause-audit g c = λ callee ideal calls h bytes told.
    let p = program_in c.args.code.now in
    subst (λ (r : FueledRole). TellsAudit (meaning p) c.args.call.called.function.0 (call_audit (record { role = r; state = ideal.state; argument = ideal.argument }) bytes) c.audit.result) h.role
    (c.audit.ensures.audit ideal.state ideal.argument (called_on callee p c.args.call ideal calls h) bytes told)
