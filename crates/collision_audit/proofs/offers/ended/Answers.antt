use Rattle.std.proofs.Common.{sym, ap, ◌∙◌, subst}
use Rattle.lam_outside.specs.Causes.{Rose}
use Rattle.mode_vm.specs.Openings.{CountsFault}
use Rattle.verifier_mode.specs.Faults.{fault_cause}
use Rattle.collision_audit.proofs.offers.ended.Goals as goal

pub returns-in-Mode-Rejected-clause-is : goal.returns-in-Mode-Rejected-clause-is
returns-in-Mode-Rejected-clause-is c want = sym (c.in-Mode-Rejected.ensures.cause want) ∙ ap fault_cause c.in-Mode-Rejected.field-0-is

pub returns-in-Mode-Rejected-clause-faults : goal.returns-in-Mode-Rejected-clause-faults
returns-in-Mode-Rejected-clause-faults c old new cause =
    subst (λ fault. CountsFault Rose old new (fault_cause fault)) c.in-Mode-Rejected.field-0-is (c.in-Mode-Rejected.ensures.faults old new cause)

pub returns-in-Mode-ReadFault-clause-faults : goal.returns-in-Mode-ReadFault-clause-faults
returns-in-Mode-ReadFault-clause-faults c old new cause =
    subst (λ fault. CountsFault Rose old new (fault_cause fault)) c.in-Mode-ReadFault.field-0-is (c.in-Mode-ReadFault.ensures.faults old new cause)

pub returns-in-NoMemory-clause-faults : goal.returns-in-NoMemory-clause-faults
returns-in-NoMemory-clause-faults c = c.in-NoMemory.ensures.faults
