use Rattle.std.proofs.Common.{subst}
use Rattle.core_terms.specs.Programs.{meaning}
use Rattle.ideal_meaning.specs.SpelledOutcomes.{SpellsOutcome}
use Rattle.command_parts.specs.RoleCalls.{result_called}
use Rattle.command_parts.specs.RolesCalled.{role_of}
use Rattle.command_parts.proofs.HeldOutcomes.{shallow_done}
use Rattle.command_parts.proofs.outcomes.outcome_report.Goals as goal

pub returns-in_ok-text-in-Done-clause-tells : goal.returns-in_ok-text-in-Done-clause-tells
returns-in_ok-text-in-Done-clause-tells c = λ o spells.
    let p = c.args.program.now in
    let called = c.args.called.now in
    let spelled = subst (λ outcome. SpellsOutcome (meaning p) (result_called (role_of p called)) o outcome) c.in-Done.is spells in
    shallow_done c.requires.0 p called c.requires.1 c.in-Done.value c.as_bytes.result.now c.in_ok-text-in-Done.text.items c.as_bytes.ensures c.in_ok-text-in-Done.ensures o spelled
