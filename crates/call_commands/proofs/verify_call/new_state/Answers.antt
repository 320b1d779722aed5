use Rattle.std.proofs.Common.{subst}
use Rattle.core_terms.specs.Programs.{meaning}
use Rattle.verifier_mode.specs.Verdicts.{TellsSomeOutcome}
use Rattle.ideal_meaning.specs.SpelledOutcomes.{SpellsOutcome}
use Rattle.command_parts.specs.RoleCalls.{result_called}
use Rattle.command_parts.specs.RolesCalled.{role_of}
use Rattle.call_commands.proofs.JudgedRoles.{pair_lent, state_stored, value_lent}
use Rattle.call_commands.proofs.verify_call.new_state.Goals as goal

pub first_spelled-requires-clause-pair : goal.first_spelled-requires-clause-pair
first_spelled-requires-clause-pair c =
    pair_lent c.args.program.now c.args.called.now c.requires.called c.types.result.now c.types.ensures c.in-Done.value c.as_bytes.result.now c.as_bytes.ensures

pub first_spelled-requires-clause-spelled : goal.first_spelled-requires-clause-spelled
first_spelled-requires-clause-spelled c =
    let p = c.args.program.now in
    let called = c.args.called.now in
    value_lent p called c.requires.called c.types.result.now c.types.ensures c.in-Done.value c.as_bytes.result.now c.as_bytes.ensures
    (subst (λ outcome. TellsSomeOutcome (meaning p) (result_called (role_of p called)) outcome) c.in-Done.is c.requires.told)

pub returns-in_ok-state-in-Done : goal.returns-in_ok-state-in-Done
returns-in_ok-state-in-Done c = λ name o spells.
    let p = c.args.program.now in
    let called = c.args.called.now in
    let spelled = subst (λ outcome. SpellsOutcome (meaning p) (result_called (role_of p called)) o outcome) c.in-Done.is spells in
    state_stored p called c.requires.called c.types.result.now c.types.ensures c.in-Done.value c.as_bytes.result.now c.as_bytes.ensures
    c.in_ok-state-in-Done.state c.into_bytes.result c.in_ok-state-in-Done.ensures c.into_bytes.ensures name o spelled
