use Rattle.std.proofs.Common.{ap, subst}
use Rattle.std.proofs.lemmas.Result.{IfOk-weaker}
use Rattle.core_terms.specs.Programs.{meaning, types_of}
use Rattle.core_terms.specs.RoleViews.{role_kind_of}
use Rattle.core_terms.specs.TypeTables.{type_at}
use Rattle.ideal_meaning.specs.SpelledOutcomes.{SpellsOutcome}
use Rattle.verifier_mode.specs.Verdicts.{TellsSomeOutcome}
use Rattle.ask_core.proofs.StatesBehind.{pair_lent, state_first, value_lent}
use Rattle.ask_core.proofs.states.state_behind.Goals as goal

pub first_spelled-requires-clause-pair : goal.first_spelled-requires-clause-pair
first_spelled-requires-clause-pair c =
    pair_lent c.args.program.now c.args.role.now c.requires.shape (ap role_kind_of c.in-Update.is) c.types.result.now c.types.ensures c.in-Done.value
    c.as_bytes.result.now c.as_bytes.ensures

pub first_spelled-requires-clause-spelled : goal.first_spelled-requires-clause-spelled
first_spelled-requires-clause-spelled c =
    let p = c.args.program.now in
    value_lent p c.args.role.now c.requires.shape (ap role_kind_of c.in-Update.is) c.types.result.now c.types.ensures c.in-Done.value
    c.as_bytes.result.now c.as_bytes.ensures
    (subst (λ outcome. TellsSomeOutcome (meaning p) (type_at (types_of p) c.args.role.now.result) outcome) c.in-Done.is c.requires.told)

pub returns-in-Update : goal.returns-in-Update
returns-in-Update c =
    let p = c.args.program.now in
    IfOk-weaker c.first_spelled.result _ _ (λ first spells o told.
    state_first p c.args.role.now c.requires.shape (ap role_kind_of c.in-Update.is) c.types.result.now c.types.ensures c.in-Done.value
    c.as_bytes.result.now c.as_bytes.ensures c.args.state first spells o
    (subst (λ outcome. SpellsOutcome (meaning p) (type_at (types_of p) c.args.role.now.result) o outcome) c.in-Done.is told)) c.first_spelled.ensures
