use Rattle.std.proofs.Common.{[], ◌∙◌}
use Rattle.ask_core.proofs.Reading.{at_state, bad_at}
use Rattle.ask_core.proofs.checks.check_state.Goals as goal

pub returns-in-Ok : goal.returns-in-Ok
returns-in-Ok c =
    let good = c.in-Ok.ensures in (
      good.0,
      [],
      good.1,
      at_state c.args.code.now c.types-types.result.now c.types-types.ensures c.args.state.now c.state_type.result c.state_type.ensures.state ∙ good.2,
    )

pub returns-in-Err-Bad : goal.returns-in-Err-Bad
returns-in-Err-Bad c =
    at_state c.args.code.now c.types-types.result.now c.types-types.ensures c.args.state.now c.state_type.result c.state_type.ensures.state
    ∙ bad_at _ c.in-Err-Bad.field-0 c.in-Err-Bad.offset c.in-Err-Bad.field-0-is c.in-Err-Bad.ensures
