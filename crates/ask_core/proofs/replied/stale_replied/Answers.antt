use Rattle.std.proofs.Common.{sym, ◌∙◌}
use Rattle.core_terms.specs.Programs.{meaning}
use Rattle.ask_core.proofs.Following.{not_stale, stale}
use Rattle.ask_core.proofs.replied.stale_replied.Goals as goal

pub returns-then-changes_state : goal.returns-then-changes_state
returns-then-changes_state c hash known asked session of_role =
    stale hash (meaning c.args.program.now) known asked c.absent.result c.args.role session c.args.state of_role
    (sym c.changes_state.ensures ∙ c.if-changes_state.true) c.absent.ensures.standing c.absent.ensures.told

pub returns-else-changes_state : goal.returns-else-changes_state
returns-else-changes_state c hash known asked session of_role =
    not_stale hash (meaning c.args.program.now) known asked c.wrong.result c.args.role session c.args.state of_role
    (sym c.changes_state.ensures ∙ c.if-changes_state.false) c.wrong.ensures.standing c.wrong.ensures.told
