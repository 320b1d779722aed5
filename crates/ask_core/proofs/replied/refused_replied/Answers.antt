use Rattle.std.proofs.Common.{sym, ◌∙◌}
use Rattle.ask_core.proofs.Following.{refusal_ends, refusal_stays}
use Rattle.ask_core.proofs.replied.refused_replied.Goals as goal

pub returns-then-ends_session : goal.returns-then-ends_session
returns-then-ends_session c hash P asked session =
    refusal_ends hash P c.args.known asked c.absent.result session c.args.cause
    (sym c.ends_session.ensures ∙ c.if-ends_session.true) c.absent.ensures.standing c.absent.ensures.told

pub returns-else-ends_session : goal.returns-else-ends_session
returns-else-ends_session c hash P asked session =
    refusal_stays hash P c.args.known asked c.idle.result session c.args.cause
    (sym c.ends_session.ensures ∙ c.if-ends_session.false) c.idle.ensures.standing c.idle.ensures.told
