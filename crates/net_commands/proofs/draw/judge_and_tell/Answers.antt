use Rattle.net_commands.specs.PreparedDrawings.{drawing_of}
use Rattle.net_commands.proofs.DrawTold.{ends_on_link}
use Rattle.net_commands.proofs.draw.judge_and_tell.Goals as goal

pub returns-clause-ends : goal.returns-clause-ends
returns-clause-ends g c =
    ends_on_link (drawing_of c.args.held.now).call _ _ _ _ _ _ _ _ c.tell_judged.result _ _ _ _ c.judge_on-judged.result c.judge_on-judged.ensures.judges c.judge_on-judged.ensures.faults c.tell_judged.ensures
