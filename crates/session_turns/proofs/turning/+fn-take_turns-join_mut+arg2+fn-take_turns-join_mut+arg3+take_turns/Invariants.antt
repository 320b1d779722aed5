use Rattle.std.proofs.Common.{length}
use Rattle.session_turns.proofs.turning.+fn-take_turns-join_mut+arg2+fn-take_turns-join_mut+arg3+take_turns.Given as goal

abbrev pub decreases-join_mut+arg2 : goal.decreases-join_mut+arg2
decreases-join_mut+arg2 g l = length l.front.now

abbrev pub decreases-join_mut+arg3 : goal.decreases-join_mut+arg3
decreases-join_mut+arg3 g l = length l.back.now

abbrev pub decreases-take_turns : goal.decreases-take_turns
decreases-take_turns g l = length l.entries.now
