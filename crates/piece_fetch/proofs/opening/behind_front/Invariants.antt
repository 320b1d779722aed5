use Rattle.piece_fetch.proofs.Fronts.{AgreesTo}
use Rattle.piece_fetch.proofs.opening.behind_front.Given as goal

abbrev pub invariant-loop-place : goal.invariant-loop-place
invariant-loop-place l = AgreesTo l.front l.piece l.place
