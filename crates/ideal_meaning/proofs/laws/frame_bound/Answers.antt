use Rattle.ideal_meaning.proofs.FramesBound.{frame_bound_is_enough}
use Rattle.ideal_meaning.proofs.laws.frame_bound.Goals as goal

pub returns : goal.returns
returns c = frame_bound_is_enough
