use Rattle.images.proofs.SavedOnce.{saved_parts_are_once}
use Rattle.images.proofs.laws.saved_parts_are_once.Goals as goal

pub returns : goal.returns
returns c = saved_parts_are_once
