use Rattle.ideal_meaning.proofs.Bounds.{bound_enough}
use Rattle.ideal_meaning.proofs.laws.bound.Goals as goal

pub returns : goal.returns
returns g c P mode n f args k w h = bound_enough g.row.C.Denot g.row.W.Denot P mode n f args k w h
