use Rattle.auth_types.proofs.ElaboratorSteps.{length-locals}
use Rattle.auth_types.proofs.bodies.elaborator.Elaborator.depth.Goals as goal

pub returns : goal.returns
returns c = let locals = length-locals c.args.self.now in cc
