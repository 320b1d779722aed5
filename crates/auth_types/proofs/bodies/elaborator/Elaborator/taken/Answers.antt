use Rattle.auth_types.proofs.bodies.elaborator.Elaborator.taken.Goals as goal

pub returns-in-VecFill-clause-found : goal.returns-in-VecFill-clause-found
returns-in-VecFill-clause-found c = rw c.in-VecFill.is (c.filled.ensures.found c.args.at)
