use Rattle.auth_types.specs.Elaborators.{types_of}
use Rattle.auth_types.proofs.OperationSteps.{wanted_refused, wanted_shows}
use Rattle.auth_types.proofs.bodies.elaborator.Elaborator.wanted.Goals as goal

pub returns-then-is_same : goal.returns-then-is_same
returns-then-is_same c = λ found h. wanted_shows (types_of c.args.self.now) c.args.part c.requires.part c.args.at found h c.args.ty
    (c.is_same.ensures.0 c.if-is_same.true)

pub returns-else-is_same : goal.returns-else-is_same
returns-else-is_same c = λ found h. wanted_refused (types_of c.args.self.now) c.args.part c.requires.part c.args.at found h c.args.ty
    (λ same. let yes = c.is_same.ensures.1 same in let no = c.if-is_same.false in cc)
