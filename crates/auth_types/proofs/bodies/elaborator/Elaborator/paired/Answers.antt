use Rattle.auth_types.specs.Elaborators.{types_of}
use Rattle.auth_types.proofs.OperationSteps.{paired_shows}
use Rattle.auth_types.proofs.bodies.elaborator.Elaborator.paired.Goals as goal

pub returns-clause-found : goal.returns-clause-found
returns-clause-found c = λ x y h h'.
    c.typed.ensures.found _
    (paired_shows (types_of c.args.self.now) _ c.args.first c.args.second c.in_ok-ty.ty x y c.in_ok-ty.ensures.keeps.grows c.in_ok-ty.ensures.number
    c.requires.first c.requires.second h h')
