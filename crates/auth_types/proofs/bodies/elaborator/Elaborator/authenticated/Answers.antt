use Rattle.auth_types.specs.Elaborators.{types_of}
use Rattle.auth_types.proofs.OperationSteps.{authenticated_shows}
use Rattle.auth_types.proofs.bodies.elaborator.Elaborator.authenticated.Goals as goal

pub returns-clause-found : goal.returns-clause-found
returns-clause-found c = λ at found h.
    c.typed.ensures.found _ (authenticated_shows (types_of c.args.self.now) _ c.args.operand c.in_ok-ty.ty at found c.in_ok-ty.ensures.keeps.grows
    c.in_ok-ty.ensures.number c.requires h)
