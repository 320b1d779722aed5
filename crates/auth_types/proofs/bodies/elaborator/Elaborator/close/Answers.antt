use Rattle.std.proofs.Common.{refl}
use Rattle.auth_types.proofs.ElaboratorSteps.{locals_first, scope_same}
use Rattle.auth_types.proofs.bodies.elaborator.Elaborator.close.Goals as goal

pub returns-clause-scope : goal.returns-clause-scope
returns-clause-scope c = scope_same c.args.self.now _ refl refl

pub returns-clause-locals : goal.returns-clause-locals
returns-clause-locals c = locals_first c.args.self.now _ c.args.outer refl c.truncate.ensures.items
