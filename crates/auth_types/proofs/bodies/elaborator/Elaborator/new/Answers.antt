use Rattle.std.proofs.Common.{refl, ap}
use Rattle.core_terms.specs.Programs.{types_in}
use Rattle.auth_types.specs.Elaborators.{locals_of, scope_of}
use Rattle.auth_types.specs.Locals.{locals_meant}
use Rattle.auth_types.proofs.bodies.elaborator.Elaborator.new.Goals as goal

pub returns-clause-scope : goal.returns-clause-scope
unfolding scope_of
returns-clause-scope c = refl

pub returns-clause-locals : goal.returns-clause-locals
unfolding locals_of
returns-clause-locals c = ap (locals_meant (types_in c.args.types)) c.new.ensures.items
