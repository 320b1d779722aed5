use Rattle.core_terms.specs.Programs.{meaning}
use Rattle.core_terms.proofs.RoleShapes.{role_shapes}
use Rattle.core_terms.proofs.program.Program.roles.Goals as goal

pub returns-clause-shapes : goal.returns-clause-shapes
returns-clause-shapes c = role_shapes (meaning c.args.self.now) c.args.self.now.shaped
