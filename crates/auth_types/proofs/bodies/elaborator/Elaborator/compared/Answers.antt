use Rattle.core_terms.specs.TypeTables.{type_at}
use Rattle.auth_types.specs.Elaborators.{types_of}
use Rattle.auth_types.proofs.JoinSteps.{other_fails, same_passes}
use Rattle.auth_types.proofs.bodies.elaborator.Elaborator.compared.Goals as goal

pub returns-then-is_same : goal.returns-then-is_same
returns-then-is_same c = λ locals. same_passes c.args.at locals (type_at (types_of c.args.self.now) c.args.ty)
    (type_at (types_of c.args.self.now) c.args.wanted) (c.is_same.ensures.0 c.if-is_same.true)

pub returns-else-is_same : goal.returns-else-is_same
returns-else-is_same c = λ locals. other_fails c.args.at locals (type_at (types_of c.args.self.now) c.args.ty)
    (type_at (types_of c.args.self.now) c.args.wanted) (λ same. let yes = c.is_same.ensures.1 same in let no = c.if-is_same.false in cc)
