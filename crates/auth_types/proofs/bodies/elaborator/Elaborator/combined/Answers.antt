use Rattle.auth_types.specs.Elaborators.{types_of}
use Rattle.auth_types.proofs.OperationSteps.{combined_shows}
use Rattle.auth_types.proofs.bodies.elaborator.Elaborator.combined.Goals as goal

pub returns-clause-found : goal.returns-clause-found
returns-clause-found c = λ x y h h'.
    c.plain.ensures.found _
    (λ keeps. combined_shows c.args.operator (types_of c.args.self.now) (types_of c.plain.new.self) c.args.first c.args.second c.operation-term.result
    _ x y keeps.grows c.operation-term.ensures c.result_form.ensures.form h h')
