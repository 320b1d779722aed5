use Rattle.std.proofs.Common.{◌∙◌, ◌++◌, sym, ap}
use Rattle.core_terms.specs.ProgramTrees.{expression_of}
use Rattle.core_terms.specs.TypeTables.{type_of_form}
use Rattle.auth_types.specs.Bodies.{typed}
use Rattle.auth_types.specs.Elaborators.{types_of}
use Rattle.auth_types.proofs.OperationSteps.{leaf_in, plain_form}
use Rattle.declared_types.proofs.TypeNumbers.{type_stays}
use Rattle.auth_types.proofs.bodies.elaborator.Elaborator.plain.Goals as goal

pub returns-clause-found : goal.returns-clause-found
returns-clause-found c = λ found is.
    let old = types_of c.args.self.now in
    let new = types_of c.intern.new.self in
    let form = c.args.form in
    c.typed.ensures.found found
    (λ more. is c.in_ok-ty.ensures.keeps more
    ∙ ap (typed (expression_of (new ++ more) c.args.term)) (sym (plain_form old form c.requires)
    ∙ sym (type_stays new c.in_ok-ty.ty.0 (type_of_form old form) c.in_ok-ty.ensures.number more)))

pub intern-requires-clause-format : goal.intern-requires-clause-format
intern-requires-clause-format c = leaf_in _ c.args.form c.requires
