use Rattle.std.proofs.Common.{◌∙◌, Err, ap}
use Rattle.std.proofs.lemmas.Result.{err_from_is_err_and}
use Rattle.auth_types.specs.Elaborators.{typed_of, types_of}
use Rattle.auth_types.proofs.OperationSteps.{negated_refused, negated_shows}
use Rattle.declared_types.proofs.TypeNumbers.{shows_grow}
use Rattle.auth_types.proofs.bodies.elaborator.Elaborator.negated.Goals as goal

pub returns-in_err-operand-clause-found : goal.returns-in_err-operand-clause-found
returns-in_err-operand-clause-found c =
    let p = err_from_is_err_and c.from_residual-in_err-operand.result c.from_residual-in_err-operand.ensures.1 in
    λ found h. negated_refused (types_of c.intern.new.self) _ c.in_ok-truth.truth c.args.at found _ _ c.in_ok-truth.ensures.number (p.1 ∙ ap Err p.2)
    (c.in_err-operand.ensures found (shows_grow (types_of c.args.self.now) (types_of c.intern.new.self) typed_of found c.args.operand
    c.in_ok-truth.ensures.keeps.grows h))

pub returns-clause-found : goal.returns-clause-found
returns-clause-found c = λ found h.
    c.typed.ensures.found _
    (negated_shows (types_of c.intern.new.self) c.in_ok-operand.operand c.in_ok-truth.truth c.args.at found c.in_ok-truth.ensures.number
    (c.in_ok-operand.ensures found (shows_grow (types_of c.args.self.now) (types_of c.intern.new.self) typed_of found c.args.operand
    c.in_ok-truth.ensures.keeps.grows h)))
