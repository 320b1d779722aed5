use Rattle.std.proofs.Common.{◌∙◌, Err, ap}
use Rattle.std.proofs.lemmas.Option.{get_or_from_slice_get}
use Rattle.std.proofs.lemmas.Result.{err_from_is_err_and}
use Rattle.core_terms.specs.Types.{TextTy, UnitTy}
use Rattle.core_terms.specs.TypeTables.{type_at}
use Rattle.auth_types.specs.Elaborators.{typed_of, types_of}
use Rattle.auth_types.proofs.OperationSteps.{length_refused, length_shows}
use Rattle.declared_types.proofs.TypeNumbers.{shows_grow}
use Rattle.auth_types.proofs.bodies.elaborator.Elaborator.text_length.Goals as goal

pub returns-in_err-operand-clause-found : goal.returns-in_err-operand-clause-found
returns-in_err-operand-clause-found c =
    let p = err_from_is_err_and c.from_residual-in_err-operand.result c.from_residual-in_err-operand.ensures.1 in
    λ found h. length_refused (types_of c.intern.new.self) _ c.in_ok-text.text c.args.at found _ _ c.in_ok-text.ensures.number (p.1 ∙ ap Err p.2)
    (c.in_err-operand.ensures found (shows_grow (types_of c.args.self.now) (types_of c.intern.new.self) typed_of found c.args.operand
    c.in_ok-text.ensures.keeps.grows h))

pub returns-clause-found : goal.returns-clause-found
returns-clause-found c = λ found h.
    let types = types_of c.intern.new.self in
    c.plain.ensures.found _
    (λ keeps. length_shows types (types_of c.plain.new.self) c.in_ok-operand.operand (type_at types c.in_ok-text.text) c.args.at found keeps.grows
    (get_or_from_slice_get types c.in_ok-text.text.0 TextTy UnitTy c.in_ok-text.ensures.number)
    (c.in_ok-operand.ensures found (shows_grow (types_of c.args.self.now) (types_of c.intern.new.self) typed_of found c.args.operand
    c.in_ok-text.ensures.keeps.grows h)))
