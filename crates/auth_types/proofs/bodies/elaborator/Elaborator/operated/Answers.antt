use Rattle.std.proofs.Common.{◌≡◌, ◌∙◌, Err, ap}
use Rattle.std.proofs.lemmas.Option.{get_or_from_slice_get}
use Rattle.std.proofs.lemmas.Result.{err_from_is_err_and}
use Rattle.core_terms.specs.Types.{UnitTy}
use Rattle.core_terms.specs.TypeTables.{type_at}
use Rattle.declared_types.specs.Checking.{then_checked}
use Rattle.declared_types.proofs.TypeNumbers.{shows_grow}
use Rattle.auth_types.specs.Bodies.{binary_expression, operand_type, result_type, typed, wanted}
use Rattle.auth_types.specs.Elaborators.{boxed_of, typed_of, types_of}
use Rattle.auth_types.proofs.FindingSteps.{fault_second, finds_is}
use Rattle.auth_types.proofs.bodies.elaborator.Elaborator.operated.Goals as goal

pub returns-in_err-second-clause-found : goal.returns-in_err-second-clause-found
returns-in_err-second-clause-found c =
    let p = err_from_is_err_and c.from_residual-in_err-second.result c.from_residual-in_err-second.ensures.1 in
    let op = c.args.operator in
    let old = types_of c.args.self.now in
    let types = types_of c.operand_type.new.self in
    let grows = c.in_ok-ty.ensures.keeps.grows in
    let is : type_at types c.in_ok-ty.ty ≡ operand_type op =
    get_or_from_slice_get types c.in_ok-ty.ty.0 (operand_type op) UnitTy c.in_ok-ty.ensures.found in
    λ x y h h'.
    fault_second old types _ boxed_of boxed_of typed_of x c.args.first (wanted c.args.at (operand_type op) y)
    (λ x y. typed (binary_expression op x y) (result_type op)) _ _ (p.1 ∙ ap Err p.2) h
    (finds_is types boxed_of (wanted c.args.at (type_at types c.in_ok-ty.ty) y) _ (Err c.in_err-second.field-0.0) (ap (λ t. wanted c.args.at t y) is)
    (c.in_err-second.ensures y (shows_grow old types typed_of y c.args.second grows h')))

pub returns-clause-found : goal.returns-clause-found
returns-clause-found c =
    let op = c.args.operator in
    let old = types_of c.args.self.now in
    let types = types_of c.operand_type.new.self in
    let grows = c.in_ok-ty.ensures.keeps.grows in
    let is : type_at types c.in_ok-ty.ty ≡ operand_type op =
    get_or_from_slice_get types c.in_ok-ty.ty.0 (operand_type op) UnitTy c.in_ok-ty.ensures.found in
    λ x y h h'.
    finds_is (types_of c.combined.new.self) typed_of _ _ c.combined.result
    (ap (λ t. then_checked x (λ x. then_checked (wanted c.args.at t y) (λ y. typed (binary_expression op x y) (result_type op)))) is)
    (c.combined.ensures.found x (wanted c.args.at (type_at types c.in_ok-ty.ty) y) (shows_grow old types boxed_of x c.args.first grows h)
    (c.in_ok-second.ensures y (shows_grow old types typed_of y c.args.second grows h')))
