use Rattle.std.proofs.Common.{◌∙◌, Err, ap}
use Rattle.std.proofs.lemmas.Result.{err_from_is_err_and}
use Rattle.declared_types.proofs.RolesOfHeads.{role_passed, role_refused}
use Rattle.declared_types.proofs.roles.third_pass.Goals as goal

pub returns-in_err-check_role : goal.returns-in_err-check_role
returns-in_err-check_role c =
    let p = err_from_is_err_and c.from_residual-in_err-check_role.result c.from_residual-in_err-check_role.ensures.1 in
    role_refused _ _ _ c.args.scope.now c.loop-head.head-index c.head-item.result (rw c.deref-head-items.ensures.value at c.loop-head-test.true)
    (rw c.deref-head-items.ensures.value at c.head-item.is) c.loop-head.invariant c.in_err-check_role.field-0.0 _ (p.1 ∙ ap Err p.2)
    c.in_err-check_role.ensures

pub loop-head-preserved : goal.loop-head-preserved
loop-head-preserved c = role_passed _ _ _ c.args.scope.now c.loop-head.head-index c.head-item.result
    (rw c.deref-head-items.ensures.value at c.loop-head-test.true) (rw c.deref-head-items.ensures.value at c.head-item.is) c.loop-head.invariant
    c.in_ok-check_role.ensures
