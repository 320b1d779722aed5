use Rattle.std.proofs.Common.{◌≡◌, true, false, sym, ◌∙◌, rules}
use Rattle.code_check.specs.ObjectParts.{parts_program}
use Rattle.code_check.proofs.RoleTests.{goes_on, stops}
use Rattle.code_check.proofs.shapes.first_misshaped.Goals as goal

pub returns-then-not-has_shape : goal.returns-then-not-has_shape
returns-then-not-has_shape c =
    let no : c.has_shape.result ≡ false = search rules in
    stops (parts_program c.args.parts.now) _ _ _ c.loop-number.number c.function-item.result (rw c.deref-function-items.ensures.value at c.loop-number-test.true)
    (rw c.deref-function-items.ensures.value at c.function-item.is) c.loop-number.invariant (sym c.has_shape.ensures ∙ no)

pub loop-number-preserved : goal.loop-number-preserved
loop-number-preserved c =
    let yes : c.has_shape.result ≡ true = search rules in
    goes_on (parts_program c.args.parts.now) _ _ _ c.loop-number.number c.function-item.result (rw c.deref-function-items.ensures.value at c.loop-number-test.true)
    (rw c.deref-function-items.ensures.value at c.function-item.is) c.loop-number.invariant (sym c.has_shape.ensures ∙ yes)
