use Rattle.std.proofs.Common.{◌≡◌, ◌+◌, ◌-◌, arith}
use Rattle.images.proofs.PartMarking.{marked_within}
use Rattle.images.proofs.PartSpreading.{spread_first, spread_step, is_spread}
use Rattle.images.proofs.parts.spread.Goals as goal

pub loop-number-init : goal.loop-number-init
loop-number-init c = spread_first c.args.types.now _ c.args.marks.now (λ i h. marked_within c.args.marks.now i h)

pub loop-number-preserved-then-marks-number : goal.loop-number-preserved-then-marks-number
loop-number-preserved-then-marks-number c =
    let one : c.loop-number.number ≡ (c.loop-number.number - 1) + 1 = omega (arith, c.loop-number-test.true) in
    spread_step c.args.types.now c.loop-number.number (c.loop-number.number - 1) c.form.result c.args.marks.now c.loop-number.marks c.mark_parts.new.marks one c.if-marks-number.true
    c.form.ensures.form c.form.ensures.parts c.mark_parts.ensures c.loop-number.invariant

pub returns : goal.returns
returns c =
    let last : c.loop-number.number ≡ 0 = omega (arith, c.loop-number-test.false) in
    is_spread c.args.types.now c.loop-number.number c.args.marks.now c.loop-number.marks last c.loop-number.invariant
