use Rattle.std.proofs.Common.{◌≡◌, ◌+◌, ◌∙◌, ap, sym, length, subst, arith}
use Rattle.images.specs.PartMarks.{AreLevelMarks}
use Rattle.images.proofs.PartSteps.{are_part_marks, last_level, same_marks}
use Rattle.images.proofs.parts.part_marks.Goals as goal

pub returns-then-eq : goal.returns-then-eq
returns-then-eq c =
    let now = c.loop-level.invariant in
    let next = c.in_ok-next.ensures c.loop-level._level (subst (AreLevelMarks c.args.types.now c.loop-level._level) (sym c.deref.ensures.value) now) in
    let same = sym c.as_slice.ensures.value ∙ same_marks c.as_slice.result.now c.as_slice-in-loop-level.result.now c.if-eq.ensures ∙ c.as_slice-in-loop-level.ensures.value in
    are_part_marks c.args.types.now c.loop-level.marks.items
    (last_level c.args.types.now c.loop-level._level c.loop-level.marks.items now (subst (AreLevelMarks c.args.types.now (c.loop-level._level + 1)) same next)
    (length c.args.types.now.named.items) (omega (arith, c.loop-level-test.true, ap length c.named_types-level-end.ensures.named)))

pub loop-level-preserved : goal.loop-level-preserved
loop-level-preserved c =
    c.in_ok-next.ensures c.loop-level._level (subst (AreLevelMarks c.args.types.now c.loop-level._level) (sym c.deref.ensures.value) c.loop-level.invariant)

pub returns : goal.returns
returns c =
    let last : c.loop-level._level ≡ length c.args.types.now.named.items =
    omega (arith, c.loop-level-test.false, c.loop-level.auto._level-end, ap length c.named_types-level-end.ensures.named) in
    are_part_marks c.args.types.now c.loop-level.marks.items (subst (λ k. AreLevelMarks c.args.types.now k c.loop-level.marks.items) last c.loop-level.invariant)
