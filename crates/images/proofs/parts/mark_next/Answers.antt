use Rattle.std.proofs.Common.{length, subst}
use Rattle.images.specs.PartMarks.{AddsMarks, IsOpened}
use Rattle.images.proofs.PartSteps.{next_level}
use Rattle.images.proofs.parts.mark_next.Goals as goal

pub returns : goal.returns
returns c level now =
    next_level c.args.types.now level c.args.opened.now now c.open.new.marks c.spread.new.marks
    (subst (λ old. AddsMarks (IsOpened c.args.types.now c.args.opened.now (length c.args.opened.now)) old c.open.new.marks) c.requires.same c.open.ensures) c.spread.ensures
