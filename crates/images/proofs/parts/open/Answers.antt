use Rattle.images.proofs.PartMarking.{open_skip, open_step}
use Rattle.images.proofs.parts.open.Goals.{then-is_opened, else-is_opened}
use Rattle.images.proofs.parts.open.Goals as goal

pub loop-number-preserved : goal.loop-number-preserved
loop-number-preserved c =
    elim c.if-is_opened.branch [
      | then-is_opened w ↦
          rw w.marks-is (open_step c.args.types.now c.args.opened.now c.loop-number.number c.args.marks.now c.loop-number.marks w.mark_fields.new.marks w.constructors_of.result.now
          w.constructors_of.ensures.constructors w.if-is_opened.true c.loop-number.invariant w.mark_fields.ensures)
      | else-is_opened w ↦ rw w.marks-is
          (open_skip c.args.types.now c.args.opened.now c.loop-number.number c.args.marks.now c.loop-number.marks c.loop-number.marks w.if-is_opened.false c.loop-number.invariant)
    ]
