use Rattle.std.proofs.Common.{◌≡◌, ◌+◌, length, sym, subst, arith}
use Rattle.std.proofs.Math.Seq.{take-append_seam}
use Rattle.images.specs.PartMarks.{AreLevelMarks}
use Rattle.images.proofs.parts.next_level.Goals as goal

pub returns : goal.returns
returns c level now =
    let after = c.mark_next.ensures level now in
    let same : c.in_ok-marks.marks.len ≡ length c.mark_next.new.marks = omega (arith, after.0, c.requires, c.in_ok-marks.ensures.len) in
    subst (AreLevelMarks c.args.types.now (level + 1)) (sym (rw same (take-append_seam c.mark_next.new.marks _))) after
