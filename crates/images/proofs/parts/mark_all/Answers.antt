use Rattle.std.proofs.Common.{length}
use Rattle.std.proofs.lemmas.Option.{slice_get-get_or}
use Rattle.images.proofs.PartMarking.{among_step, below_at, one_mark}
use Rattle.images.proofs.parts.mark_all.Goals as goal

pub loop-ty-preserved : goal.loop-ty-preserved
loop-ty-preserved c =
    let at = slice_get-get_or c.args.types.now c.loop-ty.ty-index (record { 0 = 0 }) c.loop-ty-test.true in
    among_step c.args.types.now c.loop-ty.ty-index _ c.args.marks.now c.loop-ty.marks _ at c.loop-ty.invariant
    (one_mark c.loop-ty.marks _ (rw c.loop-ty.invariant.0 (below_at (length c.args.marks.now) c.args.types.now c.loop-ty.ty-index _ c.requires at)))
