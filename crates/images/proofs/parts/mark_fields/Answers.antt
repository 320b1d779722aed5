use Rattle.std.proofs.Common.{◌≡◌, length, subst, arith, refl}
use Rattle.std.proofs.lemmas.Option.{slice_get_read}
use Rattle.images.specs.PartMarks.{AddsMarks, IsAmong, IsOfField}
use Rattle.images.proofs.PartMarking.{field_step}
use Rattle.images.proofs.parts.mark_fields.Goals as goal

pub loop-constructor-preserved : goal.loop-constructor-preserved
loop-constructor-preserved c =
    let item = c.constructor-item.result in
    field_step c.args.constructors.now c.loop-constructor.constructor-index item c.args.marks.now c.loop-constructor.marks c.mark_all.new.marks
    (slice_get_read c.args.constructors.now (length c.args.constructors.now) c.loop-constructor.constructor-index item refl c.loop-constructor-test.true c.constructor-item.is) c.loop-constructor.invariant
    (subst (λ ids. AddsMarks (IsAmong ids (length ids)) c.loop-constructor.marks c.mark_all.new.marks) c.deref.ensures.value c.mark_all.ensures)

pub returns : goal.returns
returns c =
    let last : c.loop-constructor.constructor-index ≡ length c.args.constructors.now = omega (arith, c.loop-constructor-test.false, c.loop-constructor.auto.constructor-index-end) in
    subst (λ n. AddsMarks (IsOfField c.args.constructors.now n) c.args.marks.now c.loop-constructor.marks) last c.loop-constructor.invariant
