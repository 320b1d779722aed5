use Rattle.std.proofs.Common.{inl, inr, ◌<◌, length, slice_set, true, refl, sym, ◌∙◌}
use Rattle.images.proofs.PartMarking.{one_mark}
use Rattle.images.proofs.PartSteps.{first_level}
use Rattle.images.proofs.parts.mark_state.Goals as goal

pub returns : goal.returns
returns c =
    let state = c.state_type.result.0 in
    let within : state < length c.args.marks.now = rw c.requires.count c.state_type.ensures.within in
    let one = one_mark c.args.marks.now state within in
    first_level c.args.types.now state (slice_set c.args.marks.now state true) c.spread.new.marks c.state_type.ensures.state (one.0 ∙ c.requires.count)
    (one.3 state refl) (λ i marked. elim (one.2 i marked) [ inl before ↦ absurd (c.requires.none i before) | inr here ↦ sym here ]) c.spread.ensures
