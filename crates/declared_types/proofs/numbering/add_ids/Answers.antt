use Rattle.std.proofs.Common.{refl}
use Rattle.declared_types.proofs.ConstructorNumbers.{tag_next}
use Rattle.declared_types.proofs.numbering.add_ids.Goals as goal

pub loop-tag-preserved : goal.loop-tag-preserved
loop-tag-preserved c = rw c.in_ok-push.ensures.items (tag_next c.args.named.0 c.loop-tag.tag c.args.constructors.now c.loop-tag.ids.items
    _ _ c.loop-tag-test.true refl c.loop-tag.invariant)
