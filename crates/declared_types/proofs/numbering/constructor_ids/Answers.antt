use Rattle.declared_types.proofs.ConstructorNumbers.{ids_next}
use Rattle.declared_types.proofs.numbering.constructor_ids.Goals as goal

pub loop-number-preserved : goal.loop-number-preserved
loop-number-preserved c =
    ids_next c.loop-number.number c.args.named.now c.index-named-number.result c.loop-number.ids.items c.add_ids.new.ids.items
    _ c.loop-number-test.true c.index-named-number.is
    (rw c.deref.ensures.value at c.in_ok-add_ids.ensures) c.loop-number.invariant
