use Rattle.object_reader.specs.ObjectViews.{constructor_of}
use Rattle.code_check.specs.ListedParts.{IsConstructorOf}
use Rattle.code_check.proofs.Zips.{zip_more}
use Rattle.code_check.proofs.listed_types.constructor_list.Goals as goal

pub loop-one-preserved : goal.loop-one-preserved
loop-one-preserved c =
    rw c.in_ok-push.ensures.items
    (zip_more (IsConstructorOf c.args.numbers.now) constructor_of c.args.listed.now c.loop-one.constructors.items c.loop-one.one-index c.one-item.result c.in_ok-constructor.field-0
    c.loop-one-test.true c.one-item.is c.loop-one.invariant c.in_ok-constructor.ensures)
