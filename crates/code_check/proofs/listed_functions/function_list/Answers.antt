use Rattle.object_reader.specs.ObjectViews.{function_of}
use Rattle.code_check.specs.ListedParts.{IsFunctionOf}
use Rattle.code_check.proofs.Zips.{zip_more}
use Rattle.code_check.proofs.listed_functions.function_list.Goals as goal

pub loop-one-preserved : goal.loop-one-preserved
loop-one-preserved c =
    rw c.in_ok-push.ensures.items
    (zip_more (IsFunctionOf c.args.numbers.now) function_of c.args.listed.now c.loop-one.functions.items c.loop-one.one-index c.one-item.result c.in_ok-function.field-0
    c.loop-one-test.true c.one-item.is c.loop-one.invariant c.in_ok-function.ensures)
