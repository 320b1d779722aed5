use Rattle.std.proofs.Common.{map, subst}
use Rattle.core_terms.specs.Programs.{types_in}
use Rattle.object_reader.specs.ObjectViews.{function_of, instruction_of}
use Rattle.code_check.specs.ListedParts.{IsCodeOf, IsFunctionCode}
use Rattle.code_check.proofs.Zips.{zip_more}
use Rattle.code_check.proofs.listed_code.code_list.Goals as goal

pub loop-function-preserved : goal.loop-function-preserved
loop-function-preserved c =
    let T = types_in c.args.types.now in
    let code = c.in_ok-instruction_list.field-0 in
    let made = subst (λ l. IsCodeOf T c.args.numbers.now (map instruction_of l) code.items) c.deref.ensures.value c.in_ok-instruction_list.ensures in
    rw c.in_ok-push.ensures.items
    (zip_more (IsFunctionCode T c.args.numbers.now) function_of c.args.listed.now c.loop-function.code.items c.loop-function.function-index c.function-item.result code
    c.loop-function-test.true c.function-item.is c.loop-function.invariant made)
