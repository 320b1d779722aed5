use Rattle.std.proofs.Common.{map, rules}
use Rattle.core_terms.specs.ProgramSizes.{expressions_in_all}
use Rattle.core_terms.specs.ProgramTrees.{function_of}
use Rattle.core_terms.specs.Programs.{types_in}
use Rattle.term_stage.specs.Fitting.{FunctionFits, judged}
use Rattle.term_stage.proofs.FittingParts.{all_more, all_taken, counted_more}
use Rattle.term_stage.proofs.judge.Judge.each_function_fits.Goals as goal

pub loop-function-preserved : goal.loop-function-preserved
loop-function-preserved c =
    let j = c.args.self.now in
    let P = judged j.types.now j.named.now j.state j.functions.now in
    let T = types_in j.types.now in
    let fs = j.functions.now in
    let i = c.loop-function.function-index in
    let f = c.function-item.result in
    let told = c.if-not-function_fits.ensures in record {
      fit = all_more (FunctionFits P T) fs i f c.loop-function-test.true c.loop-function.invariant.fit c.function-item.is (told.fits (search rules));
      counted = counted_more T fs i f c.args.limit (expressions_in_all (map (function_of T) fs)) c.loop-function.left c.function_fits.new.left
          c.loop-function-test.true c.function-item.is (told.counted (search rules)) c.loop-function.invariant.counted;
    }

pub returns-clause-fit : goal.returns-clause-fit
returns-clause-fit c = λ yes.
    let j = c.args.self.now in
    let P = judged j.types.now j.named.now j.state j.functions.now in
    let T = types_in j.types.now in
    all_taken (FunctionFits P T) j.functions.now c.loop-function.function-index c.loop-function-test.false c.loop-function.invariant.fit
