use Rattle.std.proofs.Common.{rules}
use Rattle.core_terms.specs.Programs.{types_in}
use Rattle.term_stage.specs.Fitting.{ConstructorFits}
use Rattle.term_stage.proofs.FittingParts.{all_more, all_taken}
use Rattle.term_stage.proofs.parts.each_constructor_fits.Goals as goal

pub loop-constructor-preserved : goal.loop-constructor-preserved
loop-constructor-preserved c =
    let T = types_in c.args.types.now in
    all_more (ConstructorFits T) c.args.constructors.now c.loop-constructor.constructor-index c.constructor-item.result c.loop-constructor-test.true c.loop-constructor.invariant c.constructor-item.is (c.if-not-constructor_fits.ensures (search rules))

pub returns : goal.returns
returns c = λ yes. let T = types_in c.args.types.now in all_taken (ConstructorFits T) c.args.constructors.now c.loop-constructor.constructor-index c.loop-constructor-test.false c.loop-constructor.invariant
