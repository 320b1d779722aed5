use Rattle.std.proofs.Common.{rules}
use Rattle.core_terms.specs.Programs.{types_in}
use Rattle.term_stage.specs.Fitting.{NamedFits}
use Rattle.term_stage.proofs.FittingParts.{all_more, all_taken}
use Rattle.term_stage.proofs.parts.each_named_fits.Goals as goal

pub loop-one-preserved : goal.loop-one-preserved
loop-one-preserved c =
    let T = types_in c.args.types.now in
    all_more (NamedFits T) c.args.named.now c.loop-one.one-index c.one-item.result c.loop-one-test.true c.loop-one.invariant c.one-item.is (c.if-not-named_fits.ensures (search rules))

pub returns : goal.returns
returns c = λ yes. let T = types_in c.args.types.now in all_taken (NamedFits T) c.args.named.now c.loop-one.one-index c.loop-one-test.false c.loop-one.invariant
