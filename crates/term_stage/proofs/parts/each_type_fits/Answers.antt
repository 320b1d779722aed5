use Rattle.std.proofs.Common.{rules}
use Rattle.std.proofs.lemmas.List.Elements.{All-more}
use Rattle.core_terms.specs.Programs.{types_in}
use Rattle.term_stage.specs.Fitting.{TypeFits}
use Rattle.term_stage.proofs.FittingParts.{all_taken}
use Rattle.term_stage.proofs.parts.each_type_fits.Goals as goal

pub loop-id-preserved : goal.loop-id-preserved
loop-id-preserved c =
    let T = types_in c.args.types.now in
    All-more (TypeFits T) c.args.ids.now c.loop-id.id-index _ c.loop-id-test.true c.loop-id.invariant (c.if-not-type_fits.ensures (search rules))

pub returns : goal.returns
returns c = λ yes. let T = types_in c.args.types.now in all_taken (TypeFits T) c.args.ids.now c.loop-id.id-index c.loop-id-test.false c.loop-id.invariant
