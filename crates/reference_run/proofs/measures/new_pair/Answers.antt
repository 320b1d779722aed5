use Rattle.std.proofs.Common.{subst}
use Rattle.core_terms.specs.Programs.{meaning, types_of}
use Rattle.core_terms.specs.TypeTables.{type_at}
use Rattle.core_terms.specs.Types.{PairTy}
use Rattle.core_terms.specs.Values.{PairV}
use Rattle.ideal_meaning.specs.Run as meant
use Rattle.reference_run.specs.PlainValues.{plain_of}
use Rattle.reference_run.specs.Telling.{Tells, pair_values}
use Rattle.reference_run.proofs.Calculated.{behind}
use Rattle.reference_run.proofs.measures.new_pair.Goals as goal

pub returns : goal.returns
returns c =
    let P = meaning c.args.program.now in
    let t = PairTy (type_at (types_of c.args.program.now) c.args.types.0) (type_at (types_of c.args.program.now) c.args.types.1) in
    behind pair_values (λ xy k seen. meant.limited P.format.limit P.types t (PairV xy.0 xy.1) k seen) c.args.operands (c.in_ok-first.first, c.in_ok-first.second) _ c.in_ok-first.was (λ k seen.
    subst (λ v. Tells plain_of k c.limited.result (meant.limited P.format.limit P.types t v k seen)) c.in_ok-pair.ensures (c.limited.ensures t c.pair_measures-measures.ensures k seen))
