use Rattle.std.proofs.Common.{subst}
use Rattle.core_terms.specs.Programs.{meaning, types_of}
use Rattle.core_terms.specs.TypeTables.{type_at}
use Rattle.core_terms.specs.Types.{VecTy}
use Rattle.ideal_meaning.specs.Run as meant
use Rattle.reference_run.specs.PlainValues.{plain_of}
use Rattle.reference_run.specs.Telling.{Tells}
use Rattle.reference_run.proofs.ValueViews.{plain-ItemsValue}
use Rattle.reference_run.proofs.measures.new_array.Goals as goal

pub returns : goal.returns
returns c = λ k seen.
    let P = meaning c.args.program.now in
    let t = VecTy c.args.count (type_at (types_of c.args.program.now) c.args.item) in
    subst (λ v. Tells plain_of k c.limited.result (meant.limited P.format.limit P.types t v k seen)) (plain-ItemsValue c.args.items)
    (c.limited.ensures t c.array_measures-measures.ensures k seen)
