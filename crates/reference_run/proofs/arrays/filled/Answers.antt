use Rattle.std.proofs.Common.{◌∙◌, ap, subst}
use Rattle.core_terms.specs.Programs.{meaning, types_of}
use Rattle.core_terms.specs.TypeTables.{type_at}
use Rattle.core_terms.specs.Types.{VecTy}
use Rattle.core_terms.specs.Values.{ItemsV}
use Rattle.ideal_meaning.specs.Run as meant
use Rattle.reference_run.specs.PlainValues.{plain_of}
use Rattle.reference_run.specs.Telling.{Tells}
use Rattle.reference_run.proofs.arrays.filled.Goals as goal

pub returns : goal.returns
returns c k seen =
    let P = meaning c.args.program.now in
    let t = VecTy c.args.count (type_at (types_of c.args.program.now) c.args.item) in
    subst (λ vs. Tells plain_of k c.new_array.result (meant.limited P.format.limit P.types t (ItemsV vs) k seen))
    (c.in_ok-items.ensures ∙ ap (meant.repeated c.args.count) c.in_ok-value.ensures) (c.new_array.ensures k seen)
