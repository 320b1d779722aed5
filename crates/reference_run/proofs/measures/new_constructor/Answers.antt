use Rattle.std.proofs.Common.{subst}
use Rattle.core_terms.specs.Programs.{meaning}
use Rattle.core_terms.specs.Types.{NamedTy}
use Rattle.core_terms.specs.Values.{ConV}
use Rattle.ideal_meaning.specs.Run as meant
use Rattle.reference_run.specs.PlainValues.{plain_of}
use Rattle.reference_run.specs.Telling.{Tells, row_values}
use Rattle.reference_run.proofs.Calculated.{behind}
use Rattle.reference_run.proofs.ValueViews.{plain-ConstructorValue}
use Rattle.reference_run.proofs.measures.new_constructor.Goals as goal

pub returns : goal.returns
returns c =
    let P = meaning c.args.program.now in
    let t = NamedTy c.args.named.0 in
    behind row_values (λ vs k seen. meant.limited P.format.limit P.types t (ConV c.args.tag.0 vs) k seen) c.args.fields c.in_ok-fields.field-0 _ c.in_ok-fields.was (λ k seen.
    subst (λ v. Tells plain_of k c.limited.result (meant.limited P.format.limit P.types t v k seen)) (plain-ConstructorValue c.args.tag c.in_ok-fields.field-0)
    (c.limited.ensures t c.constructor_measures-measures.ensures k seen))
