use Rattle.std.proofs.Common.{◌∙◌, ap, arith, sym, ℕ, List}
use Rattle.core_terms.specs.Values.{Value}
use Rattle.ideal_meaning.specs.Ideal.{Opened}
use Rattle.ideal_meaning.specs.Run as meant
use Rattle.reference_run.specs.PlainValues.{plains_of}
use Rattle.reference_run.specs.Telling.{Evaluation}
use Rattle.reference_run.proofs.PassedInts.{kept}
use Rattle.reference_run.proofs.arrays.element.Goals as goal

pub returns-in_ok-value_at-in-Some : goal.returns-in_ok-value_at-in-Some
returns-in_ok-value_at-in-Some c k seen =
    let vs = meant.items_in (meant.local (plains_of c.args.operands.now) 0) in
    let go : ℕ → ℕ → List Opened → Evaluation Value = λ i k seen. meant.Gives (meant.local vs i) k seen in
    let index = kept c.int_in.result (omega arith) ∙ c.int_in.ensures ∙ ap meant.int_in c.in_ok-index.ensures in
    let items = ap plains_of c.deref.ensures.value ∙ c.items_in.ensures ∙ ap meant.items_in c.in_ok-array.ensures in
    let element = c.in_ok-value_at-in-Some.ensures ∙ ap (λ vs. meant.local vs c.in-Some.place) items in
    (seen, ap (λ z. meant.at_index c.args.count z go k seen) (sym index) ∙ c.in-Some.ensures go k seen ∙ ap (λ v. meant.Gives v k seen) (sym element))

pub returns-in-None : goal.returns-in-None
returns-in-None c k seen =
    let vs = meant.items_in (meant.local (plains_of c.args.operands.now) 0) in
    let go : ℕ → ℕ → List Opened → Evaluation Value = λ i k seen. meant.Gives (meant.local vs i) k seen in
    let index = kept c.int_in.result (omega arith) ∙ c.int_in.ensures ∙ ap meant.int_in c.in_ok-index.ensures in
    (seen, ap (λ z. meant.at_index c.args.count z go k seen) (sym index) ∙ c.in-None.ensures go k seen)
