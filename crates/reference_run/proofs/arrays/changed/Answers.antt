use Rattle.std.proofs.Common.{◌∙◌, ap, ap₂, arith, subst, sym, ℕ, List}
use Rattle.core_terms.specs.Programs.{meaning, types_of}
use Rattle.core_terms.specs.TypeTables.{type_at}
use Rattle.core_terms.specs.Types.{VecTy}
use Rattle.core_terms.specs.Values.{ItemsV, Value}
use Rattle.ideal_meaning.specs.Ideal.{Opened}
use Rattle.ideal_meaning.specs.Run as meant
use Rattle.reference_run.specs.PlainValues.{plain_of, plains_of}
use Rattle.reference_run.specs.Telling.{Evaluation, Tells}
use Rattle.reference_run.proofs.PassedInts.{kept}
use Rattle.reference_run.proofs.arrays.changed.Goals as goal

pub returns-in-Some : goal.returns-in-Some
returns-in-Some c k seen =
    let P = meaning c.args.program.now in
    let n = c.args.count in
    let t = type_at (types_of c.args.program.now) c.args.item in
    let vs = plains_of c.args.operands.now in
    let u = meant.local vs 2 in
    let go : ℕ → ℕ → List Opened → Evaluation Value = λ i k seen. meant.limited P.format.limit P.types (VecTy n t) (ItemsV (meant.replaced (meant.items_in (meant.local vs 0)) i u)) k seen in
    let index = kept c.int_in.result (omega arith) ∙ c.int_in.ensures ∙ ap meant.int_in c.in_ok-index.ensures in
    let there = ap (λ z. meant.at_index n z go k seen) (sym index) ∙ c.in-Some.ensures go k seen in
    let items = c.replaced-items.ensures
    ∙ ap₂ (λ items u. meant.replaced items c.in-Some.place u) (c.items_in.ensures ∙ ap meant.items_in c.in_ok-array.ensures) c.in_ok-value.ensures in
    subst (λ run. Tells plain_of k c.new_array.result run) (ap (λ vs. meant.limited P.format.limit P.types (VecTy n t) (ItemsV vs) k seen) items ∙ sym there) (c.new_array.ensures k seen)

pub returns-in-None : goal.returns-in-None
returns-in-None c k seen =
    let P = meaning c.args.program.now in
    let n = c.args.count in
    let t = type_at (types_of c.args.program.now) c.args.item in
    let vs = plains_of c.args.operands.now in
    let u = meant.local vs 2 in
    let go : ℕ → ℕ → List Opened → Evaluation Value = λ i k seen. meant.limited P.format.limit P.types (VecTy n t) (ItemsV (meant.replaced (meant.items_in (meant.local vs 0)) i u)) k seen in
    let index = kept c.int_in.result (omega arith) ∙ c.int_in.ensures ∙ ap meant.int_in c.in_ok-index.ensures in
    (seen, ap (λ z. meant.at_index n z go k seen) (sym index) ∙ c.in-None.ensures go k seen)
