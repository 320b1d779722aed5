use Rattle.std.proofs.Common.{◌≡◌, ◌+◌, sym, ap, subst, ◌∙◌, arith, take}
use Rattle.core_terms.specs.Programs.{meaning, types_of}
use Rattle.core_terms.specs.TypeTables.{type_at}
use Rattle.core_terms.specs.ProgramTrees.{types_at}
use Rattle.core_terms.specs.Types.{NamedTy, PairTy, VecTy, item_types}
use Rattle.core_terms.specs.Values.{ItemsV, PairV, depth, depths, size, sizes}
use Rattle.ideal_meaning.proofs.InHand.{item_type_at}
use Rattle.reference_run.specs.Measured.{IsMeasured}
use Rattle.reference_run.specs.PlainValues.{plain_of, plains_of}
use Rattle.reference_run.proofs.Locals.{found, none_past}
use Rattle.reference_run.proofs.RowMeasures.{next_measures, no_item_type, same_measures, type_past, type_there}
use Rattle.reference_run.proofs.ValueViews.{plain-ConstructorValue, plain-ItemsValue, plain-PairValue}
use Rattle.reference_run.proofs.measures.+measures.Goals as goal
use Rattle.reference_run.proofs.measures.+measures.Goals.{item_measures-then-place-from, item_measures-else-place-from, row_measures-in-Some, row_measures-in_default}

pub measured-returns-in-TextForm : goal.measured-returns-in-TextForm
measured-returns-in-TextForm t c =
    let types = (meaning c.args.program.now).types in
    let v = plain_of c.args.value.now in
    subst (λ t. IsMeasured c.text_measures.result (size types t v) (depth types t v)) c.in-TextForm.ensures.form (c.text_measures.ensures types)

pub pair_measures-returns-in-PairValue : goal.pair_measures-returns-in-PairValue
pair_measures-returns-in-PairValue t c =
    let types = (meaning c.args.program.now).types in
    let a = type_at (types_of c.args.program.now) c.args.first in
    let b = type_at (types_of c.args.program.now) c.args.second in
    let x = plain_of c.in-PairValue.x.value in
    let y = plain_of c.in-PairValue.y.value in
    let left : IsMeasured c.measured.result (size types a x) (depth types a x) = subst (λ v. IsMeasured c.measured.result (size types a (plain_of v)) (depth types a (plain_of v)))
    c.deref.ensures c.measured.ensures in
    let right : IsMeasured c.measured-in-PairValue.result (size types b y) (depth types b y) =
    subst (λ v. IsMeasured c.measured-in-PairValue.result (size types b (plain_of v)) (depth types b (plain_of v))) c.deref-in-PairValue.ensures c.measured-in-PairValue.ensures in
    let same : 0 + (size types a x + size types b y) ≡ size types a x + size types b y = omega arith in
    let whole = c.headed.ensures _ _ (c.beside-parts.ensures _ _ _ _ left right) in
    subst (λ v. IsMeasured c.headed.result (size types (PairTy a b) v) (depth types (PairTy a b) v))
    (sym (ap plain_of c.in-PairValue.is ∙ plain-PairValue c.in-PairValue.x c.in-PairValue.y))
    (subst (λ n. IsMeasured c.headed.result n (depth types (PairTy a b) (PairV x y))) same whole)

pub constructor_measures-returns-in-ConstructorValue : goal.constructor_measures-returns-in-ConstructorValue
constructor_measures-returns-in-ConstructorValue t c =
    let types = (meaning c.args.program.now).types in
    let number = c.args.named.0 in
    let tag = c.in-ConstructorValue.tag.0 in
    let vs = plains_of c.in-ConstructorValue.fields.items in
    let parts = rw (c.deref.ensures.value, c.field_types-types.ensures) at c.row_measures.ensures in
    subst (λ v. IsMeasured c.headed.result (size types (NamedTy number) v) (depth types (NamedTy number) v))
    (sym (ap plain_of c.in-ConstructorValue.is ∙ plain-ConstructorValue c.in-ConstructorValue.tag c.in-ConstructorValue.fields))
    (c.headed.ensures _ _ parts)

pub array_measures-returns-in-ItemsValue : goal.array_measures-returns-in-ItemsValue
array_measures-returns-in-ItemsValue t c =
    let types = (meaning c.args.program.now).types in
    let item = type_at (types_of c.args.program.now) c.args.item in
    let a = VecTy c.args.count item in
    let vs = plains_of c.in-ItemsValue.items.items in
    let parts = rw c.deref.ensures.value at c.item_measures.ensures in
    let same : 0 + sizes types (item_types c.args.count item) vs ≡ sizes types (item_types c.args.count item) vs = omega arith in
    subst (λ v. IsMeasured c.headed.result (size types a v) (depth types a v)) (sym (ap plain_of c.in-ItemsValue.is ∙ plain-ItemsValue c.in-ItemsValue.items))
    (subst (λ n. IsMeasured c.headed.result n (depth types a (ItemsV vs))) same (c.headed.ensures _ _ parts))

pub item_measures-loop-place-preserved : goal.item_measures-loop-place-preserved
item_measures-loop-place-preserved t c =
    let table = (meaning c.args.program.now).types in
    let item = type_at (types_of c.args.program.now) c.args.item in
    let n = c.args.count in
    let ts = item_types n item in
    let values = c.args.items.now in
    let i = c.loop-place.place in
    let v = c.index-items-place.result in
    elim c.if-place-from.branch [
      | item_measures-then-place-from w ↦
          subst (λ row. IsMeasured row (sizes table ts (plains_of (take (i + 1) values))) (depths table ts (plains_of (take (i + 1) values)))) (sym w.row-is)
          (next_measures table ts values i v item w.beside-row.result c.loop-place-test.true c.index-items-place.is (item_type_at n i item (omega (arith, w.if-place-from.true, c.from.ensures)))
          (w.beside-row.ensures _ _ _ _ c.loop-place.invariant w.measured.ensures))
      | item_measures-else-place-from w ↦
          subst (λ row. IsMeasured row (sizes table ts (plains_of (take (i + 1) values))) (depths table ts (plains_of (take (i + 1) values)))) (sym w.row-is)
          (same_measures table ts values i v c.loop-place.row c.loop-place-test.true (no_item_type n i item (omega (arith, w.if-place-from.false, c.from.ensures))) c.loop-place.invariant)
    ]

pub row_measures-loop-place-preserved : goal.row_measures-loop-place-preserved
row_measures-loop-place-preserved t c =
    let table = (meaning c.args.program.now).types in
    let ids = c.args.types.now in
    let ts = types_at (types_of c.args.program.now) ids in
    let values = c.args.values.now in
    let i = c.loop-place.place in
    let v = c.index-values-place.result in
    elim c.match-get.branch [
      | row_measures-in-Some w ↦
          let lookup = w.in-Some.ensures.lookup in
          let ty = w.in-Some.ty.now in
          subst (λ row. IsMeasured row (sizes table ts (plains_of (take (i + 1) values))) (depths table ts (plains_of (take (i + 1) values)))) (sym w.row-is)
          (next_measures table ts values i v (type_at (types_of c.args.program.now) ty) w.beside-row.result c.loop-place-test.true c.index-values-place.is
          (type_there (types_of c.args.program.now) ids i ty (found ids i ty lookup.3.0 lookup.1)) (w.beside-row.ensures _ _ _ _ c.loop-place.invariant w.measured.ensures))
      | row_measures-in_default w ↦
          subst (λ row. IsMeasured row (sizes table ts (plains_of (take (i + 1) values))) (depths table ts (plains_of (take (i + 1) values)))) (sym w.row-is)
          (same_measures table ts values i v c.loop-place.row c.loop-place-test.true (type_past (types_of c.args.program.now) ids i (none_past ids i
          c.get.result w.in_default.not-Some c.get.ensures.lookup))
          c.loop-place.invariant)
    ]
