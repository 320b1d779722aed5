use Rattle.std.proofs.Common.{◌≡◌, ℕ, List, Option, None, refl, sym, ap, subst, ◌∙◌, length, slice_index_or, unwrap_or, arith}
use Rattle.std.specs.Prelude.{slice_get}
use Rattle.core_terms.specs.Programs.{types_of}
use Rattle.core_terms.specs.TypeTables.{type_at}
use Rattle.printed_syntax.specs.PrintedLengths.{IsCounted}
use Rattle.printed_syntax.proofs.BareTypes.{bare_counted, known_size}
use Rattle.printed_syntax.proofs.Composites.{all_composites, rate, some_composites, fields_fall}
use Rattle.printed_syntax.proofs.CountedFronts.{bool_counted, int_counted, field_counted, item_counted, items_counted}
use Rattle.printed_syntax.proofs.printing.counts.+counts.Goals as goal

pub count_value-returns-in-Some-clause-counted : goal.count_value-returns-in-Some-clause-counted
count_value-returns-in-Some-clause-counted t c =
    let known = ap (λ (sizes : List (Option ℕ)). unwrap_or (slice_get sizes c.args.ty.0) None) (sym c.requires.bare) ∙ sym c.in-Some.ensures in
    bare_counted c.args.program.now (type_at (types_of c.args.program.now) c.args.ty) c.in-Some.length c.args.bytes.now (known_size (types_of c.args.program.now) c.args.ty.0 c.in-Some.length known)

pub count_value-returns-in-BoolForm-clause-counted : goal.count_value-returns-in-BoolForm-clause-counted
count_value-returns-in-BoolForm-clause-counted t c =
    subst (λ t. IsCounted c.args.program.now t c.args.bytes.now c.bool_length.result.length c.bool_length.result.left.now) c.in-BoolForm.ensures.form
    (bool_counted c.args.program.now c.args.bytes.now c.bool_length.result.length c.bool_length.result.left.now c.bool_length.ensures.counted)

pub count_value-returns-in-IntForm-clause-counted : goal.count_value-returns-in-IntForm-clause-counted
count_value-returns-in-IntForm-clause-counted t c =
    subst (λ t. IsCounted c.args.program.now t c.args.bytes.now c.int_length.result.length c.int_length.result.left.now) c.in-IntForm.ensures.form
    (int_counted c.args.program.now c.args.bytes.now c.int_length.result.length c.int_length.result.left.now c.int_length.ensures.counted)

pub count_fields-count_value-value-requires : goal.count_fields-count_value-value-requires
count_fields-count_value-value-requires t c =
    let within = some_composites (types_of c.args.program.now) (slice_index_or c.args.fields.now c.loop-index.index (record { 0 = 0 })).0 in
    let fall = fields_fall (length c.loop-index.left.now) (length c.args.bytes.now) (rate c.args.program.now) _ (all_composites (types_of c.args.program.now)) c.loop-index.invariant.shorter within in
    (omega (arith, fall, c.decreases), c.requires.bare)

pub count_fields-loop-index-preserved : goal.count_fields-loop-index-preserved
count_fields-loop-index-preserved t c = record {
  counted = field_counted c.args.program.now c.args.fields.now c.loop-index.index _ c.args.bytes.now c.loop-index.length c.loop-index.left.now c.count_value-value.result.length
      c.count_value-value.result.left.now c.with_next-length.result c.loop-index-test.true refl c.with_next-length.ensures c.loop-index.invariant.shorter c.loop-index.invariant.counted
      c.count_value-value.ensures.counted;
  shorter = omega (arith, c.count_value-value.ensures.left, c.loop-index.invariant.shorter);
}

pub count_items-loop-index-preserved : goal.count_items-loop-index-preserved
count_items-loop-index-preserved t c = record {
  counted = item_counted c.args.program.now (type_at (types_of c.args.program.now) c.args.item) c.loop-index.index c.args.bytes.now c.loop-index.length c.loop-index.left.now
      c.count_value-value.result.length c.count_value-value.result.left.now c.with_next-length.result (rw c.from.ensures at c.with_next-length.ensures) c.loop-index.invariant.shorter
      c.loop-index.invariant.counted c.count_value-value.ensures.counted;
  shorter = omega (arith, c.count_value-value.ensures.left, c.loop-index.invariant.shorter);
}

pub count_items-returns-clause-counted : goal.count_items-returns-clause-counted
count_items-returns-clause-counted t c =
    let all : c.loop-index.index ≡ c.args.count = omega (arith, c.loop-index-test.false, c.loop-index.auto.index-end) in
    items_counted c.args.program.now c.args.count (type_at (types_of c.args.program.now) c.args.item) c.args.bytes.now c.loop-index.length c.loop-index.left.now c.saturating_add.result
    c.saturating_add.ensures (rw all at c.loop-index.invariant.counted)
