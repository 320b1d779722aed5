use Rattle.std.proofs.Common.{◌≡◌, refl, subst, length, slice_index_or, arith}
use Rattle.std.proofs.lemmas.Result.{IfOk-weaker}
use Rattle.core_terms.specs.Programs.{types_of}
use Rattle.core_terms.specs.TypeTables.{type_at}
use Rattle.printed_syntax.specs.PrintedParts.{IsPrinted}
use Rattle.printed_syntax.proofs.Composites.{all_composites, rate, some_composites, fields_fall}
use Rattle.printed_syntax.proofs.PrintedFronts.{bool_printed, int_printed, field_more, item_more, items_printed}
use Rattle.printed_syntax.proofs.printing.+values.Goals as goal

pub push_value-returns-in-BoolForm-clause-printed : goal.push_value-returns-in-BoolForm-clause-printed
push_value-returns-in-BoolForm-clause-printed t c =
    IfOk-weaker c.push_spelled_bool.result _ _ (λ left h.
    subst (λ t. IsPrinted c.args.program.now t c.args.bytes.now c.args.text.now.items c.push_spelled_bool.new.text.items left.now) c.in-BoolForm.ensures.form
    (bool_printed c.args.program.now c.args.bytes.now c.args.text.now.items c.push_spelled_bool.new.text.items left.now h)) c.push_spelled_bool.ensures.printed

pub push_value-returns-in-IntForm-clause-printed : goal.push_value-returns-in-IntForm-clause-printed
push_value-returns-in-IntForm-clause-printed t c =
    IfOk-weaker c.push_spelled_int.result _ _ (λ left h.
    subst (λ t. IsPrinted c.args.program.now t c.args.bytes.now c.args.text.now.items c.push_spelled_int.new.text.items left.now) c.in-IntForm.ensures.form
    (int_printed c.args.program.now c.args.bytes.now c.args.text.now.items c.push_spelled_int.new.text.items left.now h)) c.push_spelled_int.ensures.printed

pub push_fields-push_value-requires : goal.push_fields-push_value-requires
push_fields-push_value-requires t c =
    let within = some_composites (types_of c.args.program.now) (slice_index_or c.args.fields.now c.loop-index.index (record { 0 = 0 })).0 in
    let fall = fields_fall (length c.loop-index.left.now) (length c.args.bytes.now) (rate c.args.program.now) _ (all_composites (types_of c.args.program.now)) c.loop-index.invariant.shorter within in
    (omega (arith, fall, c.decreases), tt)

pub push_fields-loop-index-preserved : goal.push_fields-loop-index-preserved
push_fields-loop-index-preserved t c = record {
  printed = field_more c.args.program.now c.args.fields.now c.loop-index.index _ c.args.bytes.now c.args.text.now.items c.loop-index.text.items c.loop-index.left.now
      c.push_value.new.text.items c.in_ok-left.left.now _ c.loop-index-test.true refl c.in_ok-push_comma.ensures c.loop-index.invariant.shorter c.loop-index.invariant.printed
      c.in_ok-left.ensures.printed;
  shorter = omega (arith, c.in_ok-left.ensures.left, c.loop-index.invariant.shorter);
}

pub push_items-loop-index-preserved : goal.push_items-loop-index-preserved
push_items-loop-index-preserved t c = record {
  printed = item_more c.args.program.now (type_at (types_of c.args.program.now) c.args.item) c.loop-index.index c.args.bytes.now _ c.loop-index.text.items c.loop-index.left.now
      c.push_value.new.text.items c.in_ok-left.left.now _ (rw c.from.ensures at c.in_ok-push_comma.ensures) c.loop-index.invariant.shorter c.loop-index.invariant.printed
      c.in_ok-left.ensures.printed;
  shorter = omega (arith, c.in_ok-left.ensures.left, c.loop-index.invariant.shorter);
}

pub push_items-returns-clause-printed : goal.push_items-returns-clause-printed
push_items-returns-clause-printed t c =
    let all : c.loop-index.index ≡ c.args.count = omega (arith, c.loop-index-test.false, c.loop-index.auto.index-end) in
    items_printed c.args.program.now c.args.count (type_at (types_of c.args.program.now) c.args.item) c.args.bytes.now c.args.text.now.items c.loop-index.text.items
    c.loop-index.left.now c.push-2.new.self.items c.in_ok-push-2.ensures.items (rw all at c.loop-index.invariant.printed)
