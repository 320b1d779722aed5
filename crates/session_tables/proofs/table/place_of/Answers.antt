use Rattle.std.proofs.Common.{◌<◌, Some, sym, ap, ◌∙◌, subst, arith}
use Rattle.session_tables.proofs.Steps.{before_more, number_at, number_there}
use Rattle.session_tables.specs.declared.table.Entry.{Entry}
use Rattle.session_tables.proofs.table.place_of.Goals as goal

pub returns-then-entry-number : goal.returns-then-entry-number
returns-then-entry-number g c =
    let item = c.index-entries-place.result in (
      c.loop-place-test.true,
      number_there c.args.entries.now c.loop-place.place item c.loop-place-test.true
          ∙ ap (λ (e : Entry g.row.A.Denot). Some e.number) (sym c.index-entries-place.is) ∙ ap Some c.if-entry-number.true,
      c.loop-place.invariant,
    )

pub returns-then-number-entry : goal.returns-then-number-entry
returns-then-number-entry g c =
    let item = c.index-entries-place.result in (
      omega (arith, c.loop-place-test.true),
      (λ l. subst (λ m. c.args.number < m) (ap (λ (e : Entry g.row.A.Denot). e.number) c.index-entries-place.is
          ∙ sym (number_at c.args.entries.now c.loop-place.place item c.loop-place-test.true)) c.if-number-entry.true),
      c.loop-place.invariant,
    )

pub returns : goal.returns
returns g c = (
  omega arith,
  (λ l. absurd (omega (arith, l))),
  (λ k l. c.loop-place.invariant k (omega (arith, l, c.loop-place-test.false))),
)

pub loop-place-preserved : goal.loop-place-preserved
loop-place-preserved g c =
    let item = c.index-entries-place.result in
    before_more c.args.number c.args.entries.now c.loop-place.place item c.loop-place-test.true
    (subst (λ (e : Entry g.row.A.Denot). e.number < c.args.number) c.index-entries-place.is
    (omega (arith, c.if-entry-number.false, c.if-number-entry.false))) c.loop-place.invariant
