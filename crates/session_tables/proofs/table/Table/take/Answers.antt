use Rattle.std.proofs.Common.{◌≡◌, true, List, Some, Ok, Err, sym, ap, ◌∙◌, subst}
use Rattle.session_meaning.specs.Tables.{Numbered, put}
use Rattle.session_tables.specs.Rows.{ascends, rows_in}
use Rattle.session_tables.specs.declared.table.Entry.{Entry}
use Rattle.session_tables.proofs.Steps.{ascends_remove, find_none, find_there, none_there, place_in, put_removed, removed_from, to_ascend}
use Rattle.session_tables.proofs.table.Table.take.Goals as goal

pub invariant_of-self : goal.invariant_of-self
invariant_of-self g c =
    let es = c.args.self.now.entries.items in
    let s = c.args.self.now.in_order in
    let at = place_in c.args.number c.deref.result.now es c.place_of.result (Ok c.in-Ok.place) c.deref.ensures.value c.in-Ok.is c.place_of.ensures in
    record {
      in_order = subst (λ (rs : List (Numbered g.row.A.Denot)). ascends 0 rs ≡ true)
          (sym (removed_from c.args.number es c.remove-entry.new.self.items c.in-Ok.place c.remove-entry.ensures.items at.1 at.2 s))
          (ascends_remove c.args.number (rows_in es) s);
    }

pub returns-in-Ok-clause-found : goal.returns-in-Ok-clause-found
returns-in-Ok-clause-found g c =
    let es = c.args.self.now.entries.items in
    let at = place_in c.args.number c.deref.result.now es c.place_of.result (Ok c.in-Ok.place) c.deref.ensures.value c.in-Ok.is c.place_of.ensures in
    ap (λ (e : Entry g.row.A.Denot). Some e.value) c.remove-entry.ensures.value
    ∙ sym (find_there c.args.number es c.in-Ok.place c.remove-entry.result at.1 at.2)

pub returns-in-Ok-clause-rows : goal.returns-in-Ok-clause-rows
returns-in-Ok-clause-rows g c =
    let es = c.args.self.now.entries.items in
    let at = place_in c.args.number c.deref.result.now es c.place_of.result (Ok c.in-Ok.place) c.deref.ensures.value c.in-Ok.is c.place_of.ensures in
    removed_from c.args.number es c.remove-entry.new.self.items c.in-Ok.place c.remove-entry.ensures.items at.1 at.2 c.args.self.now.in_order

pub returns-in-Ok-clause-behind : goal.returns-in-Ok-clause-behind
returns-in-Ok-clause-behind g c = λ a.
    let es = c.args.self.now.entries.items in
    let s = c.args.self.now.in_order in
    let at = place_in c.args.number c.deref.result.now es c.place_of.result (Ok c.in-Ok.place) c.deref.ensures.value c.in-Ok.is c.place_of.ensures in
    ap (λ (rs : List (Numbered g.row.A.Denot)). put c.args.number a rs)
    (removed_from c.args.number es c.remove-entry.new.self.items c.in-Ok.place c.remove-entry.ensures.items at.1 at.2 s)
    ∙ put_removed 0 c.args.number a (rows_in es) (to_ascend 0 (rows_in es) s)

pub returns-in-Err-clause-found : goal.returns-in-Err-clause-found
returns-in-Err-clause-found g c =
    let es = c.args.self.now.entries.items in
    let at = place_in c.args.number c.deref.result.now es c.place_of.result (Err c.in-Err.field-0) c.deref.ensures.value c.in-Err.is c.place_of.ensures in
    sym (find_none 0 c.args.number es c.in-Err.field-0 at.1 at.2 at.0 (to_ascend 0 (rows_in es) c.args.self.now.in_order))

pub returns-in-Err-clause-rows : goal.returns-in-Err-clause-rows
returns-in-Err-clause-rows g c =
    let es = c.args.self.now.entries.items in
    let at = place_in c.args.number c.deref.result.now es c.place_of.result (Err c.in-Err.field-0) c.deref.ensures.value c.in-Err.is c.place_of.ensures in
    none_there 0 c.args.number es c.in-Err.field-0 at.1 at.2 at.0 (to_ascend 0 (rows_in es) c.args.self.now.in_order)
