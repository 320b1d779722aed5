use Rattle.std.proofs.Common.{Some, Ok, Err, sym, ap, ◌∙◌}
use Rattle.session_tables.specs.Rows.{rows_in}
use Rattle.session_tables.specs.declared.table.Entry.{Entry}
use Rattle.session_tables.proofs.Steps.{find_none, find_there, place_in, to_ascend}
use Rattle.session_tables.proofs.table.Table.find.Goals as goal

pub returns-in-Ok : goal.returns-in-Ok
returns-in-Ok g c =
    let es = c.args.self.now.entries.items in
    let at = place_in c.args.number c.deref.result.now es c.place_of.result (Ok c.in-Ok.place) c.deref.ensures.value c.in-Ok.is c.place_of.ensures in
    ap (λ (e : Entry g.row.A.Denot). Some e.value) c.index.ensures ∙ sym (find_there c.args.number es c.in-Ok.place c.index.result.now at.1 at.2)

pub returns-in-Err : goal.returns-in-Err
returns-in-Err g c =
    let es = c.args.self.now.entries.items in
    let at = place_in c.args.number c.deref.result.now es c.place_of.result (Err c.in-Err.field-0) c.deref.ensures.value c.in-Err.is c.place_of.ensures in
    sym (find_none 0 c.args.number es c.in-Err.field-0 at.1 at.2 at.0 (to_ascend 0 (rows_in es) c.args.self.now.in_order))
