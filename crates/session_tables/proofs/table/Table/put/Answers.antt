use Rattle.std.proofs.Common.{◌≡◌, true, List, Ok, Err, sym, subst}
use Rattle.session_meaning.specs.Tables.{Numbered}
use Rattle.session_tables.specs.Rows.{ascends, rows_in}
use Rattle.session_tables.proofs.Steps.{ascends_in, ascends_put, place_in, put_in, put_there}
use Rattle.session_tables.proofs.table.Table.put.Goals as goal

pub invariant_of-self : goal.invariant_of-self
invariant_of-self g c =
    let es = c.args.self.now.entries.items in
    let at = place_in c.args.number c.deref.result.now es c.place_of.result (Ok c.in-Ok.place) c.deref.ensures.value c.in-Ok.is c.place_of.ensures in
    record {
      in_order = subst (λ (rs : List (Numbered g.row.A.Denot)). ascends 0 rs ≡ true)
          (sym (put_there c.args.number c.args.value es c.in-Ok.place at.1 at.2)) (ascends_put c.args.number c.args.value (rows_in es) c.args.self.now.in_order);
    }

pub invariant_of-self-in-Err : goal.invariant_of-self-in-Err
invariant_of-self-in-Err g c =
    let es = c.args.self.now.entries.items in
    let at = place_in c.args.number c.deref.result.now es c.place_of.result (Err c.in-Err.place) c.deref.ensures.value c.in-Err.is c.place_of.ensures in
    record {
      in_order = ascends_in c.args.number c.args.value es c.insert.new.self.items c.in-Err.place c.insert.result c.insert.ensures.items at.1 at.2 at.0
          c.args.self.now.in_order;
    }

pub returns-in-Ok-clause-ok : goal.returns-in-Ok-clause-ok
returns-in-Ok-clause-ok g c =
    let es = c.args.self.now.entries.items in
    let at = place_in c.args.number c.deref.result.now es c.place_of.result (Ok c.in-Ok.place) c.deref.ensures.value c.in-Ok.is c.place_of.ensures in
    put_there c.args.number c.args.value es c.in-Ok.place at.1 at.2

pub returns-in_ok-insert-in-Err-clause-ok : goal.returns-in_ok-insert-in-Err-clause-ok
returns-in_ok-insert-in-Err-clause-ok g c =
    let es = c.args.self.now.entries.items in
    let at = place_in c.args.number c.deref.result.now es c.place_of.result (Err c.in-Err.place) c.deref.ensures.value c.in-Err.is c.place_of.ensures in
    put_in c.args.number c.args.value es c.insert.new.self.items c.in-Err.place c.in_ok-insert-in-Err.ensures.items at.1 at.2 at.0
