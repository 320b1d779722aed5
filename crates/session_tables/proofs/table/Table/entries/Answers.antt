use Rattle.std.proofs.Common.{List, sym, subst}
use Rattle.session_meaning.specs.Tables.{Ascend}
use Rattle.session_tables.specs.Rows.{rows_in}
use Rattle.session_tables.specs.declared.table.Entry.{Entry}
use Rattle.session_tables.proofs.Steps.{to_ascend}
use Rattle.session_tables.proofs.table.Table.entries.Goals as goal

pub returns-clause-in_order : goal.returns-clause-in_order
returns-clause-in_order g c =
    subst (λ (es : List (Entry g.row.A.Denot)). Ascend 0 (rows_in es)) (sym c.deref.ensures.value)
    (to_ascend 0 (rows_in c.args.self.now.entries.items) c.args.self.now.in_order)
