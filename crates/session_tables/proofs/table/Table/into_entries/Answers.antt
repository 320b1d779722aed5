use Rattle.session_tables.specs.Rows.{rows_in}
use Rattle.session_tables.proofs.Steps.{to_ascend}
use Rattle.session_tables.proofs.table.Table.into_entries.Goals as goal

pub returns-clause-in_order : goal.returns-clause-in_order
returns-clause-in_order g c = to_ascend 0 (rows_in c.args.self.entries.items) c.args.self.in_order
