use Rattle.session_tables.specs.Rows.{rows_in}
use Rattle.session_tables.proofs.Steps.{from_ascend}
use Rattle.session_tables.proofs.table.Table.from_entries.Goals as goal

pub invariant_of-result : goal.invariant_of-result
invariant_of-result g c = record { in_order = from_ascend 0 (rows_in c.args.entries.items) c.requires }
