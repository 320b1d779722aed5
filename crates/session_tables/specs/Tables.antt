-- What a table stands for.
use Rattle.std.specs.Prelude.{List, ◌<◌, vec_len, vec_capacity}
use Rattle.session_meaning.specs.Tables.{Numbered}
use Rattle.session_tables.specs.Rows.{rows_in}
use Rattle.session_tables.specs.declared.table.Table.{Table}

-- its rows, in ascending order of their numbers
abbrev pub rows_of : {A : Type 0} → Table A → List (Numbered A)
rows_of table = rows_in table.entries.items

-- there is memory for one row more
abbrev pub HasRoom : {A : Type 0} → Table A → Type 0
HasRoom table = vec_len table.entries < vec_capacity table.entries
