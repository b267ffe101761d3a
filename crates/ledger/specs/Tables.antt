-- The rows that a table holds.
use Rattle.std.specs.Prelude.{List}
use Rattle.ledger.specs.declared.row.Row.{Row}
use Rattle.ledger.specs.declared.table.Table.{Table}

-- the rows, in the order in which they were entered
abbrev pub table_rows : Table → List Row
table_rows t = t.rows.items
