-- What a ledger means, and the rows that it has.
use Rattle.std.specs.Prelude.{List}
use Rattle.suite.specs.Meanings.{Meaning}
use Rattle.quota.specs.Allowances.{quota_meaning}
use Rattle.ledger.specs.Tables.{table_rows}
use Rattle.ledger.specs.declared.row.Row.{Row}
use Rattle.ledger.specs.declared.layer.Ledger.{Ledger}

-- the meaning of the quota in it
abbrev pub ledger_meaning : {S : Type 0} {b : _} → (S → Meaning) → Ledger S b → Meaning
ledger_meaning meaning l = quota_meaning meaning l.below

-- one row for each key that was made through it
abbrev pub rows_of : {S : Type 0} {b : _} → Ledger S b → List Row
rows_of l = table_rows l.table
