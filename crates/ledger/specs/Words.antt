-- The words in which marks are printed.
use Rattle.std.specs.Prelude.{ℕ, List, codes}
use Rattle.ledger.specs.declared.row.RowMark.{RowMark}
use Rattle.ledger.specs.declared.row.RowMark.TheVariants.{Live, Destroyed}

-- what is printed of a mark
abbrev pub mark_words : RowMark → List ℕ
mark_words Live = codes "live"
mark_words Destroyed = codes "destroyed"
