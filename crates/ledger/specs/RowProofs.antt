-- Proofs, which need not be read: that rows tell of keys has one proof at most, as an invariant of a type has to.
use Rattle.std.specs.Prelude.{ℕ, ◌+◌, ◌-◌, List, [], ◌∷◌, length}
use Rattle.std.specs.List.{AllByRecursion-prop}
use Rattle.std.specs.Coded.{×_prop, Unit-prop, le_prop}
use native.Mathlib.Nat.{ℕ_set}
use mathlib.Core.Bool.{Bool-set}
use Rattle.suite.specs.declared.types.KeyKind.{KeyKind}
use Rattle.suite.specs.Meanings.{Key, Meaning}
use Rattle.ledger.specs.declared.row.RowMark.{RowMark}
use Rattle.ledger.specs.declared.row.RowMark.TheVariants.{Live, Destroyed}
use Rattle.ledger.specs.declared.row.Row.{Row}
use Rattle.ledger.specs.Rows.{HasSerialsFrom, MarkHolds, IsTrueRow, TellsKeys}

HasSerialsFrom-prop : (n : ℕ) (rows : List Row) → IsProp (HasSerialsFrom n rows)
HasSerialsFrom-prop n [] = Unit-prop
HasSerialsFrom-prop n (r ∷ rows) = ×_prop (ℕ_set _ _) (HasSerialsFrom-prop (n + 1) rows)

MarkHolds-prop : (mark : RowMark) (keys : List Key) (kind : KeyKind) (n : ℕ) → IsProp (MarkHolds mark keys kind n)
MarkHolds-prop Live keys kind n = Bool-set _ _
MarkHolds-prop Destroyed keys kind n = Bool-set _ _

pub TellsKeys-prop : (m : Meaning) (rows : List Row) → IsProp (TellsKeys m rows)
TellsKeys-prop m rows p q = λ i. record {
  count = le_prop p.count q.count i;
  order = HasSerialsFrom-prop (m.newest - length rows + 1) rows p.order q.order i;
  marks = AllByRecursion-prop (IsTrueRow m.live) (λ r. MarkHolds-prop r.mark m.live r.kind r.serial) rows p.marks q.marks i;
}
