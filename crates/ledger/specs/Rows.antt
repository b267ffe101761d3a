-- The rows of a ledger: how a key's making enters one, how its destroying marks one, and what the rows tell of the keys.
use Rattle.std.specs.Prelude.{◌≡◌, ℕ, ◌+◌, ◌-◌, ◌≤◌, Bool, true, false, cond, List, [], ◌∷◌, ◌++◌, length, is_some, Ok, Err, Result, ◌==◌}
use Rattle.std.specs.List.{AllByRecursion}
use Rattle.suite.specs.declared.types.KeyKind.{KeyKind}
use Rattle.suite.specs.declared.types.KeyKind.TheVariants.{SharedSecret}
use Rattle.suite.specs.declared.types.Denial.{Denial}
use Rattle.suite.specs.Meanings.{Key, Meaning, value_in, is_live}
use Rattle.ledger.specs.declared.row.RowMark.{RowMark}
use Rattle.ledger.specs.declared.row.RowMark.TheVariants.{Live, Destroyed}
use Rattle.ledger.specs.declared.row.Row.{Row}

-- the number of each mark
abbrev pub mark_number : RowMark → ℕ
mark_number Live = 1
mark_number Destroyed = 2

-- the row of no key: keys have serials from 1 on
abbrev pub unused_row : Row
unused_row = record { serial = 0; kind = SharedSecret; mark = Destroyed }

-- the row of a key that was just made
abbrev pub live_row : ℕ → KeyKind → Row
live_row serial kind = record { serial = serial; kind = kind; mark = Live }

-- the row of a key after it was destroyed: only the mark is another
abbrev pub destroyed_row : Row → Row
destroyed_row r = record { serial = r.serial; kind = r.kind; mark = Destroyed }

-- the row of a serial marked, and no other; no row changes where none has that serial
abbrev pub rows_with_mark : ℕ → List Row → List Row
rows_with_mark n [] = []
rows_with_mark n (r ∷ rs) = cond (r.serial == n) (destroyed_row r ∷ rs) (r ∷ rows_with_mark n rs)

-- a row of that serial
abbrev pub has_serial : ℕ → Row → Bool
has_serial n r = r.serial == n

-- the rows after a call that makes a key, by its answer: one more for the serial returned
abbrev pub rows_after_making : KeyKind → Result ℕ Denial → List Row → List Row
rows_after_making kind (Ok serial) rows = rows ++ (live_row serial kind ∷ [])
rows_after_making kind (Err e) rows = rows

-- the rows after a call that destroys a key, by its answer
abbrev pub rows_after_destroying : ℕ → Result (Unit {0}) Denial → List Row → List Row
rows_after_destroying key (Ok u) rows = rows_with_mark key rows
rows_after_destroying key (Err e) rows = rows

-- the serials of the rows follow one another from n on
abbrev pub HasSerialsFrom : ℕ → List Row → Type 0
HasSerialsFrom n [] = Unit {0}
HasSerialsFrom n (r ∷ rs) = (r.serial ≡ n) × HasSerialsFrom (n + 1) rs

-- what a mark says of the key of a kind and serial: it is live; or it is not
abbrev pub MarkHolds : RowMark → List Key → KeyKind → ℕ → Type 0
MarkHolds Live keys kind n = is_some (value_in keys kind n) ≡ true
MarkHolds Destroyed keys kind n = is_live keys n ≡ false

-- what the mark of a row says of its key is so
abbrev pub IsTrueRow : List Key → Row → Type 0
IsTrueRow keys r = MarkHolds r.mark keys r.kind r.serial

-- The rows of a ledger, by what it means: one for each of the keys made last, in the order made. A row is marked live
-- exactly where its key is live, and has its kind then.
pub record TellsKeys (m : Meaning) (rows : List Row) : Type 0 where
  pub count : length rows ≤ m.newest
  pub order : HasSerialsFrom (m.newest - length rows + 1) rows
  pub marks : AllByRecursion (IsTrueRow m.live) rows
