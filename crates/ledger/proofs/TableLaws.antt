-- How the place of a serial's row and the marking of that row go together.
use Rattle.std.proofs.Common.{◌≡◌, ℕ, List, [], ◌∷◌, length, get_or, set, Some, None, refl, arith}
use Rattle.std.proofs.lemmas.Grind.{common_steps}
use Rattle.std.specs.List.{position, position_or_len}
use Rattle.arrayvec.proofs.ArrayVecLemmas.{items-with_items}
use Rattle.ledger.specs.declared.row.Row.{Row}
use Rattle.ledger.specs.Rows.{destroyed_row, rows_with_mark, has_serial}

-- The row that is marked is the first of that serial.
mark_first : (n : ℕ) (rows : List Row) (d : Row) → rows_with_mark n rows ≡ set rows (position_or_len (has_serial n) rows) (destroyed_row (get_or rows (position_or_len (has_serial n) rows) d))
mark_first n [] d = refl
mark_first n (r ∷ rs) d = grind (arith, common_steps, mark_first n rs d)

pub mark_at : (n : ℕ) (rows : List Row) (i : ℕ) (d : Row) → position (has_serial n) rows ≡ Some i → set rows i (destroyed_row (get_or rows i d)) ≡ rows_with_mark n rows
mark_at n rows i d e = grind (arith, common_steps, mark_first n rows d)

pub length-rows_with_mark : (n : ℕ) (rows : List Row) → length (rows_with_mark n rows) ≡ length rows
length-rows_with_mark n [] = refl
length-rows_with_mark n (r ∷ rs) = grind (arith, common_steps, length-rows_with_mark n rs)

-- Where no row has that serial, none is marked.
pub mark_nowhere : (n : ℕ) (rows : List Row) → position (has_serial n) rows ≡ None → rows_with_mark n rows ≡ rows
mark_nowhere n [] e = refl
mark_nowhere n (r ∷ rs) e = grind (arith, common_steps, mark_first n (r ∷ rs) r)

pub ruleset strikes = (common_steps, mark_at, mark_nowhere, items-with_items)
