-- That the rows of a ledger tell of its keys, kept by every call.
use Rattle.std.proofs.Common.{◌≡◌, ℕ, ◌+◌, ◌-◌, ◌<◌, ◌≤◌, true, false, List, [], ◌∷◌, ◌++◌, length, is_some, Ok, Err, Result, refl, ◌∙◌, arith}
use Rattle.std.proofs.ByRecursion.{All-push}
use Rattle.std.proofs.lemmas.List.{length_push}
use Rattle.std.proofs.lemmas.Grind.{common_steps}
use Rattle.std.specs.List.{AllByRecursion}
use Rattle.suite.specs.declared.types.KeyKind.{KeyKind}
use Rattle.suite.specs.declared.types.Denial.{Denial}
use Rattle.suite.specs.Meanings.{Key, Meaning, HasDistinctSerials, value_in, is_live, keys_without}
use Rattle.suite.specs.Calls.{serial_result, after_making, destroy_result, after_destroy}
use Rattle.ledger.specs.declared.row.RowMark.{RowMark}
use Rattle.ledger.specs.declared.row.RowMark.TheVariants.{Live, Destroyed}
use Rattle.ledger.proofs.TableLaws.{length-rows_with_mark}
use Rattle.ledger.specs.declared.row.Row.{Row}
use Rattle.ledger.specs.Rows.{live_row, rows_with_mark, rows_after_making, rows_after_destroying, HasSerialsFrom, MarkHolds, IsTrueRow, TellsKeys}

-- After a key is made: what was live stays, the key is live, and no other becomes so.

value-push : (ks : List Key) (k : Key) (kind : KeyKind) (n : ℕ) → is_some (value_in ks kind n) ≡ true → is_some (value_in (ks ++ (k ∷ [])) kind n) ≡ true
value-push [] k kind n h = grind (arith, common_steps)
value-push (j ∷ ks) k kind n h = grind (arith, common_steps, value-push ks k kind n)

value_made : (ks : List Key) (k : Key) → is_some (value_in (ks ++ (k ∷ [])) k.kind k.serial) ≡ true
value_made [] k = grind (arith, common_steps)
value_made (j ∷ ks) k = grind (arith, common_steps, value_made ks k)

live-push : (ks : List Key) (k : Key) (n : ℕ) → is_live ks n ≡ false → (k.serial ≡ n → ⊥) → is_live (ks ++ (k ∷ [])) n ≡ false
live-push [] k n h o = grind (arith, common_steps)
live-push (j ∷ ks) k n h o = grind (arith, common_steps, live-push ks k n)

says-push : (mark : RowMark) (ks : List Key) (k : Key) (kind : KeyKind) (n : ℕ) → (k.serial ≡ n → ⊥) → MarkHolds mark ks kind n → MarkHolds mark (ks ++ (k ∷ [])) kind n
says-push Live ks k kind n o h = value-push ks k kind n h
says-push Destroyed ks k kind n o h = live-push ks k n h o

-- After a key is destroyed: it is not live, and nothing is told anew of any other.

value-keys_without : (ks : List Key) (d : ℕ) (kind : KeyKind) (n : ℕ) → (n ≡ d → ⊥) → is_some (value_in (keys_without ks d) kind n) ≡ is_some (value_in ks kind n)
value-keys_without [] d kind n o = refl
value-keys_without (k ∷ ks) d kind n o = grind (arith, common_steps, value-keys_without ks d kind n)

live-keys_without : (ks : List Key) (d n : ℕ) → is_live ks n ≡ false → is_live (keys_without ks d) n ≡ false
live-keys_without [] d n h = refl
live-keys_without (k ∷ ks) d n h = grind (arith, common_steps, live-keys_without ks d n)

gone : (ks : List Key) (d : ℕ) → HasDistinctSerials ks → is_live (keys_without ks d) d ≡ false
gone [] d a = refl
gone (k ∷ ks) d a = grind (arith, common_steps, gone ks d)

says-keys_without : (mark : RowMark) (ks : List Key) (d : ℕ) (kind : KeyKind) (n : ℕ) → (n ≡ d → ⊥) → MarkHolds mark ks kind n → MarkHolds mark (keys_without ks d) kind n
says-keys_without Live ks d kind n o h = value-keys_without ks d kind n o ∙ h
says-keys_without Destroyed ks d kind n o h = live-keys_without ks d n h

-- where no live key has the serial, none is taken away
unfound : (ks : List Key) (d : ℕ) → is_live ks d ≡ false → keys_without ks d ≡ ks
unfound [] d h = refl
unfound (k ∷ ks) d h = grind (arith, common_steps, unfound ks d)

-- The rows after one is entered.

follow-push : (n : ℕ) (rows : List Row) (r : Row) → HasSerialsFrom n rows → r.serial ≡ n + length rows → HasSerialsFrom n (rows ++ (r ∷ []))
follow-push n [] r f e = grind (arith, common_steps)
follow-push n (q ∷ rows) r f e = grind (arith, common_steps, follow-push (n + 1) rows r)

true-push : (n : ℕ) (rows : List Row) (ks : List Key) (k : Key) → HasSerialsFrom n rows → n + length rows ≤ k.serial → AllByRecursion (IsTrueRow ks) rows → AllByRecursion (IsTrueRow (ks ++ (k ∷ []))) rows
true-push n [] ks k f l h = tt
true-push n (r ∷ rows) ks k f l h = grind (arith, common_steps, says-push r.mark ks k r.kind r.serial, true-push (n + 1) rows ks k)

made_told : (m : Meaning) (kind : KeyKind) (made : Result (List ℕ) Denial) (rows : List Row) → TellsKeys m rows → TellsKeys (after_making m kind made) (rows_after_making kind (serial_result m made) rows)
made_told m kind (Ok v) rows t =
    let k : Key = record { serial = m.newest + 1; kind = kind; value = v } in
    let r = live_row (m.newest + 1) kind in
    let first = m.newest - length rows + 1 in
    let e : m.newest + 1 - length (rows ++ (r ∷ [])) ≡ m.newest - length rows = omega (arith, length_push rows r) in
    record {
      count = omega (arith, t.count, length_push rows r);
      order = rw e (follow-push first rows r t.order (omega (arith, t.count)));
      marks = grind (arith, common_steps, t.count, All-push (IsTrueRow (m.live ++ (k ∷ []))) rows r, true-push first rows m.live k t.order, value_made m.live k, t.marks);
    }
made_told m kind (Err e) rows t = t

-- the same from what a call promises of its answer, the meaning after and the rows after
pub made_kept : (m m' : Meaning) (kind : KeyKind) (made : Result (List ℕ) Denial) (r : Result ℕ Denial) (rows rows' : List Row) → r ≡ serial_result m made → m' ≡ after_making m kind made → rows' ≡ rows_after_making kind r rows → TellsKeys m rows → TellsKeys m' rows'
made_kept m m' kind made r rows rows' a f e t = rw (f, e, a) (made_told m kind made rows t)

-- The rows after one is marked.

follow-rows_with_mark : (n d : ℕ) (rows : List Row) → HasSerialsFrom n rows → HasSerialsFrom n (rows_with_mark d rows)
follow-rows_with_mark n d [] f = tt
follow-rows_with_mark n d (r ∷ rows) f = grind (arith, common_steps, follow-rows_with_mark (n + 1) d rows)

-- the rows past that of the key
true_later : (n d : ℕ) (rows : List Row) (ks : List Key) → HasSerialsFrom n rows → d < n → AllByRecursion (IsTrueRow ks) rows → AllByRecursion (IsTrueRow (keys_without ks d)) rows
true_later n d [] ks f l h = tt
true_later n d (r ∷ rows) ks f l h = grind (arith, common_steps, says-keys_without r.mark ks d r.kind r.serial, true_later (n + 1) d rows ks)

true-rows_with_mark : (n d : ℕ) (rows : List Row) (ks : List Key) → HasDistinctSerials ks → HasSerialsFrom n rows → AllByRecursion (IsTrueRow ks) rows → AllByRecursion (IsTrueRow (keys_without ks d)) (rows_with_mark d rows)
true-rows_with_mark n d [] ks a f h = tt
true-rows_with_mark n d (r ∷ rows) ks a f h = grind (arith, common_steps, gone ks d, says-keys_without r.mark ks d r.kind r.serial, true_later (n + 1) d rows ks, true-rows_with_mark (n + 1) d rows ks)

mark_told : (m : Meaning) (key : ℕ) (rows : List Row) → HasDistinctSerials m.live → TellsKeys m rows → TellsKeys (after_destroy m key) (rows_after_destroying key (destroy_result m key) rows)
mark_told m key rows a t =
    let first = m.newest - length rows + 1 in
    grind (arith, common_steps, t.count, t.order, t.marks, length-rows_with_mark key rows, follow-rows_with_mark first key rows, true-rows_with_mark first key rows m.live a, unfound m.live key)

pub mark_kept : (m m' : Meaning) (key : ℕ) (r : Result (Unit {0}) Denial) (rows rows' : List Row) → HasDistinctSerials m.live → r ≡ destroy_result m key → m' ≡ after_destroy m key → rows' ≡ rows_after_destroying key r rows → TellsKeys m rows → TellsKeys m' rows'
mark_kept m m' key r rows rows' w a f e t = rw (f, e, a) (mark_told m key rows w t)
