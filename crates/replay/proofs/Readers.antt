-- What is kept of a history that is read call by call.
use Rattle.std.proofs.Common.{◌≡◌, ℕ, ◌+◌, ◌≤◌, ◌∷◌, [], ◌++◌, List, eqb, false, Some, None, Ok, Option, option_to_list, length, take, get_or, Bor, arith, sym, refl, ap, ◌∙◌, subst, length-append}
use Rattle.std.specs.Option.{option_or}
use Rattle.std.proofs.iter.Yields.{fronts}
use Rattle.std.proofs.lemmas.Iterator.{zips}
use Rattle.std.proofs.lemmas.Slice.Zip.{zip_turn}
use Rattle.std.specs.Iterator.{Yields}
use Rattle.std.specs.Iterator.Adapters.{zip_first, zip_second}
use Rattle.std.specs.Slice.Iter.{iter_rest}
use Rattle.std.specs.declared.iter.Zip.{Zip}
use Rattle.std.specs.declared.slice.Iter.{Iter}
use Rattle.protocol.specs.declared.outcomes.Outcome.{Outcome}
use Rattle.histories.specs.Histories.{Entry, History, serials_made}
use Rattle.replay.specs.declared.entry.Entry as e
use Rattle.replay.specs.declared.logged.LoggedCall.{LoggedCall}
use Rattle.replay.specs.LogViews.{logged_call, logged_calls}
use Rattle.replay.specs.Entries.{history_entry, transcript_history}
use Rattle.replay.specs.declared.session.SessionSoFar.{SessionSoFar}
use Rattle.service_sheet.specs.declared.record.SheetRecord.{SheetRecord}
use Rattle.replay.specs.SheetRecords.{OpenSession, last_made, open_session, records_closed, sheet_records}
use Rattle.replay.specs.declared.session.Sessions.{Sessions}
use Rattle.replay.specs.SessionCounts.{counted_session, IsAfter, HasCountsTo}
use Rattle.replay.proofs.SheetRuns.{last_append}
use Rattle.replay.proofs.Turns.{told_next}

-- an answer that makes a key makes the last one
pub made_now : (h : History) (e : Entry) (o : Outcome) → e.answer ≡ Ok o → eqb o.made 0 ≡ false → o.made ≡ last_made (e ∷ h)
made_now h e o is some = rw (is, some) (sym (last_append (serials_made h) o.made))

-- what starts, or else goes on, is counted as it is
counted_or : (x y : Option OpenSession) → option_or (counted_session x) (counted_session y) ≡ counted_session (option_or x y)
counted_or None y = refl
counted_or (Some s) y = refl

pub counted_next : (x y : Option OpenSession) (a b r : Option SessionSoFar) → a ≡ counted_session x → b ≡ counted_session y → r ≡ option_or a b → r ≡ counted_session (option_or x y)
counted_next x y a b r p q e = e ∙ ap (λ z. option_or z b) p ∙ ap (option_or (counted_session x)) q ∙ counted_or x y

-- counts that are at most n are at most any greater number
pub counts_below : (n k : ℕ) (x : Option SessionSoFar) → n ≤ k → HasCountsTo n x → HasCountsTo k x
counts_below n k None le c = tt
counts_below n k (Some x) le c = (omega (arith, c.0), omega (arith, c.1))

-- a session that starts has no counts
pub counts_begun : (n : ℕ) (x y : Option SessionSoFar) → HasCountsTo 0 x → HasCountsTo n y → HasCountsTo n (option_or x y)
counts_begun n None y c d = d
counts_begun n (Some x) y c d = counts_below 0 n (Some x) (omega arith) c

-- the history of the calls and entries that were read so far
abbrev pub read_so_far : List LoggedCall → List e.Entry → ℕ → History
read_so_far log entries i = transcript_history (logged_calls (take i log)) (take i entries)

-- one more call, read with its entry
pub read_next : (log : List LoggedCall) (entries : List e.Entry) (xs : List (Bor LoggedCall × Bor e.Entry)) (s t u : Zip (Iter LoggedCall) (Iter e.Entry)) (r : Option (Bor LoggedCall × Bor e.Entry)) (p : Bor LoggedCall × Bor e.Entry)
    → iter_rest (zip_first s) ≡ log → iter_rest (zip_second s) ≡ entries → Yields (zips fronts fronts) s xs t → r ≡ Some p → zips fronts fronts t r u
    → read_so_far log entries (length (xs ++ (p ∷ []))) ≡ history_entry (logged_call p.0.now) p.1.now ∷ read_so_far log entries (length xs)
read_next log entries xs s t u r p first second y is goes =
    let at = zip_turn log entries xs s t u r first second y p is goes in
    let more : length (xs ++ (p ∷ [])) ≡ length xs + 1 = length-append xs (p ∷ []) in
    ap (read_so_far log entries) more
    ∙ told_next log entries (length xs) p.0.now p.1.now at.0 at.1
    ∙ ap (λ z. history_entry (logged_call z) (get_or entries (length xs) p.1.now) ∷ read_so_far log entries (length xs)) (sym (at.2 p.0.now))
    ∙ ap (λ z. history_entry (logged_call p.0.now) z ∷ read_so_far log entries (length xs)) (sym (at.3 p.1.now))

-- what is kept of them
pub record IsRead (log : List LoggedCall) (entries : List e.Entry) (i : ℕ) (told : List SheetRecord) (kept : Sessions) : Type 0 where
  pub records : told ≡ sheet_records (read_so_far log entries i)
  pub sessions : IsAfter (read_so_far log entries i) kept
  pub counts : HasCountsTo i kept.running

-- a further record, if the call ends a session, stands after the others
records_next : (h next : History) (x : Entry) (old new : List SheetRecord) (closed : Option SheetRecord) → next ≡ x ∷ h → old ≡ sheet_records h → option_to_list closed ≡ records_closed (open_session h) x → new ≡ old ++ option_to_list closed → new ≡ sheet_records next
records_next h next x old new closed more before ends after =
    after ∙ ap (λ z. z ++ option_to_list closed) before ∙ ap (λ z. sheet_records h ++ z) ends ∙ sym (ap sheet_records more)

-- what one more call adds, where that many pairs were read
pub read_on : (log : List LoggedCall) (entries : List e.Entry) (i j : ℕ) (x : Entry) (old new : List SheetRecord) (before after : Sessions) (closed : Option SheetRecord)
    → j ≡ i + 1 → read_so_far log entries j ≡ x ∷ read_so_far log entries i → IsRead log entries i old before
    → ((h : History) → IsAfter h before → IsAfter (x ∷ h) after) → ((h : History) → IsAfter h before → option_to_list closed ≡ records_closed (open_session h) x) → ((n : ℕ) → HasCountsTo n before.running → HasCountsTo (n + 1) after.running)
    → new ≡ old ++ option_to_list closed → IsRead log entries j new after
read_on log entries i j x old new before after closed one more is adds closes counts pushed =
    let h = read_so_far log entries i in
    record {
      records = records_next h (read_so_far log entries j) x old new closed more is.records (closes h is.sessions) pushed;
      sessions = subst (λ z. IsAfter z after) (sym more) (adds h is.sessions);
      counts = subst (λ n. HasCountsTo n after.running) (sym one) (counts i is.counts);
    }
