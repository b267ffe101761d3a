-- What holds after every list of calls.
use Rattle.std.proofs.Common.{◌≡◌, ℕ, ◌+◌, ◌<◌, true, false, List, [], ◌∷◌, ◌++◌, length, Some, sym, refl, ap, ◌∙◌, subst, arith, length-append}
use Rattle.std.specs.List.{AllByRecursion}
use Rattle.suite.specs.declared.types.KeyKind.TheVariants.{LinkKey}
use Rattle.suite.specs.Meanings.{value_in}
use Rattle.suite.specs.Schemes.{Scheme, IsLawful}
use Rattle.protocol.specs.declared.states.State.TheVariants.{ConfirmedSch}
use Rattle.protocol.specs.Models.{Model}
use Rattle.protocol.specs.Calls.{CallEffect, Call, IsGivenBytes, call_effect, is_in_state}
use Rattle.histories.specs.Histories.{Entry, History, IsFresh, entity_after, history, entry_of, serials_made, serials_destroyed, serials_made_in, serials_destroyed_in, session_started, is_member, Runs, starts, goes_on, SomeRuns, data_sent, frames_received, data_sent_in, frames_received_in}
use Rattle.promises.specs.Promises.{live_serials}
use Rattle.promises.proofs.Cases.{clash}
use Rattle.promises.proofs.Books.{Books, no_books, books_made, books_same, books_cleared, Clears}
use Rattle.promises.proofs.Forms.{base_of}
use Rattle.promises.proofs.Ledgers.{End, Act, Ledger, start, more}
use Rattle.promises.proofs.EntityForms.{HasForm, at_idle, in_sch, end_of, Silent, MakesNext, Did, outside, inside, agrees, links, ends}
use Rattle.promises.proofs.Requests.{did}
use Rattle.promises.proofs.Tellings.{Orderly}

-- what holds of a session that runs
pub record Fits (s : Scheme) (m : Model) (n : ℕ) (since : History) : Type 0 where
  pub linked : in_sch m ≡ true
  pub key : n ≡ m.link
  pub number : m.number ≡ (s.first + length (data_sent since)) + length (frames_received since)
  pub ledger : (w : List ℕ) → value_in m.means.live LinkKey m.link ≡ Some w → Ledger s w (end_of m) since m.number m.held

-- what holds after a history
pub record Holds (s : Scheme) (m : Model) (h : History) : Type 0 where
  pub form : HasForm s m
  pub books : Books m.means.newest (live_serials m.means) (serials_made h) (serials_destroyed h)
  pub all : (n : ℕ) (since : History) → Runs n h since → Fits s m n since
  pub some : in_sch m ≡ true → SomeRuns h

zero_start : {X : Type 0} (n k : ℕ) → 0 < n → k ≡ n → k ≡ 0 → X
zero_start n k p e z = absurd (omega arith)

counted : (f a b m m' : ℕ) (xs ys us vs : List (List ℕ)) → length ys ≡ a → length vs ≡ b → m ≡ (f + length xs) + length us → m' ≡ (m + a) + b → m' ≡ (f + length (xs ++ ys)) + length (us ++ vs)
counted f a b m m' xs ys us vs q t e e' = simp length-append (omega arith)

module _ (s : Scheme) (c : Call) {m : Model} {h : History} (H : Holds s m h) (t : CallEffect) where
  abbrev now : Entry
  now = entry_of c t

  none_ran : in_sch m ≡ false → {X : Type 0} → (n : ℕ) (since : History) → Runs n h since → X
  none_ran o n since r = clash (in_sch m) o (H.all n since r).linked

  -- where no session ran and none starts, none runs
  fits_none : in_sch m ≡ false → session_started t.answer ≡ 0 → (n : ℕ) (since : History) → Runs n (now ∷ h) since → Fits s t.model n since
  fits_none o z n since (starts pos q) = zero_start n _ pos q z
  fits_none o z n since (goes_on r k) = none_ran o n _ r

  -- a session goes on by one act
  ledger_inside : {since : History} → t.model.means ≡ m.means → t.model.link ≡ m.link → end_of t.model ≡ end_of m
      → ((w : List ℕ) → value_in m.means.live LinkKey m.link ≡ Some w → Act s w (end_of m) now m.number m.held t.model.number t.model.held)
      → ((w : List ℕ) → value_in m.means.live LinkKey m.link ≡ Some w → Ledger s w (end_of m) since m.number m.held)
      → (w : List ℕ) → value_in t.model.means.live LinkKey t.model.link ≡ Some w → Ledger s w (end_of t.model) (now ∷ since) t.model.number t.model.held
  ledger_inside {since} em el ee act was w q =
      let q' : value_in m.means.live LinkKey m.link ≡ Some w = sym (ap (λ z. value_in z.live LinkKey t.model.link) em ∙ ap (λ z. value_in m.means.live LinkKey z) el) ∙ q in
      let new : Ledger s w (end_of m) (now ∷ since) t.model.number t.model.held = more (was w q') (act w q') in
      subst (λ (z : End). Ledger s w z (now ∷ since) t.model.number t.model.held) (sym ee) new

  fits_inside : in_sch t.model ≡ true → t.model.means ≡ m.means → t.model.link ≡ m.link → end_of t.model ≡ end_of m → session_started t.answer ≡ 0 → t.model.number ≡ (m.number + length (data_sent_in now)) + length (frames_received_in now)
      → ((w : List ℕ) → value_in m.means.live LinkKey m.link ≡ Some w → Act s w (end_of m) now m.number m.held t.model.number t.model.held)
      → (n : ℕ) (since : History) → Runs n (now ∷ h) since → Fits s t.model n since
  fits_inside a em el ee z num act n since (starts pos q) = zero_start n _ pos q z
  fits_inside a em el ee z num act n since (goes_on {since = before} r k) =
      let was = H.all n before r in
      record {
        linked = a;
        key = was.key ∙ sym el;
        number = counted s.first (length (data_sent_in now)) (length (frames_received_in now)) m.number t.model.number (data_sent before) (data_sent_in now) (frames_received before) (frames_received_in now) refl refl was.number num;
        ledger = ledger_inside em el ee act was.ledger;
      }

  some_inside : serials_destroyed_in t.answer ≡ [] → SomeRuns h → SomeRuns (now ∷ h)
  some_inside d (n, (since, r)) = (n, (now ∷ since, goes_on r (ap (is_member n) d)))

  -- a session starts
  fits_link : in_sch m ≡ false → in_sch t.model ≡ true → session_started t.answer ≡ m.means.newest + 1 → t.model.link ≡ m.means.newest + 1 → t.model.number ≡ s.first → t.model.held ≡ [] → (n : ℕ) (since : History) → Runs n (now ∷ h) since → Fits s t.model n since
  fits_link o a z l num nh n since (starts pos q) = record {
    linked = a;
    key = sym q ∙ z ∙ sym l;
    number = omega arith;
    ledger = λ w k. subst (λ j. Ledger s w (end_of t.model) [] j t.model.held) (sym num) (subst (λ j. Ledger s w (end_of t.model) [] s.first j) (sym nh) start);
  }
  fits_link o a z l num nh n since (goes_on r k) = none_ran o n _ r

  -- the session that ran is over
  fits_ends : session_started t.answer ≡ 0 → (in_sch m ≡ true → is_member m.link (serials_destroyed_in t.answer) ≡ true) → (n : ℕ) (since : History) → Runs n (now ∷ h) since → Fits s t.model n since
  fits_ends z d n since (starts pos q) = zero_start n _ pos q z
  fits_ends z d n since (goes_on {since = before} r k) =
      let was = H.all n before r in
      clash (is_member n (serials_destroyed_in t.answer)) k (ap (λ j. is_member j (serials_destroyed_in t.answer)) was.key ∙ d was.linked)

  abbrev NextBooks : Type 0
  NextBooks = Books t.model.means.newest (live_serials t.model.means) (serials_made h ++ serials_made_in t.answer) (serials_destroyed h ++ serials_destroyed_in t.answer)

  books_silent : t.model.means ≡ m.means → Silent t.answer → NextBooks
  books_silent em q =
      let k = q.makes in
      let d = q.destroys in
      rw (em, k, d) (books_same _ _ _ _ H.books)

  books_next : MakesNext m.means t.model.means t.answer → NextBooks
  books_next q =
      let new = q.newest in
      let live = q.live in
      let k = q.makes in
      let d = q.destroys in
      rw (new, live, k, d) (books_made _ _ _ _ H.books)

  books_ended : t.model.means.newest ≡ m.means.newest → live_serials t.model.means ≡ [] → serials_made_in t.answer ≡ [] → Clears (live_serials m.means) (serials_destroyed_in t.answer) → NextBooks
  books_ended new live k cl = rw (new, live, k) (books_cleared _ _ _ cl H.books)

  held_on : Did s c m t → Holds s t.model (now ∷ h)
  held_on (outside S em o o' q) = record { form = S; books = books_silent em q; all = fits_none o q.begins; some = λ x. clash _ o' x }
  held_on (inside S em i i' el ee q num act) = record { form = S; books = books_silent em q; all = fits_inside i' em el ee q.begins num act; some = λ x. some_inside q.destroys (H.some i) }
  held_on (agrees S o o' q z) = record { form = S; books = books_next q; all = fits_none o z; some = λ x. clash _ o' x }
  held_on (links S o i q z l num nh) = record { form = S; books = books_next q; all = fits_link o i z l num nh; some = λ x. (m.means.newest + 1, ([], starts (omega arith) z)) }
  held_on (ends S o new live k z cl d) = record { form = S; books = books_ended new live k cl; all = fits_ends z d; some = λ x. clash _ o x }

  -- a call made while a session runs starts none
  pub starts_none : Did s c m t → SomeRuns h → session_started t.answer ≡ 0
  starts_none (outside S em o o' q) x = q.begins
  starts_none (inside S em i i' el ee q num act) x = q.begins
  starts_none (agrees S o o' q z) x = z
  starts_none (links S o i q z l num nh) (n, (since, r)) = none_ran o n since r
  starts_none (ends S o new live k z cl d) x = z

not_yet : {X : Type 0} {n : ℕ} {since : History} → Runs n [] since → X
not_yet = elim [ ]

module _ (s : Scheme) (law : IsLawful s) (m : Model) where
  form_first : IsFresh m → HasForm s m
  form_first f = rw (f.no_live, f.idle, f.none_held, f.no_secret, f.no_link) (at_idle (base_of f.formed))

  holds_first : IsFresh m → Holds s m []
  holds_first f =
      let books : Books m.means.newest (live_serials m.means) [] [] = rw f.no_live (no_books _) in
      record { form = form_first f; books = books; all = λ n since r. not_yet r; some = λ x. clash (in_sch m) (ap (λ z. is_in_state (record m { state = z }) ConfirmedSch) f.idle) x }

  pub holds : IsFresh m → (calls : List Call) → AllByRecursion IsGivenBytes calls → Holds s (entity_after s m calls) (history s m calls)
  holds f [] given = holds_first f
  holds f (c ∷ before) given = held_on s c (holds f before given.1) (call_effect s (entity_after s m before) c) (did s law c given.0 (holds f before given.1).form)

  -- so no session starts while one runs
  pub orderly : IsFresh m → (calls : List Call) → AllByRecursion IsGivenBytes calls → Orderly (history s m calls)
  orderly f [] given = tt
  orderly f (c ∷ before) given =
      let H = holds f before given.1 in
      (starts_none s c H (call_effect s (entity_after s m before) c) (did s law c given.0 H.form), orderly f before given.1)
