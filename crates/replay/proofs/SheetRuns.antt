-- What the records of a history tell holds after every list of calls.
use Rattle.std.proofs.Common.{◌≡◌, ℕ, ◌+◌, ◌<◌, ◌≤◌, true, false, ◌||◌, ◌⊎◌, eqb, List, [], ◌∷◌, ◌++◌, None, Result, sym, refl, ap, ◌∙◌, subst, inl, inr, append-nil, reverse, arith}
use Rattle.std.specs.List.{AllByRecursion}
use Rattle.std.proofs.lemmas.Bool.{eq-eqb, eqb-true, or_cases, or_left, or_right}
use Rattle.frame.specs.declared.types.Service.{Service}
use Rattle.frame.specs.declared.types.Service.TheVariants.{Sse, Sch}
use Rattle.suite.specs.Schemes.{Scheme, IsLawful}
use Rattle.protocol.specs.declared.states.State.TheVariants.{ConfirmedSse}
use Rattle.protocol.specs.declared.outcomes.Outcome.{Outcome}
use Rattle.protocol.specs.declared.refusals.Refusal.{Refusal}
use Rattle.protocol.specs.Numbers.{state_mark}
use Rattle.protocol.specs.Models.{Model}
use Rattle.protocol.specs.Calls.{CallEffect, Call, IsGivenBytes, call_effect}
use Rattle.histories.specs.Histories.{Entry, History, IsFresh, entity_after, history, entry_of, serials_made, serials_made_in, serials_destroyed, serials_destroyed_in, session_started, is_member, difference, data_sent, frames_received}
use Rattle.promises.specs.Promises.{live_serials}
use Rattle.promises.proofs.Cases.{both, clash}
use Rattle.promises.proofs.Books.{Books}
use Rattle.promises.proofs.EntityForms.{HasForm, at_idle, at_select, at_secret, at_sch, in_sch, Did, outside, inside, agrees, links, ends as over}
use Rattle.promises.proofs.Turns.{not_linked}
use Rattle.promises.proofs.Requests.{did}
use Rattle.promises.proofs.Runs.{Holds, holds, starts_none}
use Rattle.replay.specs.declared.entry.Entry as t
use Rattle.replay.specs.Entries.{transcript_history}
use Rattle.replay.specs.SheetRecords.{last_number, last_made, sse_started, RunsSse, starts, goes_on, HasEndedSse, ends, stays, RunsAs, HasEndedAs, session_begun, sheet_record, sheet_records, BeginsWith, IsRecordOf, end_by, HasEnd, TellsSessions, TellsEveryRun, TellsReplay}
use Rattle.replay.proofs.Moves.{IsQuiet, IsEstablished, Moves, elsewhere, stays as keeps, leaves, confirms, moves, none_linked, none_confirmed, none_started, not_sse, quiet_in_sse}
use Rattle.replay.proofs.Sheets.{Orderly, OverOn, closed, was, over_on, none_over, none_run, no_others, none_running, over_told, begins_with}

-- the number is the last of these, if there are any
abbrev IsLast : ℕ → List ℕ → Type 0
IsLast n xs = (xs ≡ []) ⊎ (last_number xs ≡ n)

-- no record was sent or taken in
abbrev CountsNone : History → Type 0
CountsNone h = (data_sent h ≡ []) × (frames_received h ≡ [])

-- what holds of a session of SSE that runs
record FitsSse (m : Model) (n : ℕ) (since : History) : Type 0 where
  state : m.state ≡ ConfirmedSse
  secret : m.secret ≡ n
  none : CountsNone since

-- what holds after a history
record HoldsSse (m : Model) (h : History) : Type 0 where
  -- the key made last is the suite's newest
  newest : IsLast m.means.newest (serials_made h)
  -- in Confirmed_SSE a session runs under the shared secret
  some : m.state ≡ ConfirmedSse → (since : History) × RunsSse m.secret h since
  runs : (n : ℕ) (since : History) → RunsSse n h since → FitsSse m n since
  over : (n : ℕ) (since : History) → HasEndedSse n h since → CountsNone since
  -- each session that is over has its end
  ended : (service : Service) (n : ℕ) (last : Entry) (since : History) → HasEndedAs service n h (last ∷ since) → HasEnd last (end_by last)

-- what stands at the end is the last
pub last_append : (xs : List ℕ) (n : ℕ) → last_number (xs ++ (n ∷ [])) ≡ n
last_append [] n = refl
last_append (x ∷ []) n = refl
last_append (x ∷ y ∷ more) n = last_append (y ∷ more) n

-- a quiet call adds no record
counts_more : (e : Entry) (since : History) → CountsNone since → IsQuiet e.answer → CountsNone (e ∷ since)
counts_more e since k q =
    let a = k.0 in
    let b = k.1 in
    let sends = q.sends in
    let takes = q.takes in
    (rw (a, sends) refl, rw (b, takes) refl)

-- an answer that starts no session begins none
none_begun : (h : History) (a : Result Outcome Refusal) → session_started a ≡ 0 → sse_started h a ≡ 0 → session_begun h a ≡ None
none_begun h a z z' = rw (z, z') refl

-- what is left of a list does not stand in what was taken from it
not_gone : (x : ℕ) (a g : List ℕ) → is_member x (difference a g) ≡ true → is_member x g ≡ false
not_gone x [] g e = absurd (cc)
not_gone x (y ∷ a) g e =
    both (is_member y g) (λ z. is_member x z ≡ true → is_member x g ≡ false)
    (λ _ q. not_gone x a g q)
    (λ f q.
    elim (or_cases (eqb x y) (is_member x (difference a g)) q) [
      | inl t ↦ ap (λ z. is_member z g) (eqb-true x y t) ∙ f
      | inr r ↦ not_gone x a g r
    ])
    e

-- Established: the shared secret is the key made last
secret_last : (s : Scheme) {m : Model} → HasForm s m → (made gone : List ℕ) → Books m.means.newest (live_serials m.means) made gone
    → IsLast m.means.newest made → IsEstablished m.state → last_number made ≡ m.secret
secret_last s (at_idle base) made gone b k x = let low = x.low in absurd (omega arith)
secret_last s (at_select base long) made gone b k x = let low = x.low in absurd (omega arith)
secret_last s (at_secret {n} state only one) made gone b (inl e) x =
    let none : difference made gone ≡ [] = ap (λ z. difference z gone) e in
    let some = b.exact in
    absurd (cc)
secret_last s (at_secret state only one) made gone b (inr q) x = q
secret_last s (at_sch two lo hi) made gone b k x = let high = x.high in absurd (omega arith)

-- and its serial is not 0
secret_above : (s : Scheme) {m : Model} → HasForm s m → IsEstablished m.state → 0 < m.secret
secret_above s (at_idle base) x = let low = x.low in absurd (omega arith)
secret_above s (at_select base long) x = let low = x.low in absurd (omega arith)
secret_above s (at_secret state only one) x = one.pos
secret_above s (at_sch two lo hi) x = two.pos

-- in Confirmed_SSE the shared secret is live
secret_live : (s : Scheme) {m : Model} → HasForm s m → m.state ≡ ConfirmedSse → is_member m.secret (live_serials m.means) ≡ true
secret_live s (at_idle base) e = absurd (cc)
secret_live s (at_select base long) e = absurd (cc)
secret_live s (at_secret {n} state only one) e = or_left (eqb n n) false (eq-eqb n n refl)
secret_live s (at_sch two lo hi) e = absurd (cc)

-- in Confirmed_SCH the link key is
link_live : (s : Scheme) {m : Model} → HasForm s m → in_sch m ≡ true → is_member m.link (live_serials m.means) ≡ true
link_live s (at_idle base) up = clash false refl up
link_live s (at_select base long) up = clash false refl up
link_live s (at_secret state only one) up = clash _ (not_linked only) up
link_live s (at_sch {n} two lo hi) up = or_right (eqb (n + 1) n) (eqb (n + 1) (n + 1) || false) (or_left (eqb (n + 1) (n + 1)) false (eq-eqb (n + 1) (n + 1) refl))

-- the number of a session is above 0
sse_above : (n : ℕ) {h since : History} → RunsSse n h since → 0 < n
sse_above n (starts pos q) = pos
sse_above n (goes_on r k) = sse_above n r

module _ (s : Scheme) {m : Model} {h : History} (H : Holds s m h) (S : HoldsSse m h) where
  -- the number of a session that runs is the serial of a live key
  number_live : (service : Service) (n : ℕ) (since : History) → RunsAs service n h since → is_member n (live_serials m.means) ≡ true
  number_live Sse n since r = let f = S.runs n since r in ap (λ z. is_member z (live_serials m.means)) (sym f.secret) ∙ secret_live s H.form f.state
  number_live Sch n since r = let f = H.all n since r in ap (λ z. is_member z (live_serials m.means)) f.key ∙ link_live s H.form f.linked

  -- so it is not destroyed
  number_stays : (service : Service) (n : ℕ) (since : History) → RunsAs service n h since → is_member n (serials_destroyed h) ≡ false
  number_stays service n since r = not_gone n (serials_made h) (serials_destroyed h) (ap (is_member n) H.books.exact ∙ number_live service n since r)

  -- a session runs in Confirmed_SSE or Confirmed_SCH
  running_state : (service : Service) (n : ℕ) (since : History) → RunsAs service n h since → 4 ≤ state_mark m.state
  running_state Sse n since r = let mark = ap state_mark (S.runs n since r).state in omega arith
  running_state Sch n since r = let mark = eqb-true (state_mark m.state) 5 (H.all n since r).linked in omega arith

  module _ (c : Call) (t : CallEffect) (d : Did s c m t) (v : Moves c m t) where
    -- the entry of the call
    abbrev now : Entry
    now = entry_of c t

    -- no session begins while one runs
    alone : (service : Service) (n : ℕ) (since : History) → RunsAs service n h since → session_begun h t.answer ≡ None
    alone Sse n since r =
        let quiet = quiet_in_sse v (S.runs n since r).state in
        none_begun h t.answer (none_linked t.answer quiet.starts) (none_confirmed t.answer quiet.starts h)
    alone Sch n since r = none_begun h t.answer (starts_none s c H t d (n, (since, r))) (none_started v (running_state Sch n since r) h)

    -- the key made last, where none is made
    last_same : t.model.means.newest ≡ m.means.newest → serials_made_in t.answer ≡ [] → IsLast t.model.means.newest (serials_made (now ∷ h))
    last_same e none = rw (e, none, append-nil) S.newest

    -- where one is made
    last_next : t.model.means.newest ≡ m.means.newest + 1 → serials_made_in t.answer ≡ (m.means.newest + 1) ∷ [] → IsLast t.model.means.newest (serials_made (now ∷ h))
    last_next e new = rw (e, new) (inr (last_append (serials_made h) (m.means.newest + 1)))

    -- so after every call
    newest_on : Did s c m t → IsLast t.model.means.newest (serials_made (now ∷ h))
    newest_on (outside form same o o' q) = last_same (ap (λ z. z.newest) same) q.makes
    newest_on (inside form same i i' el ee q num act) = last_same (ap (λ z. z.newest) same) q.makes
    newest_on (agrees form o o' q z) = last_next q.newest q.makes
    newest_on (links form o i q z l num none) = last_next q.newest q.makes
    newest_on (over form o new live none z cl gone) = last_same new none

    -- a session of SSE that starts is that of the shared secret
    confirmed_last : IsEstablished m.state → ((g : History) → sse_started g t.answer ≡ last_made g) → sse_started h t.answer ≡ m.secret
    confirmed_last k last = last h ∙ secret_last s H.form (serials_made h) (serials_destroyed h) H.books S.newest k

    -- a session starts
    fits_start : Moves c m t → (n : ℕ) → 0 < n → sse_started h t.answer ≡ n → FitsSse t.model n []
    fits_start (elsewhere out out' kept none) n pos q = let z = none h in absurd (omega arith)
    fits_start (keeps e e' kept quiet) n pos q = let z = none_confirmed t.answer quiet.starts h in absurd (omega arith)
    fits_start (leaves gone out quiet end) n pos q = let z = none_confirmed t.answer quiet.starts h in absurd (omega arith)
    fits_start (confirms k e e' kept last) n pos q = record {
      state = e;
      secret = e' ∙ sym (confirmed_last k last) ∙ q;
      none = (refl, refl);
    }

    -- a session goes on
    fits_more : Moves c m t → (n : ℕ) (since : History) → 0 < n → FitsSse m n since → is_member n (serials_destroyed_in t.answer) ≡ false → FitsSse t.model n (now ∷ since)
    fits_more (elsewhere out out' kept none) n since pos f k = not_sse m.state out f.state
    fits_more (keeps e e' kept quiet) n since pos f k = record { state = e ∙ f.state; secret = e' ∙ f.secret; none = counts_more now since f.none quiet }
    fits_more (leaves gone out quiet end) n since pos f k =
        let same = f.secret in
        clash (is_member n (serials_destroyed_in t.answer)) k (ap (λ z. is_member z (serials_destroyed_in t.answer)) (sym same) ∙ gone (omega arith))
    fits_more (confirms x e e' kept last) n since pos f k =
        let high = x.high in
        let mark = ap state_mark f.state in
        absurd (omega arith)

    -- so after every call
    fits_on : (n : ℕ) (since : History) → RunsSse n (now ∷ h) since → FitsSse t.model n since
    fits_on n since (starts pos q) = fits_start v n pos q
    fits_on n since (goes_on {since = before} r k) = fits_more v n before (sse_above n r) (S.runs n before r) k

    -- in Confirmed_SSE a session runs: it goes on, or it starts
    some_on : Moves c m t → t.model.state ≡ ConfirmedSse → (since : History) × RunsSse t.model.secret (now ∷ h) since
    some_on (elsewhere out out' kept none) e = not_sse t.model.state out' e
    some_on (keeps e e' kept quiet) e'' =
        let r = S.some (sym e ∙ e'') in
        (now ∷ r.0, subst (λ n. RunsSse n (now ∷ h) (now ∷ r.0)) (sym e') (goes_on r.1 (ap (is_member m.secret) kept)))
    some_on (leaves gone out quiet end) e = not_sse t.model.state out e
    some_on (confirms k e e' kept last) e'' = ([], subst (λ n. RunsSse n (now ∷ h) []) (sym e') (starts (secret_above s H.form k) (confirmed_last k last)))

    -- in a session that is over no record was sent or taken in
    counts_over : (n : ℕ) (since : History) → HasEndedSse n (now ∷ h) since → CountsNone since
    counts_over n since (ends {since = before} r k) = let f = S.runs n before r in counts_more now before f.none (quiet_in_sse v f.state)
    counts_over n since (stays x) = S.over n since x

    -- a call that destroys no key ends no session
    none_ended : {X : Type 0} (n : ℕ) → serials_destroyed_in t.answer ≡ [] → is_member n (serials_destroyed_in t.answer) ≡ true → X
    none_ended n kept k = clash (is_member n (serials_destroyed_in t.answer)) (ap (is_member n) kept) k

    -- a session that this call ends has its end
    ended_now : Moves c m t → (n : ℕ) → is_member n (serials_destroyed_in t.answer) ≡ true → 4 ≤ state_mark m.state → HasEnd now (end_by now)
    ended_now (elsewhere out out' kept none) n k low = none_ended n kept k
    ended_now (keeps e e' kept quiet) n k low = none_ended n kept k
    ended_now (leaves gone out quiet end) n k low = end low
    ended_now (confirms x e e' kept last) n k low = none_ended n kept k

    -- so has each that is over after it
    ended_by : (service : Service) (n : ℕ) {last : Entry} {since : History} → OverOn service n now h (last ∷ since) → HasEnd last (end_by last)
    ended_by service n (closed {since} r k) = ended_now v n k (running_state service n since r)
    ended_by service n {last} {since} (was x) = S.ended service n last since x

    -- all of it holds after one more call
    held_on : HoldsSse t.model (now ∷ h)
    held_on = record {
      newest = newest_on d;
      some = some_on v;
      runs = fits_on;
      over = counts_over;
      ended = λ service n last since x. ended_by service n (over_on service n x);
    }

module _ (s : Scheme) (law : IsLawful s) (m : Model) (fresh : IsFresh m) where
  -- it holds after every list of calls
  holds_sse : (calls : List Call) → AllByRecursion IsGivenBytes calls → HoldsSse (entity_after s m calls) (history s m calls)
  holds_sse [] given = record {
    newest = inl refl;
    some = λ e. let idle = fresh.idle in absurd (cc);
    runs = λ n since r. none_run Sse n since r;
    over = λ n since x. none_over Sse n since x;
    ended = λ service n last since x. none_over service n (last ∷ since) x;
  }
  holds_sse (c ∷ before) given =
      let H = holds s law m fresh before given.1 in
      held_on s H (holds_sse before given.1) c (call_effect s (entity_after s m before) c) (did s law c given.0 H.form) (moves s (entity_after s m before) c)

  -- and the sessions of all these calls are in turn
  orderly : (calls : List Call) → AllByRecursion IsGivenBytes calls → Orderly (history s m calls)
  orderly [] given = tt
  orderly (c ∷ before) given =
      let H = holds s law m fresh before given.1 in
      let alone = alone s H (holds_sse before given.1) c (call_effect s (entity_after s m before) c) (did s law c given.0 H.form) (moves s (entity_after s m before) c) in
      let live = number_stays s (holds s law m fresh (c ∷ before) given) (holds_sse (c ∷ before) given) in
      (record { alone = alone; live = live }, orderly before given.1)

-- so what the records tell of the sessions holds after every list of calls
pub every_run_told : TellsEveryRun
every_run_told s law m fresh calls given =
    let S = holds_sse s law m fresh calls given in
    let o = orderly s law m fresh calls given in
    let h : History = history s m calls in
    record {
      one = λ service n last since x.
          let by_calls : IsRecordOf service n last since (sheet_record service n last since) = record { number = refl; service = refl; sent = refl; taken = refl; end = S.ended service n last since x } in
          (sheet_record service n last since, (over_told service n h last since o x, by_calls));
      running = λ service n since r. none_running service n h since o r;
      no_others = λ service n some. no_others service n h some;
      order = λ later earlier e. subst (λ z. BeginsWith (sheet_records z) (sheet_records earlier)) (sym e) (begins_with later earlier);
      confirmed = S.some;
      secret = λ n since r. let f = S.runs n since r in (f.state, f.secret);
      none_counted = λ n since x. elim x [ inl r ↦ (S.runs n since r).none | inr r ↦ S.over n since r ];
    }

-- and so it does of what a replay tells
pub replay_told : (calls : List Call) (entries : List t.Entry) → TellsReplay calls entries (sheet_records (transcript_history calls entries))
replay_told calls entries s law m left fresh r =
    let last = entity_after s m (reverse calls) in
    let here = every_run_told s law m fresh (reverse calls) r.bytes in
    let same = subst (λ z. TellsSessions last z (sheet_records z)) (sym r.tells_history) here in
    subst (λ z. TellsSessions z (transcript_history calls entries) (sheet_records (transcript_history calls entries))) (sym r.model) same
