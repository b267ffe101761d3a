-- The records of a history are those of its sessions that are over.
use Rattle.std.proofs.Common.{◌≡◌, ℕ, ◌<◌, true, false, ◌||◌, ◌&&◌, eqb, List, [], ◌∷◌, ◌++◌, Some, None, Ok, Err, Option, Result, sym, refl, ap, ◌∙◌, subst, append-nil, append_assoc, arith}
use Rattle.std.specs.Option.{option_or}
use Rattle.std.proofs.lemmas.Bool.{ne_eqb, eq-eqb, eqb-true, eqb-false, and_parts, or_left, or_right}
use Rattle.std.proofs.lemmas.List.Elements.{filter-append}
use Rattle.frame.specs.declared.types.Service.{Service}
use Rattle.frame.specs.declared.types.Service.TheVariants.{Sse, Sch}
use Rattle.frame.specs.Numbers.{service_code}
use Rattle.protocol.specs.declared.outcomes.Outcome.{Outcome}
use Rattle.protocol.specs.declared.refusals.Refusal.{Refusal}
use Rattle.protocol.specs.Numbers.{confirmation_number}
use Rattle.histories.specs.Histories.{Entry, History, serials_destroyed, serials_destroyed_in, session_started, is_member, starts as link_starts, goes_on as link_goes_on}
use Rattle.histories.specs.Records.{ends as link_ends, stays as link_stays}
use Rattle.promises.proofs.Cases.{both, clash}
use Rattle.promises.proofs.Books.{member_append}
use Rattle.service_sheet.specs.declared.record.SheetRecord.{SheetRecord}
use Rattle.replay.specs.SheetRecords.{sse_started, starts, goes_on, ends, stays, RunsAs, HasEndedAs, sheet_record, OpenSession, session_begun, session_after, open_session, records_closed, sheet_records, is_of, records_with, BeginsWith}

-- a session of a service, as open_session tells it
abbrev opened : Service → ℕ → History → OpenSession
opened service n since = record { service = service; number = n; since = since }

-- no session begins while one runs, and the number of one that runs is not destroyed
pub record IsInTurn (e : Entry) (h : History) : Type 0 where
  pub alone : (service : Service) (n : ℕ) (since : History) → RunsAs service n h since → session_begun h e.answer ≡ None
  pub live : (service : Service) (n : ℕ) (since : History) → RunsAs service n (e ∷ h) since →
      is_member n (serials_destroyed (e ∷ h)) ≡ false

-- so it is in all of a history
abbrev pub Orderly : History → Type 0
Orderly [] = Unit {0}
Orderly (e ∷ h) = IsInTurn e h × Orderly h

-- Sessions of either service, call by call.

-- a session that runs after one more call: it began by that call, or ran before
data RunsOn (service : Service) (n : ℕ) (e : Entry) (h : History) : History → Type 0 where
  began : session_begun h e.answer ≡ Some (opened service n []) → RunsOn service n e h []
  went_on : {since : History} → RunsAs service n h since → is_member n (serials_destroyed_in e.answer) ≡ false → RunsOn service n e h (e ∷ since)

-- a session that is over after one more call: that call ended it, or it was over before
pub data OverOn (service : Service) (n : ℕ) (e : Entry) (h : History) : History → Type 0 where
  closed : {since : History} → RunsAs service n h since → is_member n (serials_destroyed_in e.answer) ≡ true → OverOn service n e h (e ∷ since)
  was : {since : History} → HasEndedAs service n h since → OverOn service n e h since

-- a call that starts a session of SSE starts no link session
no_link : (h : History) (a : Result Outcome Refusal) → 0 < sse_started h a → session_started a ≡ 0
no_link h (Err r) pos = refl
no_link h (Ok o) pos =
    let first = eqb (confirmation_number o.confirmation) 1 in
    both (first && eqb o.made 0) (λ k. 0 < k → session_started (Ok o) ≡ 0)
    (λ t _. let parts = and_parts first (eqb o.made 0) t in rw parts.0 (eqb-true o.made 0 parts.1))
    (λ _ x. absurd (omega arith))
    pos

-- a call that starts a link session begins it
sch_begun : (e : Entry) (h : History) (n : ℕ) → 0 < n → session_started e.answer ≡ n → session_begun h e.answer ≡ Some (opened Sch n [])
sch_begun e h n pos q = let some : eqb n 0 ≡ false = ne_eqb n 0 (λ z. omega arith) in rw (q, some) refl

-- so does one that starts a session of SSE
sse_begun : (e : Entry) (h : History) (n : ℕ) → 0 < n → sse_started h e.answer ≡ n → session_begun h e.answer ≡ Some (opened Sse n [])
sse_begun e h n pos q =
    let some : eqb n 0 ≡ false = ne_eqb n 0 (λ z. omega arith) in
    rw (no_link h e.answer (omega arith), q, some) refl

-- what runs after a call is one of the two
runs_on : (service : Service) (n : ℕ) {e : Entry} {h since : History} → RunsAs service n (e ∷ h) since → RunsOn service n e h since
runs_on Sse n {e} {h} (starts pos q) = began (sse_begun e h n pos q)
runs_on Sse n (goes_on r k) = went_on r k
runs_on Sch n {e} {h} (link_starts pos q) = began (sch_begun e h n pos q)
runs_on Sch n (link_goes_on r k) = went_on r k

-- so is what is over
pub over_on : (service : Service) (n : ℕ) {e : Entry} {h since : History} → HasEndedAs service n (e ∷ h) since → OverOn service n e h since
over_on Sse n (ends r k) = closed r k
over_on Sse n (stays r) = was r
over_on Sch n (link_ends r k) = closed r k
over_on Sch n (link_stays r) = was r

-- a session goes on, by its service
more_run : (service : Service) (n : ℕ) (e : Entry) (h since : History) → RunsAs service n h since → is_member n (serials_destroyed_in e.answer) ≡ false → RunsAs service n (e ∷ h) (e ∷ since)
more_run Sse n e h since r k = goes_on r k
more_run Sch n e h since r k = link_goes_on r k

-- it ends
now_over : (service : Service) (n : ℕ) (e : Entry) (h since : History) → RunsAs service n h since → is_member n (serials_destroyed_in e.answer) ≡ true → HasEndedAs service n (e ∷ h) (e ∷ since)
now_over Sse n e h since r k = ends r k
now_over Sch n e h since r k = link_ends r k

-- it stays over
stays_over : (service : Service) (n : ℕ) (e : Entry) (h since : History) → HasEndedAs service n h since → HasEndedAs service n (e ∷ h) since
stays_over Sse n e h since r = stays r
stays_over Sch n e h since r = link_stays r

-- before any call none is over
pub none_over : {X : Type 0} (service : Service) (n : ℕ) (since : History) → HasEndedAs service n [] since → X
none_over Sse n since = elim [ ]
none_over Sch n since = elim [ ]

-- and none runs
pub none_run : {X : Type 0} (service : Service) (n : ℕ) (since : History) → RunsAs service n [] since → X
none_run Sse n since = elim [ ]
none_run Sch n since = elim [ ]

-- The session read off.

-- what is read off runs
abbrev IsRun : History → Option OpenSession → Type 0
IsRun h None = Unit {0}
IsRun h (Some x) = RunsAs x.service x.number h x.since

-- a number other than 0
above_zero : (n : ℕ) → eqb n 0 ≡ false → 0 < n
above_zero n e = let some : n ≡ 0 → ⊥ = eqb-false n 0 e in omega arith

-- a session that begins runs
begun_runs : (e : Entry) (h : History) → IsRun (e ∷ h) (session_begun h e.answer)
begun_runs e h =
    both (eqb (session_started e.answer) 0) (IsRun (e ∷ h))
    (λ _. both (eqb (sse_started h e.answer) 0) (IsRun (e ∷ h)) (λ _. tt) (λ f. starts (above_zero (sse_started h e.answer) f) refl))
    (λ f. link_starts (above_zero (session_started e.answer) f) refl)

-- one that goes on runs
after_runs : (e : Entry) (h : History) (x : Option OpenSession) → IsRun h x → IsRun (e ∷ h) (session_after x e)
after_runs e h None r = tt
after_runs e h (Some x) r = both (is_member x.number (serials_destroyed_in e.answer)) (IsRun (e ∷ h)) (λ _. tt) (λ k. more_run x.service x.number e h x.since r k)

-- either runs
started_runs : (h : History) (x y : Option OpenSession) → IsRun h x → IsRun h y → IsRun h (option_or x y)
started_runs h None y r r' = r'
started_runs h (Some x) y r r' = r

-- so what is read off a history runs
open_runs : (h : History) → IsRun h (open_session h)
open_runs [] = tt
open_runs (e ∷ h) = started_runs (e ∷ h) (session_begun h e.answer) (session_after (open_session h) e) (begun_runs e h) (after_runs e h (open_session h) (open_runs h))

-- what runs after a call is read off
run_read : (service : Service) (n : ℕ) (e : Entry) (h : History) {since : History} → RunsOn service n e h since → IsInTurn e h
    → ((before : History) → RunsAs service n h before → open_session h ≡ Some (opened service n before)) → open_session (e ∷ h) ≡ Some (opened service n since)
run_read service n e h (began q) o ih = rw q refl
run_read service n e h (went_on {since} r k) o ih = rw (o.alone service n since r, ih since r, k) refl

-- so what runs is read off a history
runs_read : (service : Service) (n : ℕ) (h since : History) → RunsAs service n h since → Orderly h → open_session h ≡ Some (opened service n since)
runs_read service n [] since r o = none_run service n since r
runs_read service n (e ∷ h) since r o = run_read service n e h (runs_on service n r) o.0 (λ before x. runs_read service n h before x o.1)

-- the number of a session that runs is not destroyed
runs_live : (service : Service) (n : ℕ) (h since : History) → RunsAs service n h since → Orderly h → is_member n (serials_destroyed h) ≡ false
runs_live service n [] since r o = none_run service n since r
runs_live service n (e ∷ h) since r o = o.0.live service n since r

-- that of a session that is over after a call is destroyed
over_member : (service : Service) (n : ℕ) (e : Entry) (h : History) {since : History} → OverOn service n e h since
    → ((before : History) → HasEndedAs service n h before → is_member n (serials_destroyed h) ≡ true)
    → (is_member n (serials_destroyed h) || is_member n (serials_destroyed_in e.answer)) ≡ true
over_member service n e h (closed r k) ih = or_right (is_member n (serials_destroyed h)) (is_member n (serials_destroyed_in e.answer)) k
over_member service n e h {since} (was x) ih = or_left (is_member n (serials_destroyed h)) (is_member n (serials_destroyed_in e.answer)) (ih since x)

-- so it is in a history
over_gone : (service : Service) (n : ℕ) (h since : History) → HasEndedAs service n h since → is_member n (serials_destroyed h) ≡ true
over_gone service n [] since r = none_over service n since r
over_gone service n (e ∷ h) since r =
    let here = serials_destroyed_in e.answer in
    member_append n (serials_destroyed h) here ∙ over_member service n e h (over_on service n r) (over_gone service n h)

-- so no session both runs and is over
not_both : {X : Type 0} (service : Service) (n : ℕ) (h since since' : History) → Orderly h → RunsAs service n h since → HasEndedAs service n h since' → X
not_both service n h since since' o r x = clash (is_member n (serials_destroyed h)) (runs_live service n h since r o) (over_gone service n h since' x)

-- Records.

-- a list that cannot be other than empty is empty
no_record : (rs : List SheetRecord) → ((rs ≡ [] → ⊥) → ⊥) → rs ≡ []
no_record [] f = refl
no_record (r ∷ rs) f = absurd (f (λ e. cc))

-- what holds where either list is not empty
some_record : {X : Type 0} (a b : List SheetRecord) → (a ++ b ≡ [] → ⊥) → ((a ≡ [] → ⊥) → X) → ((b ≡ [] → ⊥) → X) → X
some_record [] b some f g = g some
some_record (r ∷ a) b some f g = f (λ e. cc)

-- the records are read part by part
records_more : (service : Service) (n : ℕ) (e : Entry) (h : History) →
    records_with service n (sheet_records (e ∷ h)) ≡ records_with service n (sheet_records h) ++ records_with service n (records_closed (open_session h) e)
records_more service n e h = filter-append (is_of service n) (sheet_records h) (records_closed (open_session h) e)

-- services by their codes
same_service : (a b : Service) → service_code a ≡ service_code b → a ≡ b
same_service Sse Sse e = refl
same_service Sse Sch e = absurd (omega arith)
same_service Sch Sse e = absurd (omega arith)
same_service Sch Sch e = refl

-- a session whose record is told by a call ran before it, and ends by it
record EndsBy (service : Service) (n : ℕ) (e : Entry) (h : History) : Type 0 where
  since : History
  runs : RunsAs service n h since
  gone : is_member n (serials_destroyed_in e.answer) ≡ true

-- its record is of that session
of_session : (service : Service) (n : ℕ) (e : Entry) (h : History) (x : OpenSession) → IsRun h (Some x) → is_member x.number (serials_destroyed_in e.answer) ≡ true
    → is_of service n (sheet_record x.service x.number e x.since) ≡ true → EndsBy service n e h
of_session service n e h x r k t =
    let parts = and_parts (eqb (service_code x.service) (service_code service)) (eqb x.number n) t in
    let a = same_service x.service service (eqb-true (service_code x.service) (service_code service) parts.0) in
    let b = eqb-true x.number n parts.1 in
    subst (λ z. EndsBy z n e h) a (subst (λ z. EndsBy x.service z e h) b (record { since = x.since; runs = r; gone = k }))

-- a record that a call adds is of the session that it ends
one_record : (service : Service) (n : ℕ) (e : Entry) (h : History) (x : OpenSession) → IsRun h (Some x) → is_member x.number (serials_destroyed_in e.answer) ≡ true
    → (records_with service n (sheet_record x.service x.number e x.since ∷ []) ≡ [] → ⊥) → EndsBy service n e h
one_record service n e h x r k some =
    let it = sheet_record x.service x.number e x.since in
    both (is_of service n it) (λ rs. (rs ≡ [] → ⊥) → EndsBy service n e h) (λ t _. of_session service n e h x r k t) (λ _ none. absurd (none refl)) some

-- if it adds one
closed_ends : (service : Service) (n : ℕ) (e : Entry) (h : History) (x : Option OpenSession) → IsRun h x → (records_with service n (records_closed x e) ≡ [] → ⊥) → EndsBy service n e h
closed_ends service n e h None r some = absurd (some refl)
closed_ends service n e h (Some x) r some =
    both (is_member x.number (serials_destroyed_in e.answer)) (λ rs. (records_with service n rs ≡ [] → ⊥) → EndsBy service n e h)
    (λ k. one_record service n e h x r k) (λ _ none. absurd (none refl)) some

-- no record is told but of a session that is over
pub no_others : (service : Service) (n : ℕ) (h : History) → (records_with service n (sheet_records h) ≡ [] → ⊥) → (since : History) × HasEndedAs service n h since
no_others service n [] some = absurd (some refl)
no_others service n (e ∷ h) some =
    let told : List SheetRecord = records_with service n (sheet_records h) in
    let new : List SheetRecord = records_with service n (records_closed (open_session h) e) in
    some_record told new (λ z. some (records_more service n e h ∙ z))
    (λ before. let x = no_others service n h before in (x.0, stays_over service n e h x.0 x.1))
    (λ now. let x = closed_ends service n e h (open_session h) (open_runs h) now in (e ∷ x.since, now_over service n e h x.since x.runs x.gone))

-- one that runs has no record
pub none_running : (service : Service) (n : ℕ) (h since : History) → Orderly h → RunsAs service n h since → records_with service n (sheet_records h) ≡ []
none_running service n h since o r =
    no_record (records_with service n (sheet_records h)) (λ some. let x = no_others service n h some in not_both service n h since x.0 o r x.1)

-- its record is of that service and number
own_record : (service : Service) (n : ℕ) (last : Entry) (since : History) → records_with service n (sheet_record service n last since ∷ []) ≡ sheet_record service n last since ∷ []
own_record service n last since =
    let a = eq-eqb (service_code service) (service_code service) refl in
    let b = eq-eqb n n refl in
    rw (a, b) refl

-- the record of the session that a call ends is told by that call
record_told : (service : Service) (n : ℕ) (e : Entry) (h : History) {last : Entry} {since : History} → OverOn service n e h (last ∷ since) → Orderly h
    → (HasEndedAs service n h (last ∷ since) → records_with service n (sheet_records h) ≡ sheet_record service n last since ∷ [])
    → records_with service n (sheet_records h) ++ records_with service n (records_closed (open_session h) e) ≡ sheet_record service n last since ∷ []
record_told service n e h (closed {since} r k) o ih =
    let none = none_running service n h since o r in
    let read = runs_read service n h since r o in
    rw (none, read, k) (own_record service n e since)
record_told service n e h {last} {since} (was x) o ih =
    let none = no_record (records_with service n (records_closed (open_session h) e))
    (λ some. let y = closed_ends service n e h (open_session h) (open_runs h) some in not_both service n h y.since (last ∷ since) o y.runs x) in
    rw (none, append-nil) (ih x)

-- so each session that is over has one record
pub over_told : (service : Service) (n : ℕ) (h : History) (last : Entry) (since : History) → Orderly h → HasEndedAs service n h (last ∷ since)
    → records_with service n (sheet_records h) ≡ sheet_record service n last since ∷ []
over_told service n [] last since o x = none_over service n (last ∷ since) x
over_told service n (e ∷ h) last since o x = records_more service n e h ∙ record_told service n e h (over_on service n x) o.1 (over_told service n h last since o.1)

-- more calls add records at the end
pub begins_with : (later earlier : History) → BeginsWith (sheet_records (later ++ earlier)) (sheet_records earlier)
begins_with [] earlier = ([], sym (append-nil (sheet_records earlier)))
begins_with (e ∷ later) earlier =
    let ih = begins_with later earlier in
    let new = records_closed (open_session (later ++ earlier)) e in
    (ih.0 ++ new, ap (λ z. z ++ new) ih.1 ∙ append_assoc (sheet_records earlier) ih.0 new)
