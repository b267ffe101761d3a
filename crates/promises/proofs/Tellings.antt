-- The sessions and records read off a history are those of its link sessions.
use Rattle.std.proofs.Common.{◌≡◌, ℕ, ◌<◌, true, false, cond, ◌||◌, ◌&&◌, eqb, List, [], ◌∷◌, ◌++◌, map, Ok, Err, Result, sym, refl, ap, ◌∙◌, subst, inl, inr, append-nil, arith}
use Rattle.std.proofs.lemmas.Bool.{ne_eqb, eq-eqb, eqb-true, eqb-false, cases_Bool, or_parts, or_right, or_left, cond-true, cond-false}
use Rattle.protocol.specs.declared.refusals.Refusal.{Refusal}
use Rattle.protocol.specs.declared.outcomes.Outcome.{Outcome}
use Rattle.protocol.specs.Numbers.{confirmation_number}
use Rattle.histories.specs.Histories.{Entry, History, serials_made, serials_made_in, serial_list, serials_destroyed_in, is_member, IsDistinct, session_started, Runs, starts, goes_on, SomeRuns, data_sent, data_sent_in, data_handed, is_retrieval}
use Rattle.histories.specs.Records.{running_session, HasEnded, ends, stays, HasSession, Direction, was_sent, was_handed, direction_number, SessionRecord, records_in, session_records, data_of}
use Rattle.promises.proofs.Cases.{both, clash}
use Rattle.promises.proofs.Books.{member_append}

-- no session starts while one runs
abbrev pub Orderly : History → Type 0
Orderly [] = Unit {0}
Orderly (e ∷ h) = (SomeRuns h → session_started e.answer ≡ 0) × Orderly h

-- The session read off.

-- a call that starts a session: that session is read off
link_starts : (e : Entry) (h : History) (n : ℕ) → 0 < n → session_started e.answer ≡ n → running_session (e ∷ h) ≡ n
link_starts e h n pos q =
    let ne : eqb (session_started e.answer) 0 ≡ false = ne_eqb (session_started e.answer) 0 (λ z. omega arith) in
    cond-false (eqb (session_started e.answer) 0) (cond (is_member (running_session h) (serials_destroyed_in e.answer)) 0 (running_session h)) (session_started e.answer) ne ∙ q

-- a call that starts none: what is read off stays, unless it is reported destroyed
link_on : (e : Entry) (h : History) → session_started e.answer ≡ 0 → running_session (e ∷ h) ≡ cond (is_member (running_session h) (serials_destroyed_in e.answer)) 0 (running_session h)
link_on e h z = cond-true (eqb (session_started e.answer) 0) (cond (is_member (running_session h) (serials_destroyed_in e.answer)) 0 (running_session h)) (session_started e.answer) (eq-eqb (session_started e.answer) 0 z)

-- not reported destroyed
link_stays : (e : Entry) (h : History) → session_started e.answer ≡ 0 → is_member (running_session h) (serials_destroyed_in e.answer) ≡ false → running_session (e ∷ h) ≡ running_session h
link_stays e h z k = link_on e h z ∙ cond-false (is_member (running_session h) (serials_destroyed_in e.answer)) 0 (running_session h) k

-- reported destroyed
link_ends : (e : Entry) (h : History) → session_started e.answer ≡ 0 → is_member (running_session h) (serials_destroyed_in e.answer) ≡ true → running_session (e ∷ h) ≡ 0
link_ends e h z k = link_on e h z ∙ cond-true (is_member (running_session h) (serials_destroyed_in e.answer)) 0 (running_session h) k

-- it is the session that runs
pub read_off : (n : ℕ) {h since : History} → Runs n h since → Orderly h → running_session h ≡ n
read_off n (starts {e} {h} pos q) o = link_starts e h n pos q
read_off n (goes_on {e} {h} {since} r k) o =
    let ih = read_off n r o.1 in
    link_stays e h (o.0 (n, (since, r))) (ap (λ j. is_member j (serials_destroyed_in e.answer)) ih ∙ k) ∙ ih

-- what is read off runs
pub read_runs : (h : History) → 0 < running_session h → (since : History) × Runs (running_session h) h since
read_runs [] p = absurd (omega arith)
read_runs (e ∷ h) p =
    let ih = read_runs h in
    both (eqb (session_started e.answer) 0) (λ k. 0 < k → (since : History) × Runs k (e ∷ h) since)
    (λ z.
    both (is_member (running_session h) (serials_destroyed_in e.answer)) (λ k. 0 < k → (since : History) × Runs k (e ∷ h) since)
    (λ d q. absurd (omega arith))
    (λ d q. let r = ih q in (e ∷ r.0, goes_on r.1 d)))
    (λ f q. ([], starts q refl))
    p

-- Link keys made.

-- an answer that starts a session reports its link key made
start_made : (n : ℕ) (a : Result Outcome Refusal) → 0 < n → session_started a ≡ n → serials_made_in a ≡ n ∷ []
start_made n (Err r) pos q = absurd (omega arith)
start_made n (Ok o) pos q =
    let ne : eqb n 0 ≡ false = ne_eqb n 0 (λ z. omega arith) in
    both (eqb (confirmation_number o.confirmation) 1) (λ k. k ≡ n → serial_list o.made ≡ n ∷ [])
    (λ _ e. ap serial_list e ∙ cond-false (eqb n 0) [] (n ∷ []) ne)
    (λ _ e. absurd (omega arith))
    q

-- the link key of a session was made
run_made : (n : ℕ) {h since : History} → Runs n h since → is_member n (serials_made h) ≡ true
run_made n (starts {e} {h} pos q) =
    let new : is_member n (serials_made_in e.answer) ≡ true = ap (is_member n) (start_made n e.answer pos q) ∙ or_left (eqb n n) false (eq-eqb n n refl) in
    member_append n (serials_made h) (serials_made_in e.answer) ∙ or_right (is_member n (serials_made h)) (is_member n (serials_made_in e.answer)) new
run_made n (goes_on {e} {h} r k) = member_append n (serials_made h) (serials_made_in e.answer) ∙ or_left (is_member n (serials_made h)) (is_member n (serials_made_in e.answer)) (run_made n r)

-- so was that of a session that is over
over_made : (n : ℕ) {h since : History} → HasEnded n h since → is_member n (serials_made h) ≡ true
over_made n (ends {e} {h} r k) = member_append n (serials_made h) (serials_made_in e.answer) ∙ or_left (is_member n (serials_made h)) (is_member n (serials_made_in e.answer)) (run_made n r)
over_made n (stays {e} {h} r) = member_append n (serials_made h) (serials_made_in e.answer) ∙ or_left (is_member n (serials_made h)) (is_member n (serials_made_in e.answer)) (over_made n r)

-- the numbers at the front of a list that has none twice are distinct
distinct_front : (a b : List ℕ) → IsDistinct (a ++ b) → IsDistinct a
distinct_front [] b d = tt
distinct_front (x ∷ a) b d = ((or_parts (is_member x a) (is_member x b) (sym (member_append x a b) ∙ d.0)).0, distinct_front a b d.1)

-- the last number of such a list stands nowhere before
distinct_last : (a : List ℕ) (n : ℕ) → IsDistinct (a ++ (n ∷ [])) → is_member n a ≡ false
distinct_last [] n d = refl
distinct_last (x ∷ a) n d =
    let apart = or_parts (eqb x n) false ((or_parts (is_member x a) (eqb x n || false) (sym (member_append x a (n ∷ [])) ∙ d.0)).1) in
    let ih = distinct_last a n d.1 in
    let ne : eqb n x ≡ false = ne_eqb n x (λ z. clash (eqb x n) apart.0 (eq-eqb x n (sym z))) in
    rw (ne, ih)

-- the link key of a session that starts was not made before
start_new : (n : ℕ) (e : Entry) (h : History) → 0 < n → session_started e.answer ≡ n → IsDistinct (serials_made (e ∷ h)) → is_member n (serials_made h) ≡ false
start_new n e h pos q d = let k = start_made n e.answer pos q in distinct_last (serials_made h) n (rw k at d)

-- a link key not made yet is not read off
not_read : (n : ℕ) (h : History) → 0 < n → is_member n (serials_made h) ≡ false → running_session h ≡ n → ⊥
not_read n h pos k q =
    let lo : 0 < running_session h = omega arith in
    let r = read_runs h lo in
    clash (is_member n (serials_made h)) k (ap (λ j. is_member j (serials_made h)) (sym q) ∙ run_made (running_session h) r.1)

-- The records told.

-- the data that went one way in a call
abbrev pub went_in : Direction → Entry → List (List ℕ)
went_in was_sent e = data_sent_in e
went_in was_handed e = cond (is_retrieval e) (e.written ∷ []) []

-- data that went one way, in a history
abbrev pub went : Direction → History → List (List ℕ)
went was_sent h = data_sent h
went was_handed h = data_handed h

-- nothing went any way in no call
went_none : (w : Direction) → went w [] ≡ []
went_none was_sent = refl
went_none was_handed = refl

-- one more call
went_more : (w : Direction) (e : Entry) (h : History) → went w (e ∷ h) ≡ went w h ++ went_in w e
went_more was_sent e h = refl
went_more was_handed e h = refl

-- the data are read off part by part
those_append : (n : ℕ) (w : Direction) (a b : List SessionRecord) → data_of n w (a ++ b) ≡ data_of n w a ++ data_of n w b
those_append n w [] b = refl
those_append n w (c ∷ a) b =
    let ih = those_append n w a b in
    elim (eqb c.session n && eqb (direction_number c.direction) (direction_number w)) as (λ t. cond t (c.plain ∷ data_of n w (a ++ b)) (data_of n w (a ++ b)) ≡ cond t (c.plain ∷ data_of n w a) (data_of n w a) ++ data_of n w b) [ true ↦ ap (λ z. c.plain ∷ z) ih | false ↦ ih ]

-- a record in the session k
abbrev record_told : ℕ → Direction → List ℕ → SessionRecord
record_told k w plain = record { session = k; direction = w; plain = plain }

-- the records of data sent in a call in the session k
abbrev record_sent : ℕ → List (List ℕ) → List SessionRecord
record_sent k xs = map (λ plain. record_told k was_sent plain) xs

-- the record of data handed out in a call in the session k
abbrev record_handed : ℕ → Entry → List SessionRecord
record_handed k e = cond (is_retrieval e) (record_told k was_handed e.written ∷ []) []

-- data sent in another session
sent_other : (n k : ℕ) (w : Direction) (xs : List (List ℕ)) → eqb k n ≡ false → data_of n w (record_sent k xs) ≡ []
sent_other n k w [] ne = refl
sent_other n k w (x ∷ xs) ne = rw ne (sent_other n k w xs ne)

-- data handed out in another session
handed_other : (n k : ℕ) (w : Direction) (e : Entry) → eqb k n ≡ false → data_of n w (record_handed k e) ≡ []
handed_other n k w e ne = elim (is_retrieval e) as (λ t. data_of n w (cond t (record_told k was_handed e.written ∷ []) []) ≡ []) [ true ↦ rw ne | false ↦ refl ]

-- a call in another session adds none
session_records_other : (n : ℕ) (w : Direction) (e : Entry) (h : History) → (running_session h ≡ n → ⊥) → data_of n w (session_records (e ∷ h)) ≡ data_of n w (session_records h)
session_records_other n w e h apart =
    let k = running_session h in
    let ne : eqb k n ≡ false = ne_eqb k n apart in
    let a = sent_other n k w (data_sent_in e) ne in
    let b = handed_other n k w e ne in
    let none : data_of n w (records_in k e) ≡ [] = those_append n w (record_sent k (data_sent_in e)) (record_handed k e) ∙ ap (λ z. z ++ data_of n w (record_handed k e)) a ∙ b in
    those_append n w (session_records h) (records_in k e) ∙ ap (λ z. data_of n w (session_records h) ++ z) none ∙ append-nil (data_of n w (session_records h))

-- data sent in the session were sent
sent_sent : (n k : ℕ) (xs : List (List ℕ)) → eqb k n ≡ true → data_of n was_sent (record_sent k xs) ≡ xs
sent_sent n k [] q = refl
sent_sent n k (x ∷ xs) q = let ih = sent_sent n k xs q in rw (q, ih)

-- and not handed out
sent_handed : (n k : ℕ) (xs : List (List ℕ)) → eqb k n ≡ true → data_of n was_handed (record_sent k xs) ≡ []
sent_handed n k [] q = refl
sent_handed n k (x ∷ xs) q = rw q (sent_handed n k xs q)

-- data handed out in the session were not sent
handed_sent : (n k : ℕ) (e : Entry) → eqb k n ≡ true → data_of n was_sent (record_handed k e) ≡ []
handed_sent n k e q = elim (is_retrieval e) as (λ t. data_of n was_sent (cond t (record_told k was_handed e.written ∷ []) []) ≡ []) [ true ↦ rw q | false ↦ refl ]

-- but handed out
handed_handed : (n k : ℕ) (e : Entry) → eqb k n ≡ true → data_of n was_handed (record_handed k e) ≡ went_in was_handed e
handed_handed n k e q = elim (is_retrieval e) as (λ t. data_of n was_handed (cond t (record_told k was_handed e.written ∷ []) []) ≡ cond t (e.written ∷ []) []) [ true ↦ rw q | false ↦ refl ]

-- a call in the session tells what went each way in it
records_went : (n k : ℕ) (w : Direction) (e : Entry) → eqb k n ≡ true → data_of n w (records_in k e) ≡ went_in w e
records_went n k was_sent e q =
    let a = sent_sent n k (data_sent_in e) q in
    let b = handed_sent n k e q in
    those_append n was_sent (record_sent k (data_sent_in e)) (record_handed k e) ∙ ap (λ z. z ++ data_of n was_sent (record_handed k e)) a ∙ ap (λ z. data_sent_in e ++ z) b ∙ append-nil (data_sent_in e)
records_went n k was_handed e q =
    let a = sent_handed n k (data_sent_in e) q in
    let b = handed_handed n k e q in
    those_append n was_handed (record_sent k (data_sent_in e)) (record_handed k e) ∙ ap (λ z. z ++ data_of n was_handed (record_handed k e)) a ∙ b

-- a call in the session adds what went in it
session_records_more : (n : ℕ) (w : Direction) (e : Entry) (h since : History) → running_session h ≡ n → data_of n w (session_records h) ≡ went w since → data_of n w (session_records (e ∷ h)) ≡ went w (e ∷ since)
session_records_more n w e h since q ih =
    let k = running_session h in
    those_append n w (session_records h) (records_in k e) ∙ ap (λ z. data_of n w (session_records h) ++ z) (records_went n k w e (eq-eqb k n q)) ∙ ap (λ z. z ++ went_in w e) ih ∙ sym (went_more w e since)

-- nothing is told of a session whose link key is not made yet
none_told : (n : ℕ) (w : Direction) → 0 < n → (h : History) → is_member n (serials_made h) ≡ false → data_of n w (session_records h) ≡ []
none_told n w pos [] k = refl
none_told n w pos (e ∷ h) k =
    let parts = or_parts (is_member n (serials_made h)) (is_member n (serials_made_in e.answer)) (sym (member_append n (serials_made h) (serials_made_in e.answer)) ∙ k) in
    session_records_other n w e h (not_read n h pos parts.0) ∙ none_told n w pos h parts.0

-- a session that runs: the records told are those of its calls
pub runs_told : (n : ℕ) (w : Direction) {h since : History} → Runs n h since → Orderly h → IsDistinct (serials_made h) → data_of n w (session_records h) ≡ went w since
runs_told n w (starts {e} {h} pos q) o d =
    let new = start_new n e h pos q d in
    session_records_other n w e h (not_read n h pos new) ∙ none_told n w pos h new ∙ sym (went_none w)
runs_told n w (goes_on {e} {h} {since} r k) o d = session_records_more n w e h since (read_off n r o.1) (runs_told n w r o.1 (distinct_front (serials_made h) (serials_made_in e.answer) d))

-- A session that is over.

-- a link key is above 0
pub run_above : (n : ℕ) {h since : History} → Runs n h since → 0 < n
run_above n (starts pos q) = pos
run_above n (goes_on r k) = run_above n r

-- so is that of a session that is over
over_above : (n : ℕ) {h since : History} → HasEnded n h since → 0 < n
over_above n (ends r k) = run_above n r
over_above n (stays r) = over_above n r

-- a session that is over is not read off
over_unread : (n : ℕ) {h since : History} → HasEnded n h since → Orderly h → IsDistinct (serials_made h) → running_session h ≡ n → ⊥
over_unread n (ends {e} {h} {since} r k) o d q =
    let pos = run_above n r in
    let here = read_off n r o.1 in
    let z = link_ends e h (o.0 (n, (since, r))) (ap (λ j. is_member j (serials_destroyed_in e.answer)) here ∙ k) in
    omega arith
over_unread n (stays {e} {h} r) o d q =
    let pos = over_above n r in
    let before = over_unread n r o.1 (distinct_front (serials_made h) (serials_made_in e.answer) d) in
    let was = over_made n r in
    both (eqb (session_started e.answer) 0) (λ k. k ≡ n → ⊥)
    (λ _.
    both (is_member (running_session h) (serials_destroyed_in e.answer)) (λ k. k ≡ n → ⊥)
    (λ _ x. omega arith)
    (λ _ x. before x))
    (λ _ x. clash (is_member n (serials_made h)) (start_new n e h pos x d) was)
    q

-- a session that is over: the records told are those of its calls
pub over_told : (n : ℕ) (w : Direction) {h since : History} → HasEnded n h since → Orderly h → IsDistinct (serials_made h) → data_of n w (session_records h) ≡ went w since
over_told n w (ends {e} {h} {since} r k) o d = session_records_more n w e h since (read_off n r o.1) (runs_told n w r o.1 (distinct_front (serials_made h) (serials_made_in e.answer) d))
over_told n w (stays {e} {h} r) o d =
    let d' = distinct_front (serials_made h) (serials_made_in e.answer) d in
    session_records_other n w e h (over_unread n r o.1 d') ∙ over_told n w r o.1 d'

-- where no session runs none is read off
pub none_read : (h : History) → (SomeRuns h → ⊥) → running_session h ≡ 0
none_read h shut =
    elim (cases_Bool (eqb (running_session h) 0)) [
      | inl t ↦ eqb-true (running_session h) 0 t
      | inr f ↦
          let some : running_session h ≡ 0 → ⊥ = eqb-false (running_session h) 0 f in
          let lo : 0 < running_session h = omega arith in
          let r = read_runs h lo in
          absurd (shut (running_session h, (r.0, r.1)))
    ]

-- No other records.

-- a call made where no session is read off sends and hands out nothing
abbrev pub Quiet : History → Type 0
Quiet [] = Unit {0}
Quiet (e ∷ h) = (running_session h ≡ 0 → records_in 0 e ≡ []) × Quiet h

-- after a further call a session that ran runs or is over
run_session : (n : ℕ) (e : Entry) {h since : History} → Runs n h since → HasSession n (e ∷ h)
run_session n e {since} r =
    elim (cases_Bool (is_member n (serials_destroyed_in e.answer))) [
      | inl t ↦ (e ∷ since, inr (ends r t))
      | inr f ↦ (e ∷ since, inl (goes_on r f))
    ]

-- a session is still one after a further call
more_session : (n : ℕ) (e : Entry) (h : History) → HasSession n h → HasSession n (e ∷ h)
more_session n e h (since, inl r) = run_session n e r
more_session n e h (since, inr r) = (since, inr (stays r))

-- the session of the last call, if that call told anything
session_in : (n : ℕ) (w : Direction) (e : Entry) (h : History) → (running_session h ≡ 0 → records_in 0 e ≡ []) → running_session h ≡ n → (data_of n w (session_records h) ≡ data_of n w (session_records (e ∷ h)) → HasSession n (e ∷ h)) → HasSession n (e ∷ h)
session_in n w e h quiet q old =
    elim (cases_Bool (eqb (running_session h) 0)) [
      | inl t ↦
          let z = eqb-true (running_session h) 0 t in
          let silent : records_in (running_session h) e ≡ [] = ap (λ k. records_in k e) z ∙ quiet z in
          let same : session_records (e ∷ h) ≡ session_records h = ap (λ c. session_records h ++ c) silent ∙ append-nil (session_records h) in
          old (sym (ap (data_of n w) same))
      | inr f ↦
          let some : running_session h ≡ 0 → ⊥ = eqb-false (running_session h) 0 f in
          let lo : 0 < running_session h = omega arith in
          let r = read_runs h lo in
          run_session n e (subst (λ k. Runs k h r.0) q r.1)
    ]

-- no data are told but of some session
pub no_others : (n : ℕ) (w : Direction) (h : History) → Quiet h → (data_of n w (session_records h) ≡ [] → ⊥) → HasSession n h
no_others n w [] quiet some = absurd (some refl)
no_others n w (e ∷ h) quiet some =
    let old : data_of n w (session_records h) ≡ data_of n w (session_records (e ∷ h)) → HasSession n (e ∷ h) = λ same. more_session n e h (no_others n w h quiet.1 (λ z. some (sym same ∙ z))) in
    elim (cases_Bool (eqb (running_session h) n)) [
      | inl t ↦ session_in n w e h quiet.0 (eqb-true (running_session h) n t) old
      | inr f ↦ old (sym (session_records_other n w e h (eqb-false (running_session h) n f)))
    ]
