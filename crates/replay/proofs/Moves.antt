-- Where a call starts and ends sessions of SSE, for every suite and every entity.
use Rattle.std.proofs.Common.{◌≡◌, ℕ, ◌+◌, ◌<◌, ◌≤◌, Bool, true, false, not, ◌||◌, eqb, ltb, leb, List, [], ◌++◌, length, None, Ok, Err, Option, Result, refl, ◌∙◌, arith}
use Rattle.std.proofs.lemmas.Bool.{ne_eqb, eq-eqb, eqb-true, not-false, or_right}
use Rattle.frame.specs.declared.types.Service.{Service}
use Rattle.frame.specs.declared.types.Service.TheVariants.{Sse, Sch}
use Rattle.frame.specs.Frames.{Contents, act_req, act_res, vfy_req, vfy_res, enc, tmn, error}
use Rattle.frame.specs.Reading.{Reading, message, refused as unread, fault, reading}
use Rattle.suite.specs.declared.types.Role.TheVariants.{Sender, Recipient}
use Rattle.suite.specs.Schemes.{Scheme}
use Rattle.suite.specs.Calls.{is_wrong_seed, is_short_buffer}
use Rattle.protocol.specs.declared.states.State.{State}
use Rattle.protocol.specs.declared.states.State.TheVariants as st
use Rattle.protocol.specs.declared.outcomes.Confirmation.{Confirmation}
use Rattle.protocol.specs.declared.outcomes.Confirmation.TheVariants as conf
use Rattle.protocol.specs.declared.outcomes.Outcome.{Outcome}
use Rattle.protocol.specs.declared.refusals.Refusal.{Refusal}
use Rattle.protocol.specs.declared.faults.SuiteFault.{SuiteFault}
use Rattle.protocol.specs.declared.faults.Cause.{Cause}
use Rattle.protocol.specs.declared.faults.Cause.TheVariants.{Suite}
use Rattle.protocol.specs.declared.faults.Fault.{Fault}
use Rattle.protocol.specs.Numbers.{state_mark}
use Rattle.protocol.specs.Models.{Model, Ancillary}
use Rattle.protocol.specs.Steps.{Step, fault_effect, effect_or_fault, ongoing_effect, idle_effect, end_effect, agreement, derivation, verification, opened_record, is_empty, is_record_length, is_same_service, session_effect, on_act_req, on_act_res, on_vfy_req, on_vfy_res, on_enc, record_effect, link_start, service_start, check_value, message_effect, frame_bytes}
use Rattle.protocol.specs.Calls.{CallEffect, Call, invoke, send, retrieve_data, retrieve_secret, terminate, frame, release, call_effect, refusal_effect, effect_of_step, is_in_state, is_blocked, admission, admitted_effect, first_byte}
use Rattle.histories.specs.Histories.{History, entry_of, has_confirmation, session_started, serial_list, serials_destroyed_in, is_member}
use Rattle.promises.proofs.Cases.{both, clash}
use Rattle.promises.proofs.Books.{member_append}
use Rattle.replay.specs.SheetRecords.{last_made, sse_started, end_by, HasEnd, by_error, by_release, by_terminate, by_tmn}

-- an answer that starts no session and is of no record
pub record IsQuiet (a : Result Outcome Refusal) : Type 0 where
  pub starts : has_confirmation 1 a ≡ false
  pub sends : has_confirmation 2 a ≡ false
  pub takes : has_confirmation 3 a ≡ false

-- a state in which sessions start
pub record IsEstablished (state : State) : Type 0 where
  pub low : 2 ≤ state_mark state
  pub high : state_mark state ≤ 3

-- what one call does about sessions of SSE
pub data Moves (c : Call) (m : Model) (t : CallEffect) : Type 0 where
  -- made outside Confirmed_SSE, it does not lead there: no session of SSE starts, and no key is destroyed
  elsewhere : eqb (state_mark m.state) 4 ≡ false → eqb (state_mark t.model.state) 4 ≡ false → serials_destroyed_in t.answer ≡ []
      → ((h : History) → sse_started h t.answer ≡ 0) → Moves c m t
  -- state and shared secret are left as they are
  stays : t.model.state ≡ m.state → t.model.secret ≡ m.secret → serials_destroyed_in t.answer ≡ [] → IsQuiet t.answer → Moves c m t
  -- the shared secret is destroyed; a session that ran has its end
  leaves : (0 < m.secret → is_member m.secret (serials_destroyed_in t.answer) ≡ true) → eqb (state_mark t.model.state) 4 ≡ false → IsQuiet t.answer
      → (4 ≤ state_mark m.state → HasEnd (entry_of c t) (end_by (entry_of c t))) → Moves c m t
  -- a session starts, under the shared secret
  confirms : IsEstablished m.state → t.model.state ≡ st.ConfirmedSse → t.model.secret ≡ m.secret → serials_destroyed_in t.answer ≡ []
      → ((h : History) → sse_started h t.answer ≡ last_made h) → Moves c m t

-- so it is by its confirmation
quiet : {a : Result Outcome Refusal} → has_confirmation 1 a ≡ false → has_confirmation 2 a ≡ false → has_confirmation 3 a ≡ false → IsQuiet a
quiet p q r = record { starts = p; sends = q; takes = r }

-- a shared secret is among the keys that go
secret_goes : (link secret : ℕ) → 0 < secret → is_member secret (serial_list link ++ serial_list secret) ≡ true
secret_goes link secret pos =
    let some : eqb secret 0 ≡ false = ne_eqb secret 0 (λ z. omega arith) in
    let self = eq-eqb secret secret refl in
    let listed : is_member secret (serial_list secret) ≡ true = rw (some, self) refl in
    member_append secret (serial_list link) (serial_list secret) ∙ or_right (is_member secret (serial_list link)) (is_member secret (serial_list secret)) listed

-- a state that is not Confirmed_SSE
other_state : (mark k : ℕ) → (k ≡ 4 → ⊥) → eqb mark k ≡ true → eqb mark 4 ≡ false
other_state mark k differ e = let same = eqb-true mark k e in ne_eqb mark 4 (λ x. differ (omega arith))

module _ (c : Call) (m : Model) where
  -- a refusal leaves all as it is
  moves_refused : (r : Refusal) → Moves c m (refusal_effect m r)
  moves_refused r = stays refl refl refl (quiet refl refl refl)

  -- Idle is entered
  moves_idle : (k : Confirmation) (reply : List ℕ) (f : Option Fault) → let t : CallEffect = idle_effect m k reply f in
      IsQuiet t.answer → (4 ≤ state_mark m.state → HasEnd (entry_of c t) (end_by (entry_of c t))) → Moves c m t
  moves_idle k reply f q ends = leaves (secret_goes m.link m.secret) refl q ends

module _ (s : Scheme) (m : Model) where
  -- what a call of this entity does
  abbrev MovesAt : Call → Type 0
  MovesAt c = Moves c m (call_effect s m c)

  -- Idle is left for Select
  moves_invoke : (service : Service) (pid : ℕ) (seed : List ℕ) (room : ℕ) → MovesAt (invoke service pid seed room)
  moves_invoke service pid seed room =
      let c = invoke service pid seed room in
      both (is_short_buffer room) (Moves c m) (λ _. moves_refused c m _)
      (λ _. both (is_wrong_seed seed) (Moves c m) (λ _. moves_refused c m _)
      (λ _. both (not (is_in_state m st.Idle)) (Moves c m) (λ _. moves_refused c m _)
      (λ idle. both (not (eqb pid s.pid)) (Moves c m) (λ _. moves_refused c m _)
      (λ _. elsewhere (other_state (state_mark m.state) 0 (λ x. omega arith) (not-false (is_in_state m st.Idle) idle)) refl refl (λ h. refl)))))

  -- where records are sent and received
  linked : not (is_in_state m st.ConfirmedSch) ≡ false → eqb (state_mark m.state) 4 ≡ false
  linked up = other_state (state_mark m.state) 5 (λ x. omega arith) (not-false (is_in_state m st.ConfirmedSch) up)

  -- in a link session a record is sent
  moves_send : (plain : List ℕ) (room : ℕ) → MovesAt (send plain room)
  moves_send plain room =
      let c = send plain room in
      both (is_short_buffer room) (Moves c m) (λ _. moves_refused c m _)
      (λ _. both (not (is_in_state m st.ConfirmedSch)) (Moves c m) (λ _. moves_refused c m _)
      (λ up. both (not (is_record_length (length plain))) (Moves c m) (λ _. moves_refused c m _)
      (λ _. both (leb s.final m.number) (Moves c m) (λ _. moves_refused c m _)
      (λ _. elsewhere (linked up) (linked up) refl (λ h. refl)))))

  -- or the data held is handed over
  moves_data : (room : ℕ) → MovesAt (retrieve_data room)
  moves_data room =
      let c = retrieve_data room in
      both (not (is_in_state m st.ConfirmedSch)) (Moves c m) (λ _. moves_refused c m _)
      (λ up. both (is_empty m.held) (Moves c m) (λ _. moves_refused c m _)
      (λ _. both (ltb room (length m.held)) (Moves c m) (λ _. moves_refused c m _)
      (λ _. elsewhere (linked up) (linked up) refl (λ h. refl))))

  -- in Confirmed_SSE the shared secret is handed over
  moves_secret : (room : ℕ) → MovesAt (retrieve_secret room)
  moves_secret room =
      let c = retrieve_secret room in
      both (not (is_in_state m st.ConfirmedSse)) (Moves c m) (λ _. moves_refused c m _)
      (λ _. both (ltb room 16) (Moves c m) (λ _. moves_refused c m _)
      (λ _. stays refl refl refl (quiet refl refl refl)))

  -- the user ends the session
  moves_terminate : (room : ℕ) → MovesAt (terminate room)
  moves_terminate room =
      let c = terminate room in
      both (is_short_buffer room) (Moves c m) (λ _. moves_refused c m _)
      (λ _. both (not (is_in_state m st.ConfirmedSse || is_in_state m st.ConfirmedSch)) (Moves c m) (λ _. moves_refused c m _)
      (λ _. moves_idle c m conf.Terminated _ _ (quiet refl refl refl) (λ _. by_terminate refl refl)))

  -- the link below is released; in Idle no session runs
  moves_release : MovesAt release
  moves_release =
      both (is_in_state m st.Idle) (λ k. Moves release m (idle_effect m k [] None))
      (λ idle. moves_idle release m conf.Nothing [] None (quiet refl refl refl)
      (λ low. let mark = eqb-true (state_mark m.state) 0 idle in absurd (omega arith)))
      (λ _. moves_idle release m conf.Terminated [] None (quiet refl refl refl) (λ _. by_release refl refl))

  -- The step of a message.

  module _ (bytes : List ℕ) (beside : Ancillary) (room sep : ℕ) where
    -- a step does so as a call
    abbrev MovesBy : Step → Type 0
    MovesBy step = Moves (frame bytes beside room) m (effect_of_step m sep step)

    -- a fault ends the session
    moves_fault : (cause : Cause) → MovesBy (fault_effect m cause)
    moves_fault cause = moves_idle _ m conf.Error _ _ (quiet refl refl refl) (λ _. by_error refl)

    -- what follows where the suite finds no fault
    moves_each : {A : Type 0} (r : Result A SuiteFault) (f : A → Step) → ((x : A) → MovesBy (f x)) → MovesBy (effect_or_fault m r f)
    moves_each (Ok x) f g = g x
    moves_each (Err e) f g = moves_fault (Suite e)

    -- a step of the session's service
    moves_session : (service : Service) (step : Step) → MovesBy step → MovesBy (session_effect m service step)
    moves_session service step f = both (not (is_same_service service m.service)) MovesBy (λ _. moves_fault _) (λ _. f)

    -- the Recipient agrees
    moves_act_req : eqb (state_mark m.state) 4 ≡ false → (service : Service) (pid : ℕ) (offer seed : List ℕ) → MovesBy (on_act_req s m service pid offer seed)
    moves_act_req out service pid offer seed =
        both (not (eqb pid s.pid)) MovesBy (λ _. moves_fault _)
        (λ _. moves_each (agreement s m.means seed offer Recipient) _ (λ value. elsewhere out refl refl (λ h. refl)))

    -- the Sender agrees
    moves_act_res : eqb (state_mark m.state) 4 ≡ false → (offer : List ℕ) → MovesBy (on_act_res s m offer)
    moves_act_res out offer = moves_each (agreement s m.means m.seed offer Sender) _ (λ value. elsewhere out refl refl (λ h. refl))

    -- a link key is made
    moves_link : eqb (state_mark m.state) 4 ≡ false → (reply : List ℕ) (r : Result (List ℕ) SuiteFault) → MovesBy (effect_or_fault m (link_start s m r) (λ x. ongoing_effect x.0 conf.Established x.1 reply))
    moves_link out reply (Err e) = moves_fault _
    moves_link out reply (Ok value) = let some : eqb (m.means.newest + 1) 0 ≡ false = ne_eqb (m.means.newest + 1) 0 (λ x. omega arith) in elsewhere out refl refl (λ h. rw some refl)

    -- the service starts
    moves_start : IsEstablished m.state → (service : Service) (reply : List ℕ) → MovesBy (effect_or_fault m (service_start s m service) (λ x. ongoing_effect x.0 conf.Established x.1 reply))
    moves_start k Sse reply = confirms k refl refl refl (λ h. refl)
    moves_start k Sch reply =
        let high = k.high in
        moves_link (ne_eqb (state_mark m.state) 4 (λ x. omega arith)) reply (derivation s m.means m.secret)

    -- the Recipient verifies
    moves_vfy_req : IsEstablished m.state → (check : List ℕ) → MovesBy (on_vfy_req s m check)
    moves_vfy_req k check = moves_each (verification s m Sender check) _ (λ _. moves_start k m.service (frame_bytes m.service (vfy_res (check_value s m Recipient))))

    -- the Sender verifies
    moves_vfy_res : IsEstablished m.state → (check : List ℕ) → MovesBy (on_vfy_res s m check)
    moves_vfy_res k check = moves_each (verification s m Recipient check) _ (λ _. moves_start k m.service [])

    -- an opened record, by its sequence check
    moves_record : eqb (state_mark m.state) 4 ≡ false → (plain : List ℕ) (r : Result Bool Cause) → MovesBy (record_effect m plain r)
    moves_record out plain (Err cause) = moves_fault cause
    moves_record out plain (Ok false) = elsewhere out out refl (λ h. refl)
    moves_record out plain (Ok true) = elsewhere out out refl (λ h. refl)

    -- a record
    moves_enc : eqb (state_mark m.state) 4 ≡ false → (payload : List ℕ) → MovesBy (on_enc s m payload)
    moves_enc out payload = moves_each (opened_record s m payload) _ (λ t. moves_record out t.2 _)

    -- what was read
    abbrev Read : Service → Contents → Type 0
    Read service contents = reading bytes ≡ message (record { service = service; contents = contents })

    -- a TMN ends the session
    moves_tmn : (service : Service) (payload : List ℕ) → Read service (tmn payload) → MovesBy (session_effect m service (end_effect m conf.Terminated))
    moves_tmn service payload r =
        moves_session service _ (moves_idle _ m conf.Terminated _ _ (quiet refl refl refl) (λ _. by_tmn refl refl (service, (payload, r))))

    -- a message, in each state
    moves_message : (service : Service) (state : State) → state ≡ m.state → (contents : Contents) → Read service contents → MovesBy (message_effect s m beside service state contents)
    moves_message service state e (error p) r = moves_idle _ m conf.Error _ _ (quiet refl refl refl) (λ _. by_error refl)
    moves_message service st.Idle e (act_req pid offer) r = moves_act_req (rw (← e) refl) service pid offer beside.seed
    moves_message service st.Select e (act_res offer) r = moves_session service _ (moves_act_res (rw (← e) refl) offer)
    moves_message service st.EstablishedSender e (vfy_res check) r = moves_session service _ (moves_vfy_res (rw (← e) (record { low = omega arith; high = omega arith })) check)
    moves_message service st.EstablishedRecipient e (vfy_req check) r = moves_session service _ (moves_vfy_req (rw (← e) (record { low = omega arith; high = omega arith })) check)
    moves_message service st.ConfirmedSse e (tmn p) r = moves_tmn service p r
    moves_message service st.ConfirmedSch e (tmn p) r = moves_tmn service p r
    moves_message service st.ConfirmedSch e (enc payload) r = moves_session service _ (moves_enc (rw (← e) refl) payload)
    moves_message service state e contents r = moves_fault _

    -- a frame that was read, or not
    moves_received : (r : Reading) → reading bytes ≡ r → Moves (frame bytes beside room) m (admitted_effect s m beside sep (admission m r))
    moves_received (unread number) e = moves_refused _ m _
    moves_received (fault code) e = moves_fault _
    moves_received (message p) e =
        both (is_blocked m p) (λ a. Moves (frame bytes beside room) m (admitted_effect s m beside sep a)) (λ _. moves_refused _ m _)
        (λ _. moves_message p.service m.state refl p.contents e)

  -- a frame from the peer
  moves_frame : (bytes : List ℕ) (beside : Ancillary) (room : ℕ) → MovesAt (frame bytes beside room)
  moves_frame bytes beside room =
      let c = frame bytes beside room in
      both (is_short_buffer room) (Moves c m) (λ _. moves_refused c m _)
      (λ _. both (is_wrong_seed beside.seed) (Moves c m) (λ _. moves_refused c m _)
      (λ _. moves_received bytes beside room (first_byte bytes) (reading bytes) refl))

-- so with every call
pub moves : (s : Scheme) (m : Model) (c : Call) → Moves c m (call_effect s m c)
moves s m (invoke service pid seed room) = moves_invoke s m service pid seed room
moves s m (send plain room) = moves_send s m plain room
moves s m (retrieve_data room) = moves_data s m room
moves s m (retrieve_secret room) = moves_secret s m room
moves s m (terminate room) = moves_terminate s m room
moves s m (frame bytes beside room) = moves_frame s m bytes beside room
moves s m release = moves_release s m

-- What follows.

-- without confirmation 1 no link session starts
pub none_linked : (a : Result Outcome Refusal) → has_confirmation 1 a ≡ false → session_started a ≡ 0
none_linked (Err r) e = refl
none_linked (Ok o) e = rw e refl

-- nor a session of SSE
pub none_confirmed : (a : Result Outcome Refusal) → has_confirmation 1 a ≡ false → (h : History) → sse_started h a ≡ 0
none_confirmed (Err r) e h = refl
none_confirmed (Ok o) e h = rw e refl

-- while a session runs none of SSE starts
pub none_started : {c : Call} {m : Model} {t : CallEffect} → Moves c m t → 4 ≤ state_mark m.state → (h : History) → sse_started h t.answer ≡ 0
none_started (elsewhere out out' kept none) low h = none h
none_started {t} (stays e e' kept q) low h = none_confirmed t.answer q.starts h
none_started {t} (leaves d out q ends) low h = none_confirmed t.answer q.starts h
none_started (confirms k e e' kept starts) low h = let high = k.high in absurd (omega arith)

-- no state is both Confirmed_SSE and another
pub not_sse : {X : Type 0} (state : State) → eqb (state_mark state) 4 ≡ false → state ≡ st.ConfirmedSse → X
not_sse state out e = clash (eqb (state_mark state) 4) out (rw e refl)

-- in Confirmed_SSE no session starts, and there is no record
pub quiet_in_sse : {c : Call} {m : Model} {t : CallEffect} → Moves c m t → m.state ≡ st.ConfirmedSse → IsQuiet t.answer
quiet_in_sse {m} (elsewhere out out' kept none) e = not_sse m.state out e
quiet_in_sse (stays e' e'' kept q) e = q
quiet_in_sse (leaves d out q ends) e = q
quiet_in_sse (confirms k e' e'' kept starts) e = let high = k.high in let k' = rw e at high in absurd (omega arith)
