-- Every call does one of the things that a call may do.
use Rattle.std.proofs.Common.{◌≡◌, ℕ, ◌+◌, ◌<◌, ◌≤◌, true, false, not, ◌||◌, eqb, ltb, leb, List, [], ◌∷◌, length, refl, ap, arith}
use Rattle.std.proofs.lemmas.Bool.{ne_eqb, ltb-false, leb-false, eqb-true, and_parts, not-false, not-true}
use Rattle.frame.specs.declared.types.Service.{Service}
use Rattle.frame.specs.declared.types.Service.TheVariants.{Sch}
use Rattle.frame.specs.Frames.{enc}
use Rattle.frame.specs.Reading.{reading}
use Rattle.suite.specs.declared.limits.TheConstants.{MAX_DATA}
use Rattle.suite.specs.declared.types.Role.TheVariants.{Sender}
use Rattle.suite.specs.Numbers.{role_byte}
use Rattle.suite.specs.declared.types.KeyKind.TheVariants.{LinkKey}
use Rattle.suite.specs.Meanings.{IsBytes, IsBytes16, keyring_of}
use Rattle.suite.proofs.KeyLaws.{value_is}
use Rattle.suite.specs.Schemes.{Scheme, IsLawful, IsSealable}
use Rattle.suite.specs.Calls.{is_short_buffer, is_wrong_seed}
use Rattle.protocol.specs.declared.states.State.TheVariants as st
use Rattle.protocol.specs.declared.outcomes.Confirmation.TheVariants as conf
use Rattle.protocol.specs.Numbers.{state_mark, confirmation_number}
use Rattle.protocol.specs.Models.{Model, Ancillary}
use Rattle.protocol.specs.Steps.{frame_bytes, is_empty, is_record_length, sealed_record}
use Rattle.protocol.specs.Calls.{Call, IsGivenBytes, invoke, send, retrieve_data, retrieve_secret, terminate, frame, release, call_effect, keyless_effect, is_in_state, first_byte}
use Rattle.promises.proofs.Cases.{both, clash}
use Rattle.promises.proofs.Ledgers.{sends, gives}
use Rattle.promises.proofs.EntityForms.{HasForm, at_idle, at_select, at_secret, at_sch, in_sch, Did, outside, inside}
use Rattle.promises.proofs.Turns.{silent, unmoved, not_linked, not_idle, did_refused, did_ended}
use Rattle.promises.proofs.Messages.{did_received}

-- data that a record can have is not empty
not_empty : (xs : List ℕ) → is_empty xs ≡ false → 0 < length xs
not_empty [] e = absurd (cc)
not_empty (x ∷ xs) e = omega arith

-- a seed that is not refused
sixteen : (seed : List ℕ) → is_wrong_seed seed ≡ false → IsBytes seed → IsBytes16 seed
sixteen seed long given = record { long = eqb-true (length seed) 16 (not-false (eqb (length seed) 16) long); bytes = given }

module _ (s : Scheme) where
  -- Idle is left
  invoked : (c : Call) (service : Service) (seed reply : List ℕ) → IsBytes16 seed → {m : Model} → HasForm s m → is_in_state m st.Idle ≡ true → Did s c m (keyless_effect (record m { state = st.Select; service = service; role = Sender; seed = seed }) conf.Nothing reply)
  invoked c service seed reply long (at_idle base) e = outside (at_select base long) refl refl refl (silent refl refl refl)
  invoked c service seed reply long (at_select base h) e = clash false refl e
  invoked c service seed reply long (at_secret state k one) e = clash _ (not_idle k) e
  invoked c service seed reply long (at_sch h lo hi) e = clash false refl e

  did_invoke : (service : Service) (pid : ℕ) (seed : List ℕ) (room : ℕ) → IsBytes seed → {m : Model} → HasForm s m → let c = invoke service pid seed room in Did s c m (call_effect s m c)
  did_invoke service pid seed room given {m} S =
      let c = invoke service pid seed room in
      both (is_short_buffer room) (Did s c m) (λ _. did_refused s c _ S)
      (λ _. both (is_wrong_seed seed) (Did s c m) (λ _. did_refused s c _ S)
      (λ long. both (not (is_in_state m st.Idle)) (Did s c m) (λ _. did_refused s c _ S)
      (λ idle. both (not (eqb pid s.pid)) (Did s c m) (λ _. did_refused s c _ S)
      (λ _. invoked c service seed _ (sixteen seed long given) S (not-false (is_in_state m st.Idle) idle)))))

  -- in a session a record is sealed
  did_seal : (plain : List ℕ) (room : ℕ) {m : Model} → HasForm s m → in_sch m ≡ true → is_record_length (length plain) ≡ true → IsBytes plain → m.number < s.final
      → Did s (send plain room) m (keyless_effect (record m { number = m.number + 1 }) conf.DataSent (frame_bytes Sch (enc (sealed_record s m (m.number + 1) plain))))
  did_seal plain room (at_idle base) up full given below = clash false refl up
  did_seal plain room (at_select base h) up full given below = clash false refl up
  did_seal plain room (at_secret state k one) up full given below = clash _ (not_linked k) up
  did_seal plain room {m} (at_sch {number} two lo hi) up full given below =
      let parts = and_parts (not (is_empty plain)) (not (ltb MAX_DATA (length plain))) full in
      let some : 0 < length plain = not_empty plain (not-true (is_empty plain) parts.0) in
      let most : length plain ≤ MAX_DATA = ltb-false MAX_DATA (length plain) (not-true (ltb MAX_DATA (length plain)) parts.1) in
      let low : s.first ≤ number + 1 = omega arith in
      let high : number + 1 ≤ s.final = omega arith in
      let next : number + 1 ≡ (number + 1) + 0 = omega arith in
      let fit : IsSealable s (number + 1) plain = record { some = some; most = most; bytes = given; low = low; high = high } in
      inside (at_sch two low high) refl refl refl refl refl (silent refl refl refl) next
      (λ w f. sends plain refl (ap (λ z. (0x14 ∷ s.seal_of (keyring_of m.means) m.link z (role_byte m.role) (number + 1) plain) ∷ []) (value_is m.means.live LinkKey m.link w f)) refl fit)

  did_send : (plain : List ℕ) (room : ℕ) → IsBytes plain → {m : Model} → HasForm s m → let c = send plain room in Did s c m (call_effect s m c)
  did_send plain room given {m} S =
      let c = send plain room in
      both (is_short_buffer room) (Did s c m) (λ _. did_refused s c _ S)
      (λ _. both (not (in_sch m)) (Did s c m) (λ _. did_refused s c _ S)
      (λ up. both (not (is_record_length (length plain))) (Did s c m) (λ _. did_refused s c _ S)
      (λ full. both (leb s.final m.number) (Did s c m) (λ _. did_refused s c _ S)
      (λ below. did_seal plain room S (not-false (in_sch m) up) (not-false (is_record_length (length plain)) full) given (leb-false s.final m.number below)))))

  -- in a session the data held is handed out
  did_give : (room : ℕ) {m : Model} → HasForm s m → in_sch m ≡ true → is_empty m.held ≡ false → Did s (retrieve_data room) m (keyless_effect (record m { held = [] }) conf.Nothing m.held)
  did_give room (at_idle base) up full = clash false refl up
  did_give room (at_select base h) up full = clash false refl up
  did_give room (at_secret state k one) up full = clash _ (not_linked k) up
  did_give room (at_sch {number} two lo hi) up full = inside (at_sch two lo hi) refl refl refl refl refl (silent refl refl refl) (unmoved number) (λ w e. gives refl refl refl refl full)

  did_data : (room : ℕ) {m : Model} → HasForm s m → let c = retrieve_data room in Did s c m (call_effect s m c)
  did_data room {m} S =
      let c = retrieve_data room in
      both (not (in_sch m)) (Did s c m) (λ _. did_refused s c _ S)
      (λ up. both (is_empty m.held) (Did s c m) (λ _. did_refused s c _ S)
      (λ full. both (ltb room (length m.held)) (Did s c m) (λ _. did_refused s c _ S)
      (λ _. did_give room S (not-false (in_sch m) up) full)))

  other_state : (m : Model) → is_in_state m st.ConfirmedSse ≡ true → in_sch m ≡ false
  other_state m e = let mark : state_mark m.state ≡ 4 = eqb-true (state_mark m.state) 4 e in ne_eqb (state_mark m.state) 5 (λ x. omega arith)

  did_secret : (room : ℕ) {m : Model} → HasForm s m → let c = retrieve_secret room in Did s c m (call_effect s m c)
  did_secret room {m} S =
      let c = retrieve_secret room in
      both (not (is_in_state m st.ConfirmedSse)) (Did s c m) (λ _. did_refused s c _ S)
      (λ sse. both (ltb room 16) (Did s c m) (λ _. did_refused s c _ S)
      (λ _. let out = other_state m (not-false (is_in_state m st.ConfirmedSse) sse) in outside S refl out out (silent refl refl refl)))

  did_terminate : (room : ℕ) {m : Model} → HasForm s m → let c = terminate room in Did s c m (call_effect s m c)
  did_terminate room {m} S =
      let c = terminate room in
      both (is_short_buffer room) (Did s c m) (λ _. did_refused s c _ S)
      (λ _. both (not (is_in_state m st.ConfirmedSse || is_in_state m st.ConfirmedSch)) (Did s c m) (λ _. did_refused s c _ S)
      (λ _. did_ended s c conf.Terminated _ _ refl S))

  did_release : {m : Model} → HasForm s m → Did s release m (call_effect s m release)
  did_release {m} S = did_ended s release _ _ _ (both (is_in_state m st.Idle) (λ k. eqb (confirmation_number k) 1 ≡ false) (λ _. refl) (λ _. refl)) S

  did_frame : IsLawful s → (bytes : List ℕ) (beside : Ancillary) (room : ℕ) → IsBytes bytes × IsBytes beside.seed → {m : Model} → HasForm s m → let c = frame bytes beside room in Did s c m (call_effect s m c)
  did_frame law bytes beside room given {m} S =
      let c = frame bytes beside room in
      both (is_short_buffer room) (Did s c m) (λ _. did_refused s c _ S)
      (λ _. both (is_wrong_seed beside.seed) (Did s c m) (λ _. did_refused s c _ S)
      (λ long. did_received s law bytes beside room (first_byte bytes) (given.0, sixteen beside.seed long given.1) (reading bytes) refl S))

pub did : (s : Scheme) → IsLawful s → (c : Call) → IsGivenBytes c → {m : Model} → HasForm s m → Did s c m (call_effect s m c)
did s law (invoke service pid seed room) given S = did_invoke s service pid seed room given S
did s law (send plain room) given S = did_send s plain room given S
did s law (retrieve_data room) given S = did_data s room S
did s law (retrieve_secret room) given S = did_secret s room S
did s law (terminate room) given S = did_terminate s room S
did s law (frame bytes beside room) given S = did_frame s law bytes beside room given S
did s law release given S = did_release s S
