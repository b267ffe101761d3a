-- What a frame does in each state is one of the things that a call may do.
use Rattle.std.proofs.Common.{◌≡◌, ℕ, ◌+◌, ◌*◌, ◌≤◌, Bool, true, false, cond, not, ◌&&◌, ◌||◌, eqb, ltb, List, [], ◌∷◌, length, Some, None, Ok, Err, Option, Result, sym, refl, ap, ◌∙◌, subst, arith}
use Rattle.std.proofs.lemmas.Bool.{ne_eqb, ltb-false, eqb-true, or_parts, and_parts, not-false, not-true}
use Rattle.frame.specs.declared.types.Service.{Service}
use Rattle.frame.specs.declared.types.Service.TheVariants.{Sse, Sch}
use Rattle.frame.specs.Numbers.{service_code}
use Rattle.frame.specs.Frames.{Contents, act_req, act_res, vfy_req, vfy_res, enc, tmn, error}
use Rattle.frame.specs.Reading.{Reading, message, refused as unread, fault, reading}
use Rattle.suite.specs.declared.limits.TheConstants.{MAX_DATA}
use Rattle.suite.specs.declared.types.Role.{Role}
use Rattle.suite.specs.declared.types.Role.TheVariants.{Sender, Recipient}
use Rattle.suite.specs.declared.types.KeyKind.TheVariants.{SharedSecret, LinkKey}
use Rattle.suite.specs.Numbers.{role_byte}
use Rattle.suite.specs.Meanings.{IsBytes, IsBytes16, keyring_of, value_in, value_of}
use Rattle.suite.proofs.CallLaws.{role_ok}
use Rattle.suite.proofs.KeyLaws.{value_is}
use Rattle.suite.specs.Schemes.{Scheme, IsLawful}
use Rattle.suite.specs.Calls.{is_spent}
use Rattle.protocol.specs.declared.states.State.{State}
use Rattle.protocol.specs.declared.states.State.TheVariants as st
use Rattle.protocol.specs.declared.outcomes.Confirmation.TheVariants as conf
use Rattle.protocol.specs.declared.refusals.Refusal.TheVariants as no
use Rattle.protocol.specs.declared.faults.SuiteFault.{SuiteFault}
use Rattle.protocol.specs.declared.faults.SuiteFault.TheVariants.{BadOffer, NoKey}
use Rattle.protocol.specs.declared.faults.Cause.{Cause}
use Rattle.protocol.specs.declared.faults.Cause.TheVariants.{Suite}
use Rattle.protocol.specs.Models.{Model, Ancillary, link_value}
use Rattle.protocol.specs.Steps.{Step, fault_effect, effect_or_fault, ongoing_effect, agreement, derivation, verification, good_record, opened_record, is_empty, is_record_length, sequence_check, is_same_service, session_effect, on_act_req, on_act_res, on_vfy_req, on_vfy_res, on_enc, record_effect, link_start, service_start, check_value, message_effect, frame_bytes}
use Rattle.protocol.specs.Calls.{Call, frame, effect_of_step, is_blocked, admission, admitted_effect}
use Rattle.histories.specs.Histories.{serial_list}
use Rattle.histories.specs.Sessions.{IsMember, GetsCopy, IsCopyIfEnc}
use Rattle.promises.proofs.Cases.{both, clash}
use Rattle.promises.proofs.Forms.{Base, One, Two, none_live, one_live, two_live, passes, made_one, secret_there, made_two}
use Rattle.promises.proofs.Ledgers.{takes, other}
use Rattle.promises.proofs.Payloads.{read_is, fields_bytes}
use Rattle.promises.proofs.EntityForms.{unlinked, in_link, SecretOnly, HasForm, at_idle, at_select, at_secret, at_sch, Did, outside, inside, agrees, links}
use Rattle.promises.proofs.Turns.{silent, unmoved, not_linked, did_refused, did_ended}

-- what follows where the suite finds no fault, by cases
each : {A : Type 0} (P : Step → Type 0) (m : Model) (r : Result A SuiteFault) (f : A → Step) → ((e : SuiteFault) → P (fault_effect m (Suite e))) → ((x : A) → r ≡ Ok x → P (f x)) → P (effect_or_fault m r f)
each P m (Ok x) f g h = h x refl
each P m (Err e) f g h = g e

good_is : (o : Option (ℕ × ℕ × List ℕ)) (t : ℕ × ℕ × List ℕ) → good_record o ≡ Ok t → o ≡ Some t
good_is (Some u) t e = let same : u ≡ t = cc in ap Some same
good_is None t e = absurd (cc)

-- the next serial is told
next_listed : (n : ℕ) → serial_list (n + 1) ≡ (n + 1) ∷ []
next_listed n = let e : eqb (n + 1) 0 ≡ false = ne_eqb (n + 1) 0 (λ x. omega arith) in rw e

module _ (s : Scheme) (law : IsLawful s) {root : List ℕ} {last : ℕ} where
  -- where the suite agrees it has a shared secret
  agreed_one : {newest : ℕ} (offer seed : List ℕ) (role : Role) (value : List ℕ) → Base root last newest → IsBytes16 seed → IsBytes offer
      → agreement s (none_live root last newest) seed offer role ≡ Ok value → One root last (newest + 1) value
  agreed_one {newest} offer seed role value base sb ob q =
      let means = none_live root last newest in
      let k = keyring_of means in
      let made : Result (List ℕ) SuiteFault = Ok (s.secret_of k (role_byte role) seed offer) in
      let first = passes (not (s.fit_of k offer)) BadOffer (cond (is_spent means) (Err NoKey) made) value q in
      let second = passes (is_spent means) NoKey made value first.1 in
      let same : s.secret_of k (role_byte role) seed offer ≡ value = cc (second.1) in
      subst (One root last (newest + 1)) same (made_one s law root last newest seed offer (role_byte role) base sb ob (role_ok role) (not-false (s.fit_of k offer) first.0) second.0)

  -- where it derives it has a link key too
  derived_two : (n : ℕ) (v value : List ℕ) → One root last n v
      → derivation s (one_live root last n v) n ≡ Ok value → Two root last n v value
  derived_two n v value one q =
      let means = one_live root last n v in
      let made : List ℕ → Result (List ℕ) SuiteFault = λ x. Ok (s.link_of (keyring_of means) n x) in
      let first = passes (is_spent means) NoKey (made (value_of means.live SharedSecret n)) value q in
      let same : s.link_of (keyring_of means) n v ≡ value = cc (first.1, value_is means.live SharedSecret n v (secret_there n v [])) in
      subst (Two root last n v) same (made_two s law root last n v one first.0)

module _ (s : Scheme) (law : IsLawful s) (c : Call) (sep : ℕ) where
  -- a step does what a call may do
  abbrev Does : Model → Step → Type 0
  Does m step = Did s c m (effect_of_step m sep step)

  does_fail : (cause : Cause) {m : Model} → HasForm s m → Does m (fault_effect m cause)
  does_fail cause S = did_ended s c conf.Error _ _ refl S

  does_in_session : (service : Service) (step : Step) {m : Model} → HasForm s m → (is_same_service service m.service ≡ true → Does m step) → Does m (session_effect m service step)
  does_in_session service step {m} S f =
      both (not (is_same_service service m.service)) (Does m) (λ _. does_fail _ S) (λ e. f (not-false (is_same_service service m.service) e))

  -- Idle and Select
  module _ {root : List ℕ} {last newest : ℕ} {kept : Service} {role : Role} {old : List ℕ} {number : ℕ} (base : Base root last newest) where
    does_act_req : (service : Service) (pid : ℕ) (offer seed : List ℕ) → IsBytes16 seed → IsBytes offer → let m = unlinked (none_live root last newest) st.Idle kept role old number 0 in Does m (on_act_req s m service pid offer seed)
    does_act_req service pid offer seed sb ob =
        let m = unlinked (none_live root last newest) st.Idle kept role old number 0 in
        let S : HasForm s m = at_idle base in
        both (not (eqb pid s.pid)) (Does m) (λ _. does_fail _ S)
        (λ _. each (Does m) m (agreement s m.means seed offer Recipient) _ (λ e. does_fail _ S)
        (λ value q.
        let one = agreed_one s law offer seed Recipient value base sb ob q in
        agrees (at_secret st.EstablishedRecipient (record { low = omega arith; high = omega arith }) one) refl refl (record { newest = refl; live = refl; makes = next_listed newest; destroys = refl }) refl))

    does_act_res : (offer : List ℕ) → IsBytes16 old → IsBytes offer → let m = unlinked (none_live root last newest) st.Select kept role old number 0 in Does m (on_act_res s m offer)
    does_act_res offer long ob =
        let m = unlinked (none_live root last newest) st.Select kept role old number 0 in
        each (Does m) m (agreement s m.means old offer Sender) _ (λ e. does_fail _ (at_select base long))
        (λ value q.
        let one = agreed_one s law offer old Sender value base long ob q in
        agrees (at_secret st.EstablishedSender (record { low = omega arith; high = omega arith }) one) refl refl (record { newest = refl; live = refl; makes = next_listed newest; destroys = refl }) refl)

  -- Established
  module _ (state : State) (k : SecretOnly state) {root : List ℕ} {last : ℕ} {role : Role} {seed : List ℕ} {number : ℕ} (n : ℕ) (v : List ℕ) (one : One root last n v) where
    does_link : (reply : List ℕ) (r : Result (List ℕ) SuiteFault) → let m = unlinked (one_live root last n v) state Sch role seed number n in derivation s m.means m.secret ≡ r → Does m (effect_or_fault m (link_start s m r) (λ x. ongoing_effect x.0 conf.Established x.1 reply))
    does_link reply (Err e) q = does_fail _ (at_secret state k one)
    does_link reply (Ok value) q =
        let m = unlinked (one_live root last n v) state Sch role seed number n in
        let lo : s.first ≤ s.first = omega arith in
        let below = law.first_below in
        let hi : s.first ≤ s.final = omega arith in
        links (at_sch (derived_two s law n v value one q) lo hi) (not_linked k) refl (record { newest = refl; live = refl; makes = next_listed n; destroys = refl }) refl refl refl refl

    does_confirm : (to : Service) (reply : List ℕ) → let m = unlinked (one_live root last n v) state to role seed number n in Does m (effect_or_fault m (service_start s m to) (λ x. ongoing_effect x.0 conf.Established x.1 reply))
    does_confirm Sse reply = outside (at_secret st.ConfirmedSse (record { low = omega arith; high = omega arith }) one) refl (not_linked k) refl (silent refl refl refl)
    does_confirm Sch reply = does_link reply _ refl

    does_vfy_res : (service : Service) (check : List ℕ) → let m = unlinked (one_live root last n v) state service role seed number n in Does m (on_vfy_res s m check)
    does_vfy_res service check =
        let m = unlinked (one_live root last n v) state service role seed number n in
        each (Does m) m (verification s m Recipient check) _ (λ e. does_fail _ (at_secret state k one))
        (λ _ _. does_confirm service [])

    does_vfy_req : (service : Service) (check : List ℕ) → let m = unlinked (one_live root last n v) state service role seed number n in Does m (on_vfy_req s m check)
    does_vfy_req service check =
        let m = unlinked (one_live root last n v) state service role seed number n in
        each (Does m) m (verification s m Sender check) _ (λ e. does_fail _ (at_secret state k one))
        (λ _ _. does_confirm service (frame_bytes service (vfy_res (check_value s m Recipient))))

-- a record in Confirmed_SCH with nothing held; copy: it came in the frame with SEP 14 and this payload
module _ (s : Scheme) (law : IsLawful s) (bytes : List ℕ) (beside : Ancillary) (room sep : ℕ) {root : List ℕ} {last n : ℕ} {v w : List ℕ} (role : Role) (old : List ℕ) {number : ℕ} (two : Two root last n v w) (lo : s.first ≤ number) (hi : number ≤ s.final) (payload : List ℕ) (copy : (copies : List (List ℕ)) → GetsCopy copies (frame bytes beside room) → IsMember (0x14 ∷ payload) copies) where
  abbrev Takes : Step → Type 0
  Takes step = Does s law (frame bytes beside room) sep (in_link (two_live root last n v w) role old number [] n) step

  does_enter : (who num : ℕ) (plain : List ℕ) → let m = in_link (two_live root last n v w) role old number [] n in ((x : List ℕ) → value_in m.means.live LinkKey m.link ≡ Some x → s.open_of (keyring_of m.means) (n + 1) x payload ≡ Some (who, num, plain)) → Takes (record_effect m plain (sequence_check s m (who, num, length plain)))
  does_enter who num plain opens =
      let m = in_link (two_live root last n v w) role old number [] n in
      let S : HasForm s m = at_sch two lo hi in
      let P : Result Bool Cause → Type 0 = λ r. Takes (record_effect m plain r) in
      let bad = λ (cause : Cause). does_fail s law (frame bytes beside room) sep cause S in
      both (not (is_record_length (length plain))) P (λ _. bad _)
      (λ long. both (eqb num number) P (λ _. inside S refl refl refl refl refl (silent refl refl refl) (unmoved number) (λ x e. other refl refl refl))
      (λ _. both (eqb who (role_byte role)) P (λ _. bad _)
      (λ theirs. both (not (eqb num (number + 1)) || ltb s.final num) P (λ _. bad _)
      (λ e.
      let full = and_parts (not (is_empty plain)) (not (ltb MAX_DATA (length plain))) (not-false (is_record_length (length plain)) long) in
      let parts = or_parts (not (eqb num (number + 1))) (ltb s.final num) e in
      let same : num ≡ number + 1 = eqb-true num (number + 1) (not-false (eqb num (number + 1)) parts.0) in
      let below : num ≤ s.final = ltb-false s.final num parts.1 in
      let lo' : s.first ≤ number + 1 = omega arith in
      let hi' : number + 1 ≤ s.final = omega arith in
      let up : number + 1 ≡ (number + 0) + 1 = omega arith in
      inside (at_sch two lo' hi') refl refl refl refl refl (silent refl refl refl) up
      (λ x q. takes who payload plain refl refl refl copy (opens x q ∙ ap (λ z. Some (who, z, plain)) same) theirs (not-true (is_empty plain) full.0))))))

  does_enc : let m = in_link (two_live root last n v w) role old number [] n in Takes (on_enc s m payload)
  does_enc =
      let m = in_link (two_live root last n v w) role old number [] n in
      each Takes m (opened_record s m payload) _ (λ e. does_fail s law (frame bytes beside room) sep _ (at_sch two lo hi))
      (λ t q. does_enter t.0 t.1 t.2 (λ x e. ap (λ y. s.open_of (keyring_of m.means) m.link y payload) (sym (value_is m.means.live LinkKey m.link x e)) ∙ good_is (s.open_of (keyring_of m.means) m.link (link_value m) payload) t q))

module _ (s : Scheme) (law : IsLawful s) (bytes : List ℕ) (beside : Ancillary) (room sep : ℕ) (given : IsBytes bytes × IsBytes16 beside.seed) (service : Service) where
  abbrev Receives : Model → Contents → Type 0
  Receives m contents = Does s law (frame bytes beside room) sep m (message_effect s m beside service m.state contents)

  abbrev Read : Contents → Type 0
  Read contents = reading bytes ≡ message (record { service = service; contents = contents })

  receives_idle : (contents : Contents) → Read contents → {root : List ℕ} {last newest : ℕ} {kept : Service} {role : Role} {old : List ℕ} {number : ℕ} → Base root last newest → Receives (unlinked (none_live root last newest) st.Idle kept role old number 0) contents
  receives_idle (error p) r base = did_ended s _ conf.Error _ _ refl (at_idle base)
  receives_idle (act_req pid offer) r base = does_act_req s law _ sep base service pid offer beside.seed given.1 (fields_bytes bytes _ r given.0).1
  receives_idle contents r base = does_fail s law _ sep _ (at_idle base)

  receives_select : (contents : Contents) → Read contents → {root : List ℕ} {last newest : ℕ} {kept : Service} {role : Role} {old : List ℕ} {number : ℕ} → Base root last newest → IsBytes16 old → Receives (unlinked (none_live root last newest) st.Select kept role old number 0) contents
  receives_select (error p) r base long = did_ended s _ conf.Error _ _ refl (at_select base long)
  receives_select (act_res offer) r base long = does_in_session s law _ sep service _ (at_select base long) (λ _. does_act_res s law _ sep base offer long (fields_bytes bytes _ r given.0))
  receives_select contents r base long = does_fail s law _ sep _ (at_select base long)

  module _ {root : List ℕ} {last n : ℕ} {v : List ℕ} {kept : Service} {role : Role} {old : List ℕ} {number : ℕ} (one : One root last n v) where
    receives_sender : (k : SecretOnly st.EstablishedSender) (contents : Contents) → Receives (unlinked (one_live root last n v) st.EstablishedSender kept role old number n) contents
    receives_sender k (error p) = did_ended s _ conf.Error _ _ refl (at_secret _ k one)
    receives_sender k (vfy_res check) = does_in_session s law _ sep service _ (at_secret _ k one) (λ _. does_vfy_res s law _ sep _ k n v one _ check)
    receives_sender k contents = does_fail s law _ sep _ (at_secret _ k one)

    receives_recipient : (k : SecretOnly st.EstablishedRecipient) (contents : Contents) → Receives (unlinked (one_live root last n v) st.EstablishedRecipient kept role old number n) contents
    receives_recipient k (error p) = did_ended s _ conf.Error _ _ refl (at_secret _ k one)
    receives_recipient k (vfy_req check) = does_in_session s law _ sep service _ (at_secret _ k one) (λ _. does_vfy_req s law _ sep _ k n v one _ check)
    receives_recipient k contents = does_fail s law _ sep _ (at_secret _ k one)

    receives_sse : (k : SecretOnly st.ConfirmedSse) (contents : Contents) → Receives (unlinked (one_live root last n v) st.ConfirmedSse kept role old number n) contents
    receives_sse k (error p) = did_ended s _ conf.Error _ _ refl (at_secret _ k one)
    receives_sse k (tmn p) = does_in_session s law _ sep service _ (at_secret _ k one) (λ _. did_ended s _ conf.Terminated _ _ refl (at_secret _ k one))
    receives_sse k contents = does_fail s law _ sep _ (at_secret _ k one)

    receives_secret : (state : State) → SecretOnly state → (contents : Contents) → Receives (unlinked (one_live root last n v) state kept role old number n) contents
    receives_secret st.Idle k contents = absurd (omega arith)
    receives_secret st.Select k contents = absurd (omega arith)
    receives_secret st.EstablishedSender k contents = receives_sender k contents
    receives_secret st.EstablishedRecipient k contents = receives_recipient k contents
    receives_secret st.ConfirmedSse k contents = receives_sse k contents
    receives_secret st.ConfirmedSch k contents = absurd (omega arith)

  -- the bytes of a record of a link session
  record_bytes : (payload : List ℕ) → Read (enc payload) → is_same_service service Sch ≡ true → 0x14 ∷ payload ≡ bytes
  record_bytes payload r same =
      let code : service_code service ≡ 1 = eqb-true (service_code service) 1 same in
      ap (λ k. (k * 16 + 4) ∷ payload) (sym code) ∙ read_is bytes _ r

  -- a record is taken where nothing is held; of the other service it is a fault
  receives_enc : (payload : List ℕ) → Read (enc payload) → {root : List ℕ} {last n : ℕ} {v w : List ℕ} {role : Role} {old : List ℕ} {number : ℕ} (held : List ℕ) → Two root last n v w → s.first ≤ number → number ≤ s.final
      → let m = in_link (two_live root last n v w) role old number held n in is_blocked m (record { service = service; contents = enc payload }) ≡ false → Receives m (enc payload)
  receives_enc payload r (x ∷ held) two lo hi free =
      does_in_session s law _ sep service _ (at_sch two lo hi)
      (λ same.
      let some : eqb (length (x ∷ held)) 0 ≡ false = ne_eqb (length (x ∷ held)) 0 (λ e. omega arith) in
      let full : (is_same_service service Sch && not (is_empty (x ∷ held))) ≡ true = rw (same, some) in
      clash _ free full)
  receives_enc payload r {role} {old} [] two lo hi free =
      does_in_session s law _ sep service _ (at_sch two lo hi)
      (λ same. does_enc s law bytes beside room sep role old two lo hi payload (λ copies f. subst (IsCopyIfEnc copies) (sym (record_bytes payload r same)) f refl))

  receives_link : (contents : Contents) → Read contents → {root : List ℕ} {last n : ℕ} {v w : List ℕ} {role : Role} {old : List ℕ} {number : ℕ} (held : List ℕ) → Two root last n v w → s.first ≤ number → number ≤ s.final
      → let m = in_link (two_live root last n v w) role old number held n in is_blocked m (record { service = service; contents = contents }) ≡ false → Receives m contents
  receives_link (error p) r held two lo hi free = did_ended s _ conf.Error _ _ refl (at_sch two lo hi)
  receives_link (tmn p) r held two lo hi free = does_in_session s law _ sep service _ (at_sch two lo hi) (λ _. did_ended s _ conf.Terminated _ _ refl (at_sch two lo hi))
  receives_link (enc payload) r held two lo hi free = receives_enc payload r held two lo hi free
  receives_link contents r held two lo hi free = does_fail s law _ sep _ (at_sch two lo hi)

  receives : (contents : Contents) → Read contents → {m : Model} → HasForm s m → is_blocked m (record { service = service; contents = contents }) ≡ false → Receives m contents
  receives contents r (at_idle base) free = receives_idle contents r base
  receives contents r (at_select base long) free = receives_select contents r base long
  receives contents r (at_secret state k one) free = receives_secret one state k contents
  receives contents r (at_sch {held} two lo hi) free = receives_link contents r held two lo hi free

-- a frame that was read, or not
pub did_received : (s : Scheme) → IsLawful s → (bytes : List ℕ) (beside : Ancillary) (room sep : ℕ) → IsBytes bytes × IsBytes16 beside.seed → (r : Reading) → reading bytes ≡ r → {m : Model} → HasForm s m → Did s (frame bytes beside room) m (admitted_effect s m beside sep (admission m r))
did_received s law bytes beside room sep given (unread number) e S = did_refused s _ no.FrameLength S
did_received s law bytes beside room sep given (fault code) e S = does_fail s law _ sep _ S
did_received s law bytes beside room sep given (message p) e {m} S =
    both (is_blocked m p) (λ a. Did s (frame bytes beside room) m (admitted_effect s m beside sep a))
    (λ _. did_refused s _ no.DataHeld S)
    (λ free. receives s law bytes beside room sep given p.service p.contents e S free)
