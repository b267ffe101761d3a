-- Every call ends as it should.
use Rattle.std.proofs.Common.{◌≡◌, ℕ, Bool, true, false, cond, not, eqb, List, [], length, Some, None, Ok, Err, Result, refl, ap, arith}
use Rattle.std.proofs.lemmas.Bool.{cond_both, eqb-true}
use Rattle.std.proofs.lemmas.Grind.{common_steps}
use Rattle.frame.specs.declared.types.Service.{Service}
use Rattle.frame.specs.declared.faults.CodecFault.{CodecFault}
use Rattle.frame.specs.Frames.{Contents, act_req, act_res, vfy_req, vfy_res, enc, tmn, error, FrameParts}
use Rattle.frame.specs.Reading.{reading}
use Rattle.suite.specs.Meanings.{Meaning, keyring_of, IsFormed, HasDistinctSerials, is_live}
use Rattle.suite.proofs.KeyLaws.{taken_away, live-keys_without, apart-keys_without, none_zero}
use Rattle.suite.specs.Schemes.{Scheme}
use Rattle.suite.specs.Calls.{is_wrong_seed, is_short_buffer}
use Rattle.protocol.specs.declared.states.State.{State}
use Rattle.protocol.specs.declared.states.State.TheVariants as st
use Rattle.protocol.specs.declared.outcomes.Outcome.{Outcome}
use Rattle.protocol.specs.declared.outcomes.Confirmation.{Confirmation}
use Rattle.protocol.specs.declared.outcomes.Confirmation.TheVariants as conf
use Rattle.protocol.specs.declared.faults.Cause.{Cause}
use Rattle.protocol.specs.declared.faults.Cause.TheVariants.{Codec, NotAllowed, OtherService}
use Rattle.protocol.specs.declared.refusals.Refusal.{Refusal}
use Rattle.protocol.specs.declared.refusals.Refusal.TheVariants as no
use Rattle.protocol.specs.declared.faults.Fault.{Fault}
use Rattle.protocol.specs.declared.faults.MachineFault.{MachineFault}
use Rattle.protocol.specs.Numbers.{cause_code}
use Rattle.protocol.specs.Models.{Model, Ancillary, without_key, idle_model, session_keys}
use Rattle.protocol.specs.Steps.{Step, frame_bytes, fault_effect, end_effect, is_same_service, session_effect, on_act_req, on_act_res, on_vfy_req, on_vfy_res, on_enc, message_effect, reading_effect}
use Rattle.protocol.specs.Calls.{Call, refusal_effect, error_effect, effect_of_answer, error_service, error_payload, invoke, send, retrieve_data, retrieve_secret, terminate, frame, release, CallEffect, invoke_effect, send_effect, retrieve_data_effect, retrieve_secret_effect, terminate_effect, release_effect, admitted_effect, first_byte, admission, frame_effect, call_effect}
use Rattle.protocol.specs.Ends.{CallEnds, EveryCallEnds}

-- by the cases of a test
both : {A : Type 0} (b : Bool) (P : A → Type 0) {x y : A} → (b ≡ true → P x) → (b ≡ false → P y) → P (cond b x y)
both b P {x} {y} f g = cond_both b x y P f g

refused-ends : (m : Model) (r : Refusal) → CallEnds m (refusal_effect m r)
refused-ends m r = record { refused = λ q e. (refl, refl); length = λ o e. absurd (cc); faulty = λ o f e q. absurd (cc) }

-- Keys that are destroyed are live no more.

none_left : (m : Meaning) (key n : ℕ) → is_live m.live n ≡ false → is_live (without_key m key).live n ≡ false
none_left m key n h = both (eqb key 0) (λ (z : Meaning). is_live z.live n ≡ false) (λ _. h) (λ _. live-keys_without m.live key n h)

apart_left : (m : Meaning) (key : ℕ) → HasDistinctSerials m.live → HasDistinctSerials (without_key m key).live
apart_left m key a = both (eqb key 0) (λ (z : Meaning). HasDistinctSerials z.live) (λ _. a) (λ _. apart-keys_without m.live key a)

key_gone : (m : Meaning) (key : ℕ) → HasDistinctSerials m.live → is_live m.live 0 ≡ false → is_live (without_key m key).live key ≡ false
key_gone m key a z =
    both (eqb key 0) (λ (w : Meaning). is_live w.live key ≡ false)
    (λ e. let same : key ≡ 0 = eqb-true key 0 e in rw same z)
    (λ _. taken_away m.live key a)

keys_gone : (m : Model) → IsFormed (keyring_of m.means) → (is_live (idle_model m).means.live m.link ≡ false) × (is_live (idle_model m).means.live m.secret ≡ false)
keys_gone m f =
    let zero = none_zero m.means.live m.means.newest f.serials in
    let first = without_key m.means m.link in (
      none_left first m.secret m.link (key_gone m.means m.link f.apart zero),
      key_gone first m.secret (apart_left m.means m.link f.apart) (none_left m.means m.link 0 zero),
    )

error_effect-ends : (m : Model) (sep : ℕ) (f : MachineFault) → CallEnds m (error_effect m sep f)
error_effect-ends m sep f = record {
  refused = λ r e. absurd (cc);
  length = λ o e. grind (arith, common_steps);
  faulty = λ o g e q. record {
    confirmation = confirms o e;
    idle = refl;
    cleared = record { seed = refl; number = refl; held = refl; secret = refl; link = refl };
    destroyed = destroys o e;
    gone = keys_gone m;
    reply = (error_service m.service sep f.state, ap (λ x. frame_bytes (error_service m.service sep f.state) (error (error_payload (cause_code x.cause)))) (same o g e q));
  };
}
  where
    confirms : (o : Outcome) → (error_effect m sep f).answer ≡ Ok o → o.confirmation ≡ conf.Error
    confirms o e = grind (arith, common_steps)

    destroys : (o : Outcome) → (error_effect m sep f).answer ≡ Ok o → o.destroyed ≡ session_keys m
    destroys o e = grind (arith, common_steps)

    same : (o : Outcome) (g : Fault) → (error_effect m sep f).answer ≡ Ok o → o.fault ≡ Some g → f ≡ g.machine
    same o g e q = grind (arith, common_steps)

-- a call that meets no fault
faultless : (m : Model) (t : CallEffect) → ((r : Refusal) → t.answer ≡ Err r → (t.model ≡ m) × (t.reply ≡ []))
    → ((o : Outcome) → t.answer ≡ Ok o → (o.length ≡ length t.reply) × (o.fault ≡ None)) → CallEnds m t
faultless m t refuses answers = record {
  refused = refuses;
  length = λ o e. (answers o e).0;
  faulty = λ o f e q. absurd (no_fault o f (answers o e).1 q);
}
  where
    no_fault : (o : Outcome) (f : Fault) → o.fault ≡ None → o.fault ≡ Some f → ⊥
    no_fault o f e q = cc

invoke-ends : (s : Scheme) (m : Model) (service : Service) (pid : ℕ) (seed : List ℕ) (room : ℕ) → CallEnds m (invoke_effect s m service pid seed room)
invoke-ends s m service pid seed room = faultless m (invoke_effect s m service pid seed room) (λ r e. grind (arith, common_steps)) (λ o e. grind (arith, common_steps))

send-ends : (s : Scheme) (m : Model) (plain : List ℕ) (room : ℕ) → CallEnds m (send_effect s m plain room)
send-ends s m plain room = faultless m (send_effect s m plain room) (λ r e. grind (arith, common_steps)) (λ o e. grind (arith, common_steps))

data-ends : (m : Model) (room : ℕ) → CallEnds m (retrieve_data_effect m room)
data-ends m room = faultless m (retrieve_data_effect m room) (λ r e. grind (arith, common_steps)) (λ o e. grind (arith, common_steps))

secret-ends : (m : Model) (room : ℕ) → CallEnds m (retrieve_secret_effect m room)
secret-ends m room = faultless m (retrieve_secret_effect m room) (λ r e. grind (arith, common_steps)) (λ o e. grind (arith, common_steps))

terminate-ends : (m : Model) (room : ℕ) → CallEnds m (terminate_effect m room)
terminate-ends m room = faultless m (terminate_effect m room) (λ r e. grind (arith, common_steps)) (λ o e. grind (arith, common_steps))

release-ends : (m : Model) → CallEnds m (release_effect m)
release-ends m = faultless m (release_effect m) (λ r e. grind (arith, common_steps)) (λ o e. grind (arith, common_steps))

-- what a message is answered without a fault tells its length

abbrev Tells : Step → Type 0
Tells step = (o : Outcome) → step.answer ≡ Ok o → (o.length ≡ length step.reply) × (o.fault ≡ None)

act_req_call-tells : (s : Scheme) (m : Model) (service : Service) (pid : ℕ) (offer seed : List ℕ) → Tells (on_act_req s m service pid offer seed)
act_req_call-tells s m service pid offer seed = λ o e. grind (arith, common_steps)

act_res_call-tells : (s : Scheme) (m : Model) (offer : List ℕ) → Tells (on_act_res s m offer)
act_res_call-tells s m offer = λ o e. grind (arith, common_steps)

vfy_req_call-tells : (s : Scheme) (m : Model) (payload : List ℕ) → Tells (on_vfy_req s m payload)
vfy_req_call-tells s m payload = λ o e. grind (arith, common_steps)

vfy_res_call-tells : (s : Scheme) (m : Model) (payload : List ℕ) → Tells (on_vfy_res s m payload)
vfy_res_call-tells s m payload = λ o e. grind (arith, common_steps)

enc-tells : (s : Scheme) (m : Model) (payload : List ℕ) → Tells (on_enc s m payload)
enc-tells s m payload = λ o e. grind (arith, common_steps)

session-tells : (m : Model) (service : Service) (step : Step) → Tells step → Tells (session_effect m service step)
session-tells m service step h o e = chosen (not (is_same_service service m.service)) e
  where
    chosen : (b : Bool) → (cond b (fault_effect m OtherService) step).answer ≡ Ok o → (o.length ≡ length (cond b (fault_effect m OtherService) step).reply) × (o.fault ≡ None)
    chosen true q = absurd (cc)
    chosen false q = h o q

ended-tells : (m : Model) (confirmation : Confirmation) → Tells (end_effect m confirmation)
ended-tells m confirmation o e = grind (arith, common_steps)

fault_effect-tells : (m : Model) (cause : Cause) → Tells (fault_effect m cause)
fault_effect-tells m cause o e = absurd (cc)

state-tells : (s : Scheme) (m : Model) (a : Ancillary) (service : Service) (state : State) (contents : Contents) → Tells (message_effect s m a service state contents)
state-tells s m a service state (error p) = ended-tells m conf.Error
state-tells s m a service st.Idle (act_req pid offer) = act_req_call-tells s m service pid offer a.seed
state-tells s m a service st.Select (act_res offer) = session-tells m service (on_act_res s m offer) (act_res_call-tells s m offer)
state-tells s m a service st.EstablishedSender (vfy_res check) = session-tells m service (on_vfy_res s m check) (vfy_res_call-tells s m check)
state-tells s m a service st.EstablishedRecipient (vfy_req check) = session-tells m service (on_vfy_req s m check) (vfy_req_call-tells s m check)
state-tells s m a service st.ConfirmedSse (tmn p) = session-tells m service (end_effect m conf.Terminated) (ended-tells m conf.Terminated)
state-tells s m a service st.ConfirmedSch (tmn p) = session-tells m service (end_effect m conf.Terminated) (ended-tells m conf.Terminated)
state-tells s m a service st.ConfirmedSch (enc payload) = session-tells m service (on_enc s m payload) (enc-tells s m payload)
state-tells s m a service state contents = fault_effect-tells m NotAllowed

heard-tells : (s : Scheme) (m : Model) (a : Ancillary) (h : Result FrameParts CodecFault) → Tells (reading_effect s m a h)
heard-tells s m a (Ok p) = state-tells s m a p.service m.state p.contents
heard-tells s m a (Err f) = fault_effect-tells m (Codec f)

-- a step, with its fault answered by an ERROR
effect_of_answer-ends : (m : Model) (sep : ℕ) (step : Step) (answer : Result Outcome MachineFault)
    → ((o : Outcome) → answer ≡ Ok o → (o.length ≡ length step.reply) × (o.fault ≡ None)) → CallEnds m (effect_of_answer m sep step answer)
effect_of_answer-ends m sep step (Ok o) h = faultless m (effect_of_answer m sep step (Ok o)) (λ r e. absurd (cc)) (λ p e. same p o (h o refl) e)
  where
    same : (p q : Outcome) → (q.length ≡ length step.reply) × (q.fault ≡ None) → ◌≡◌ {A = Result Outcome Refusal} (Ok q) (Ok p) → (p.length ≡ length step.reply) × (p.fault ≡ None)
    same p q k e = (grind (arith, common_steps), grind (arith, common_steps))
effect_of_answer-ends m sep step (Err f) h = error_effect-ends m sep f

taken-ends : (s : Scheme) (m : Model) (a : Ancillary) (sep : ℕ) (h : Result (Result FrameParts CodecFault) Refusal) → CallEnds m (admitted_effect s m a sep h)
taken-ends s m a sep (Ok h) = let step = reading_effect s m a h in effect_of_answer-ends m sep step step.answer (heard-tells s m a h)
taken-ends s m a sep (Err r) = refused-ends m r

frame-ends : (s : Scheme) (m : Model) (bytes : List ℕ) (a : Ancillary) (room : ℕ) → CallEnds m (frame_effect s m bytes a room)
frame-ends s m bytes a room = chosen (is_short_buffer room) (is_wrong_seed a.seed)
  where
    chosen : (b d : Bool) → CallEnds m (cond b (refusal_effect m no.ReplyBuffer) (cond d (refusal_effect m no.SeedLength) (admitted_effect s m a (first_byte bytes) (admission m (reading bytes)))))
    chosen true d = refused-ends m no.ReplyBuffer
    chosen false true = refused-ends m no.SeedLength
    chosen false false = taken-ends s m a (first_byte bytes) (admission m (reading bytes))

ends : (s : Scheme) (m : Model) (c : Call) → CallEnds m (call_effect s m c)
ends s m (invoke service pid seed room) = invoke-ends s m service pid seed room
ends s m (send plain room) = send-ends s m plain room
ends s m (retrieve_data room) = data-ends m room
ends s m (retrieve_secret room) = secret-ends m room
ends s m (terminate room) = terminate-ends m room
ends s m (frame bytes a room) = frame-ends s m bytes a room
ends s m release = release-ends m

pub every_call_ends : (s : Scheme) → EveryCallEnds s
every_call_ends s m c = ends s m c
