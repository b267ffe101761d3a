-- What a message does in each state.
use Rattle.std.specs.Prelude.{◌≡◌, ℕ, ◌+◌, ◌≤◌, Bool, true, false, cond, not, ◌&&◌, ◌||◌, List, [], length, Some, None, Ok, Err, Option, Result, IfOk, IfErr, ◌==◌, nat_lt}
use Rattle.std.specs.Str.{bytes_eq}
use Rattle.buffers.specs.declared.limits.TheConstants.{MAX_FRAME}
use Rattle.buffers.specs.Buffers.{with_front}
use Rattle.frame.specs.declared.types.Service.{Service}
use Rattle.frame.specs.declared.types.Service.TheVariants.{Sse, Sch}
use Rattle.frame.specs.declared.faults.CodecFault.{CodecFault}
use Rattle.frame.specs.Numbers.{service_code}
use Rattle.frame.specs.Frames.{Contents, act_req, act_res, vfy_req, vfy_res, enc, tmn, error, FrameParts, wire_bytes}
use Rattle.suite.specs.declared.limits.TheConstants.{MAX_DATA}
use Rattle.suite.specs.declared.types.Role.{Role}
use Rattle.suite.specs.declared.types.Role.TheVariants.{Sender, Recipient}
use Rattle.suite.specs.declared.types.KeyKind.TheVariants.{SharedSecret, LinkKey}
use Rattle.suite.specs.Numbers.{role_byte}
use Rattle.suite.specs.Meanings.{Meaning, keyring_of, value_of}
use Rattle.suite.specs.Schemes.{Scheme}
use Rattle.suite.specs.Calls.{with_key, is_spent}
use Rattle.protocol.specs.declared.states.State.{State}
use Rattle.protocol.specs.declared.states.State.TheVariants as st
use Rattle.protocol.specs.declared.outcomes.Confirmation.{Confirmation}
use Rattle.protocol.specs.declared.outcomes.Confirmation.TheVariants as conf
use Rattle.protocol.specs.declared.outcomes.Outcome.{Outcome}
use Rattle.protocol.specs.declared.faults.SuiteFault.{SuiteFault}
use Rattle.protocol.specs.declared.faults.SuiteFault.TheVariants.{OtherPid, BadOffer, NoKey, WrongCheck, BadRecord}
use Rattle.protocol.specs.declared.faults.Cause.{Cause}
use Rattle.protocol.specs.declared.faults.Cause.TheVariants.{Codec, NotAllowed, OtherService, Suite, WrongNumber}
use Rattle.protocol.specs.declared.faults.Fault.{Fault}
use Rattle.protocol.specs.declared.faults.MachineFault.{MachineFault}
use Rattle.protocol.specs.Outcomes.{ongoing_outcome}
use Rattle.protocol.specs.Models.{Model, Ancillary, secret_value, link_value, idle_model, session_keys}

-- What is left of the entity, what is answered or why not, and the bytes that are written: by a call, which may be refused, and by the step of a
-- message, which may meet a fault.
pub record Effect (E : Type 0) : Type 0 where
  pub model : Model
  pub answer : Result Outcome E
  pub reply : List ℕ

-- no fault, and no key destroyed
abbrev pub ongoing_effect : {E : Type 0} → Model → Confirmation → ℕ → List ℕ → Effect E
ongoing_effect m confirmation made reply =
    record { model = m; answer = Ok (ongoing_outcome confirmation (length reply) made); reply = reply }

-- Idle is entered
abbrev pub idle_effect : {E : Type 0} → Model → Confirmation → List ℕ → Option Fault → Effect E
idle_effect m confirmation reply f = record {
  model = idle_model m;
  answer = Ok (record { confirmation = confirmation; length = length reply; made = 0; destroyed = session_keys m; fault = f });
  reply = reply;
}

-- A call or step made, by the entity before and after, its result, and the buffer before and after. Without an outcome entity and buffer are as
-- they were. What is written lies within the buffer, and is no longer than a frame.
pub record HasEffect {E : Type 0} (before : Model) (effect : Effect E) (after : Model) (result : Result Outcome E) (old new : List ℕ) : Type 0 where
  pub model : after ≡ effect.model
  pub answer : result ≡ effect.answer
  pub buffer : new ≡ with_front effect.reply old
  pub untouched : IfErr result (λ e. (after ≡ before) × (new ≡ old))
  pub within : IfOk result (λ o. o.length ≤ length old)
  pub short : IfOk result (λ o. o.length ≤ MAX_FRAME)

-- the step of a message
abbrev pub Step : Type 0
Step = Effect MachineFault

-- the session ends, without a reply
abbrev pub end_effect : Model → Confirmation → Step
end_effect m confirmation = idle_effect m confirmation [] None

-- a fault, with the state that it is met in
abbrev pub fault_effect : Model → Cause → Step
fault_effect m cause = record { model = m; answer = Err (record { cause = cause; state = m.state }); reply = [] }

-- what follows where the suite finds no fault
abbrev pub effect_or_fault : {A : Type 0} → Model → Result A SuiteFault → (A → Step) → Step
effect_or_fault m (Ok x) f = f x
effect_or_fault m (Err e) f = fault_effect m (Suite e)

-- the bytes of a frame of that service
abbrev pub frame_bytes : Service → Contents → List ℕ
frame_bytes service contents = wire_bytes (record { service = service; contents = contents })

-- What is asked of the suite.

-- the value of the shared secret: S2 for an offer that is not fit, S3 for no further key
abbrev pub agreement : Scheme → Meaning → List ℕ → List ℕ → Role → Result (List ℕ) SuiteFault
agreement s means seed offer role =
    cond (not (s.fit_of (keyring_of means) offer)) (Err BadOffer)
    (cond (is_spent means) (Err NoKey)
    (Ok (s.secret_of (keyring_of means) (role_byte role) seed offer)))

-- the check value of the shared secret for a role
abbrev pub check_value : Scheme → Model → Role → List ℕ
check_value s m role = s.check_of (keyring_of m.means) m.secret (secret_value m) (role_byte role)

-- the value of the link key of a shared secret: S3 for no further key
abbrev pub derivation : Scheme → Meaning → ℕ → Result (List ℕ) SuiteFault
derivation s means key =
    cond (is_spent means) (Err NoKey)
    (Ok (s.link_of (keyring_of means) key (value_of means.live SharedSecret key)))

-- the payload of a record that the user sends
abbrev pub sealed_record : Scheme → Model → ℕ → List ℕ → List ℕ
sealed_record s m n plain = s.seal_of (keyring_of m.means) m.link (link_value m) (role_byte m.role) n plain

-- the role, number and data of a payload: S5 where it is not good
abbrev pub good_record : Option (ℕ × ℕ × List ℕ) → Result (ℕ × ℕ × List ℕ) SuiteFault
good_record (Some t) = Ok t
good_record None = Err BadRecord

-- role, number and data of a payload from the peer, or S5
abbrev pub opened_record : Scheme → Model → List ℕ → Result (ℕ × ℕ × List ℕ) SuiteFault
opened_record s m payload = good_record (s.open_of (keyring_of m.means) m.link (link_value m) payload)

-- Idle. ACT_REQ: S1, then the Recipient agrees with the seed that the call brings, and replies with its offer.

-- the entity with a new shared secret
abbrev pub with_secret : Model → List ℕ → Model
with_secret m value = record m { means = with_key m.means SharedSecret value; secret = m.means.newest + 1 }

-- the entity that takes part in a service as the Recipient
abbrev pub as_recipient : Model → Service → List ℕ → Model
as_recipient m service value =
    record (with_secret m value) { state = st.EstablishedRecipient; service = service; role = Recipient }

-- the Recipient's reply, once it has agreed
abbrev pub act_res_effect : Scheme → Model → List ℕ → Step
act_res_effect s m seed =
    ongoing_effect m conf.Nothing m.secret (frame_bytes m.service (act_res (s.offer_of (keyring_of m.means) seed)))

-- ACT_REQ in Idle (9.1)
abbrev pub on_act_req : Scheme → Model → Service → ℕ → List ℕ → List ℕ → Step
on_act_req s m service pid offer seed =
    cond (not (pid == s.pid)) (fault_effect m (Suite OtherPid))
    (effect_or_fault m (agreement s m.means seed offer Recipient) (λ value.
    act_res_effect s (as_recipient m service value) seed))

-- Select. ACT_RES: the Sender agrees with the seed that it kept, and asks for verification by its check value.

-- the Sender's VFY_REQ, once it has agreed
abbrev pub vfy_req_effect : Scheme → Model → Step
vfy_req_effect s m = ongoing_effect (record m { state = st.EstablishedSender }) conf.Nothing m.secret (frame_bytes m.service (vfy_req (check_value s m Sender)))

-- ACT_RES in Select (9.1)
abbrev pub on_act_res : Scheme → Model → List ℕ → Step
on_act_res s m offer =
    effect_or_fault m (agreement s m.means m.seed offer Sender) (λ value.
    vfy_req_effect s (with_secret m value))

-- Established. VFY: the peer's check value is compared, S4; for SCH the link key is derived, S3; the Recipient replies with its own check value.

-- whether a payload is the check value of that role; S4 if not
abbrev pub verification : Scheme → Model → Role → List ℕ → Result (Unit {0}) SuiteFault
verification s m role payload = cond (bytes_eq payload (check_value s m role)) (Ok tt) (Err WrongCheck)

-- the entity with a new link key, in Confirmed_SCH
abbrev pub with_link : Scheme → Model → List ℕ → Model
with_link s m value = record m {
  means = with_key m.means LinkKey value;
  state = st.ConfirmedSch;
  number = s.first;
  link = m.means.newest + 1;
}

-- the entity in the service, and the serial of the key made for it
abbrev pub link_start : Scheme → Model → Result (List ℕ) SuiteFault → Result (Model × ℕ) SuiteFault
link_start s m (Ok value) = Ok (with_link s m value, m.means.newest + 1)
link_start s m (Err e) = Err e

-- the entity in the service, and the serial of the key made for it, 0 for SSE
abbrev pub service_start : Scheme → Model → Service → Result (Model × ℕ) SuiteFault
service_start s m Sse = Ok (record m { state = st.ConfirmedSse }, 0)
service_start s m Sch = link_start s m (derivation s m.means m.secret)

-- VFY_REQ in Established_Recipient (9.2)
abbrev pub on_vfy_req : Scheme → Model → List ℕ → Step
on_vfy_req s m payload =
    effect_or_fault m (verification s m Sender payload) (λ _.
    effect_or_fault m (service_start s m m.service) (λ c.
    ongoing_effect c.0 conf.Established c.1 (frame_bytes m.service (vfy_res (check_value s m Recipient)))))

-- VFY_RES in Established_Sender (9.2)
abbrev pub on_vfy_res : Scheme → Model → List ℕ → Step
on_vfy_res s m payload =
    effect_or_fault m (verification s m Recipient payload) (λ _.
    effect_or_fault m (service_start s m m.service) (λ c.
    ongoing_effect c.0 conf.Established c.1 []))

-- Confirmed_SCH. ENC.

-- whether there is no byte
abbrev pub is_empty : List ℕ → Bool
is_empty xs = length xs == 0

-- whether the data of a record can have that many bytes
abbrev pub is_record_length : ℕ → Bool
is_record_length n = not (n == 0) && not (nat_lt MAX_DATA n)

-- The sequence check of role, number and data length: whether the record is a new one. The same number again is dropped, whatever the role; then
-- comes S5 for the own role, and Q1 for a number that is not the next or above the last.
abbrev pub sequence_check : Scheme → Model → ℕ × ℕ × ℕ → Result Bool Cause
sequence_check s m t =
    cond (not (is_record_length t.2)) (Err (Suite BadRecord))
    (cond (t.1 == m.number) (Ok false)
    (cond (t.0 == role_byte m.role) (Err (Suite BadRecord))
    (cond (not (t.1 == m.number + 1) || nat_lt s.final t.1) (Err WrongNumber)
    (Ok true))))

-- what becomes of an opened record, by the sequence check
abbrev pub record_effect : Model → List ℕ → Result Bool Cause → Step
record_effect m plain (Err cause) = fault_effect m cause
record_effect m plain (Ok false) = ongoing_effect m conf.Dropped 0 []
record_effect m plain (Ok true) =
    ongoing_effect (record m { number = m.number + 1; held = plain }) conf.DataAvailable 0 []

-- ENC in Confirmed_SCH (9.3, 12.3)
abbrev pub on_enc : Scheme → Model → List ℕ → Step
on_enc s m payload =
    effect_or_fault m (opened_record s m payload) (λ t.
    record_effect m t.2 (sequence_check s m (t.0, t.1, length t.2)))

-- The state and the message together decide. M1 where nothing else is said; outside Idle another service than the session's is M2. An ERROR is
-- accepted in every state and of every service.

-- whether two services are the same
abbrev pub is_same_service : Service → Service → Bool
is_same_service a b = service_code a == service_code b

-- a step of the session's service; M2 for the other
abbrev pub session_effect : Model → Service → Step → Step
session_effect m service step = cond (not (is_same_service service m.service)) (fault_effect m OtherService) step

-- the step of a message
abbrev pub message_effect : Scheme → Model → Ancillary → Service → State → Contents → Step
message_effect s m a service state (error p) = end_effect m conf.Error
message_effect s m a service st.Idle (act_req pid offer) = on_act_req s m service pid offer a.seed
message_effect s m a service st.Select (act_res offer) = session_effect m service (on_act_res s m offer)
message_effect s m a service st.EstablishedSender (vfy_res check) = session_effect m service (on_vfy_res s m check)
message_effect s m a service st.EstablishedRecipient (vfy_req check) = session_effect m service (on_vfy_req s m check)
message_effect s m a service st.ConfirmedSse (tmn p) = session_effect m service (end_effect m conf.Terminated)
message_effect s m a service st.ConfirmedSch (tmn p) = session_effect m service (end_effect m conf.Terminated)
message_effect s m a service st.ConfirmedSch (enc payload) = session_effect m service (on_enc s m payload)
message_effect s m a service state contents = fault_effect m NotAllowed

-- a frame that was read: a message or a codec fault
abbrev pub reading_effect : Scheme → Model → Ancillary → Result FrameParts CodecFault → Step
reading_effect s m a (Ok p) = message_effect s m a p.service m.state p.contents
reading_effect s m a (Err f) = fault_effect m (Codec f)
