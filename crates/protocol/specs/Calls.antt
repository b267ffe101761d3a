-- What each call of an entity returns, writes and leaves.
use Rattle.std.specs.Prelude.{ℕ, ◌+◌, Bool, false, cond, not, ◌&&◌, ◌||◌, List, [], ◌∷◌, length, Some, None, Ok, Err, Result, ◌==◌, nat_lt, nat_le}
use Rattle.frame.specs.declared.types.Service.{Service}
use Rattle.frame.specs.declared.types.Service.TheVariants.{Sse, Sch}
use Rattle.frame.specs.declared.faults.CodecFault.{CodecFault}
use Rattle.frame.specs.declared.faults.FaultCode.{FaultCode}
use Rattle.frame.specs.Frames.{Contents, act_req, act_res, vfy_req, vfy_res, enc, tmn, error, FrameParts}
use Rattle.frame.specs.Reading.{Reading, message, refused as unread, fault, reading, svc_bits, msg_bits}
use Rattle.suite.specs.declared.types.Role.TheVariants.{Sender}
use Rattle.suite.specs.Meanings.{IsBytes, keyring_of}
use Rattle.suite.specs.Schemes.{Scheme}
use Rattle.suite.specs.Calls.{is_wrong_seed, is_short_buffer}
use Rattle.protocol.specs.declared.states.State.{State}
use Rattle.protocol.specs.declared.states.State.TheVariants as st
use Rattle.protocol.specs.declared.outcomes.Confirmation.{Confirmation}
use Rattle.protocol.specs.declared.outcomes.Confirmation.TheVariants as conf
use Rattle.protocol.specs.declared.outcomes.Outcome.{Outcome}
use Rattle.protocol.specs.declared.refusals.Refusal.{Refusal}
use Rattle.protocol.specs.declared.refusals.Refusal.TheVariants as no
use Rattle.protocol.specs.declared.faults.MachineFault.{MachineFault}
use Rattle.protocol.specs.Numbers.{state_mark, cause_code, codec_fault_of}
use Rattle.protocol.specs.Models.{Model, Ancillary, secret_value}
use Rattle.protocol.specs.Steps.{Effect, HasEffect, ongoing_effect, idle_effect, Step, frame_bytes, is_empty, is_record_length, is_same_service, sealed_record, reading_effect}

-- a call with its bytes; room is the length of the buffer that it may write
pub data Call : Type 0 where
  invoke : (service : Service) (pid : ℕ) (seed : List ℕ) (room : ℕ) → Call
  send : (plain : List ℕ) (room : ℕ) → Call
  retrieve_data : (room : ℕ) → Call
  retrieve_secret : (room : ℕ) → Call
  terminate : (room : ℕ) → Call
  frame : (bytes : List ℕ) (beside : Ancillary) (room : ℕ) → Call
  release : Call

-- the effect of a call
abbrev pub CallEffect : Type 0
CallEffect = Effect Refusal

-- a refused call: the entity stays as it is, and nothing is written
abbrev pub refusal_effect : Model → Refusal → CallEffect
refusal_effect m refusal = record { model = m; answer = Err refusal; reply = [] }

-- a call that goes on, and makes no key
abbrev pub keyless_effect : Model → Confirmation → List ℕ → CallEffect
keyless_effect m confirmation reply = ongoing_effect m confirmation 0 reply

-- Requests. Refusals are tried in the order in which they stand.

-- whether the entity is in that state
abbrev pub is_in_state : Model → State → Bool
is_in_state m state = state_mark m.state == state_mark state

-- Service Invocation (annex A.2): the seed is kept, and ACT_REQ is written
abbrev pub invoke_effect : Scheme → Model → Service → ℕ → List ℕ → ℕ → CallEffect
invoke_effect s m service pid seed room =
    cond (is_short_buffer room) (refusal_effect m no.ReplyBuffer)
    (cond (is_wrong_seed seed) (refusal_effect m no.SeedLength)
    (cond (not (is_in_state m st.Idle)) (refusal_effect m no.WrongState)
    (cond (not (pid == s.pid)) (refusal_effect m no.OtherPid)
    (keyless_effect (record m { state = st.Select; service = service; role = Sender; seed = seed }) conf.Nothing
    (frame_bytes service (act_req pid (s.offer_of (keyring_of m.means) seed)))))))

-- the number rises, and the record has the raised one
abbrev pub send_effect : Scheme → Model → List ℕ → ℕ → CallEffect
send_effect s m plain room =
    cond (is_short_buffer room) (refusal_effect m no.ReplyBuffer)
    (cond (not (is_in_state m st.ConfirmedSch)) (refusal_effect m no.WrongState)
    (cond (not (is_record_length (length plain))) (refusal_effect m no.DataLength)
    (cond (nat_le s.final m.number) (refusal_effect m no.NumberSpent)
    (keyless_effect (record m { number = m.number + 1 }) conf.DataSent (frame_bytes Sch (enc (sealed_record s m (m.number + 1) plain)))))))

-- Retrieve Data (annex A.2): the data held, whose place is empty after
abbrev pub retrieve_data_effect : Model → ℕ → CallEffect
retrieve_data_effect m room =
    cond (not (is_in_state m st.ConfirmedSch)) (refusal_effect m no.WrongState)
    (cond (is_empty m.held) (refusal_effect m no.NothingHeld)
    (cond (nat_lt room (length m.held)) (refusal_effect m no.SmallBuffer)
    (keyless_effect (record m { held = [] }) conf.Nothing m.held)))

-- Retrieve Secret (annex A.2): the sixteen bytes of the shared secret
abbrev pub retrieve_secret_effect : Model → ℕ → CallEffect
retrieve_secret_effect m room =
    cond (not (is_in_state m st.ConfirmedSse)) (refusal_effect m no.WrongState)
    (cond (nat_lt room 16) (refusal_effect m no.SmallBuffer)
    (keyless_effect m conf.Nothing (secret_value m)))

-- Terminate (annex A.2, clause 9.4): TMN is written
abbrev pub terminate_effect : Model → ℕ → CallEffect
terminate_effect m room =
    cond (is_short_buffer room) (refusal_effect m no.ReplyBuffer)
    (cond (not (is_in_state m st.ConfirmedSse || is_in_state m st.ConfirmedSch)) (refusal_effect m no.WrongState)
    (idle_effect m conf.Terminated (frame_bytes m.service (tmn [])) None))

-- the link below is released (9.4): nothing is written
abbrev pub release_effect : Model → CallEffect
release_effect m = idle_effect m (cond (is_in_state m st.Idle) conf.Nothing conf.Terminated) [] None

-- Frames.

-- a record, in Confirmed_SCH
abbrev pub is_enc_in_link : State → Contents → Bool
is_enc_in_link state (act_req pid p) = false
is_enc_in_link state (act_res p) = false
is_enc_in_link state (vfy_req p) = false
is_enc_in_link state (vfy_res p) = false
is_enc_in_link state (enc p) = state_mark state == state_mark st.ConfirmedSch
is_enc_in_link state (tmn p) = false
is_enc_in_link state (error p) = false

-- a record of the session's service, in Confirmed_SCH while data is held
abbrev pub is_blocked : Model → FrameParts → Bool
is_blocked m p = is_enc_in_link m.state p.contents && is_same_service p.service m.service && not (is_empty m.held)

-- what is read of a frame, a message or a codec fault; or why it is refused
abbrev pub admission : Model → Reading → Result (Result FrameParts CodecFault) Refusal
admission m (unread number) = Err no.FrameLength
admission m (fault code) = Ok (Err (codec_fault_of code))
admission m (message p) = cond (is_blocked m p) (Err no.DataHeld) (Ok (Ok p))

-- A fault is answered by ERROR: letter, digit, 00. It is of the session's service; in Idle, of the frame's if that is SCH, else SSE.

-- the service of an ERROR
abbrev pub error_service : Service → ℕ → State → Service
error_service service sep state =
    cond (state_mark state == state_mark st.Idle) (cond (svc_bits sep == 1) Sch Sse) service

-- its payload
abbrev pub error_payload : FaultCode → List ℕ
error_payload code = code.letter ∷ code.digit ∷ 0 ∷ []

-- what becomes of a fault: the reply is ERROR, and the session is over
abbrev pub error_effect : Model → ℕ → MachineFault → CallEffect
error_effect m sep f =
    idle_effect m conf.Error
    (frame_bytes (error_service m.service sep f.state) (error (error_payload (cause_code f.cause))))
    (Some (record { machine = f; message = msg_bits sep }))

-- a step as a call: a fault ends the session as it was before
abbrev pub effect_of_answer : Model → ℕ → Step → Result Outcome MachineFault → CallEffect
effect_of_answer m sep step (Ok outcome) = record { model = step.model; answer = Ok outcome; reply = step.reply }
effect_of_answer m sep step (Err f) = error_effect m sep f

-- the effect of a frame, by the effect of its step
abbrev pub effect_of_step : Model → ℕ → Step → CallEffect
effect_of_step m sep step = effect_of_answer m sep step step.answer

-- the first byte; 0 where there is none
abbrev pub first_byte : List ℕ → ℕ
first_byte [] = 0
first_byte (b ∷ rest) = b

-- a frame that is read, or refused
abbrev pub admitted_effect : Scheme → Model → Ancillary → ℕ → Result (Result FrameParts CodecFault) Refusal → CallEffect
admitted_effect s m a sep (Ok h) = effect_of_step m sep (reading_effect s m a h)
admitted_effect s m a sep (Err refusal) = refusal_effect m refusal

-- a frame from the peer: refusals 1 and 2, then reading, refusals 3 and 4, then the step
abbrev pub frame_effect : Scheme → Model → List ℕ → Ancillary → ℕ → CallEffect
frame_effect s m bytes a room =
    cond (is_short_buffer room) (refusal_effect m no.ReplyBuffer)
    (cond (is_wrong_seed a.seed) (refusal_effect m no.SeedLength)
    (admitted_effect s m a (first_byte bytes) (admission m (reading bytes))))

-- what a call does
abbrev pub call_effect : Scheme → Model → Call → CallEffect
call_effect s m (invoke service pid seed room) = invoke_effect s m service pid seed room
call_effect s m (send plain room) = send_effect s m plain room
call_effect s m (retrieve_data room) = retrieve_data_effect m room
call_effect s m (retrieve_secret room) = retrieve_secret_effect m room
call_effect s m (terminate room) = terminate_effect m room
call_effect s m (frame bytes a room) = frame_effect s m bytes a room
call_effect s m release = release_effect m

-- what a call is given are bytes
abbrev pub IsGivenBytes : Call → Type 0
IsGivenBytes (invoke service pid seed room) = IsBytes seed
IsGivenBytes (send plain room) = IsBytes plain
IsGivenBytes (retrieve_data room) = Unit {0}
IsGivenBytes (retrieve_secret room) = Unit {0}
IsGivenBytes (terminate room) = Unit {0}
IsGivenBytes (frame bytes a room) = IsBytes bytes × IsBytes a.seed
IsGivenBytes release = Unit {0}

-- a call made: what each call of an entity promises
abbrev pub MakesCall : Scheme → Model → Call → Model → Result Outcome Refusal → List ℕ → List ℕ → Type 0
MakesCall s before c after result old new = HasEffect before (call_effect s before c) after result old new
