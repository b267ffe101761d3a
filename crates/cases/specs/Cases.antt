-- Two entities over bench suites, call by call.
use Rattle.std.specs.Prelude.{◌≡◌, ℕ, List, [], ◌∷◌, replicate, Some, None, Ok, Err, Option, Result}
use Rattle.buffers.specs.declared.limits.TheConstants.{MAX_FRAME, MAX_PAYLOAD}
use Rattle.suite.specs.declared.limits.TheConstants.{MAX_DATA, MAX_NUMBER}
use Rattle.frame.specs.declared.types.Service.TheVariants.{Sch}
use Rattle.frame.specs.declared.faults.FaultCode.{FaultCode}
use Rattle.bench_suite.specs.Benches.{bench_scheme}
use Rattle.protocol.specs.declared.refusals.Refusal.{Refusal}
use Rattle.protocol.specs.declared.outcomes.Destroyed.{Destroyed}
use Rattle.protocol.specs.declared.outcomes.Outcome.{Outcome}
use Rattle.protocol.specs.declared.faults.Fault.{Fault}
use Rattle.protocol.specs.Numbers.{state_mark, confirmation_number, refusal_number, cause_code}
use Rattle.protocol.specs.Outcomes.{no_keys}
use Rattle.protocol.specs.Models.{Model, Ancillary, new_model, no_seed}
use Rattle.protocol.specs.Calls.{CallEffect, Call, invoke, send, retrieve_data, frame, call_effect}

-- What an answer says.

-- the number of a confirmation; 255 where the call is refused
abbrev pub confirmation : Result Outcome Refusal → ℕ
confirmation (Ok o) = confirmation_number o.confirmation
confirmation (Err r) = 255

-- the number of a refusal; 0 where the call is not refused
abbrev pub refusal : Result Outcome Refusal → ℕ
refusal (Ok o) = 0
refusal (Err r) = refusal_number r

-- a fault: its code, the number of the state that it is met in, and the code of the message
abbrev pub fault_parts : Option Fault → Option (FaultCode × ℕ × ℕ)
fault_parts None = None
fault_parts (Some f) = Some (cause_code f.machine.cause, state_mark f.machine.state, f.message)

-- the fault that an answer tells, by its numbers
abbrev pub fault : Result Outcome Refusal → Option (FaultCode × ℕ × ℕ)
fault (Ok o) = fault_parts o.fault
fault (Err r) = None

-- the keys that it reports destroyed
abbrev pub destroyed_keys : Result Outcome Refusal → Destroyed
destroyed_keys (Ok o) = o.destroyed
destroyed_keys (Err r) = no_keys

-- The two peers' seeds.

-- the Sender's seed, and so its offer
abbrev pub ones : List ℕ
ones = replicate 16 1

-- the Recipient's
abbrev pub twos : List ℕ
twos = replicate 16 2

-- a new entity whose root is zeros, over a suite that has made no key, and makes this many
abbrev pub entity : ℕ → Model
entity last = new_model (record { root = replicate 16 0; last = last; newest = 0; live = [] })

-- a new entity over a suite that makes as many keys as there are serials
abbrev pub new_entity : Model
new_entity = entity 4294967295

-- one call
abbrev pub call : Model → Call → CallEffect
call m c = call_effect bench_scheme m c

-- what goes beside a frame
abbrev pub beside : List ℕ → Ancillary
beside seed = record { seed = seed }

-- a frame, with a seed of zeros
abbrev pub receipt : Model → List ℕ → CallEffect
receipt m bytes = call m (frame bytes (beside no_seed) MAX_FRAME)

-- An activation for SCH, call by call: the Sender's and the Recipient's.

-- the Sender invokes
abbrev pub act_req_call : CallEffect
act_req_call = call new_entity (invoke Sch 0xF0 ones MAX_FRAME)

-- the Recipient receives ACT_REQ
abbrev pub act_res_call : CallEffect
act_res_call = call new_entity (frame act_req_call.reply (beside twos) MAX_FRAME)

-- the Sender receives ACT_RES
abbrev pub vfy_req_call : CallEffect
vfy_req_call = receipt act_req_call.model act_res_call.reply

-- the Recipient receives VFY_REQ
abbrev pub vfy_res_call : CallEffect
vfy_res_call = receipt act_res_call.model vfy_req_call.reply

-- the Sender receives VFY_RES
abbrev pub vfy_res_receipt : CallEffect
vfy_res_receipt = receipt vfy_req_call.model vfy_res_call.reply

-- Records: the Sender's first, the same frame before and after its data are retrieved, and the Recipient's answer.

-- the Sender sends 41 42
abbrev pub first_send : CallEffect
first_send = call vfy_res_receipt.model (send (0x41 ∷ 0x42 ∷ []) MAX_FRAME)

-- the Recipient receives the record
abbrev pub first_receipt : CallEffect
first_receipt = receipt vfy_res_call.model first_send.reply

-- it receives the same frame again, before it retrieves the data
abbrev pub early_repetition : CallEffect
early_repetition = receipt first_receipt.model first_send.reply

-- it retrieves the data
abbrev pub retrieval : CallEffect
retrieval = call first_receipt.model (retrieve_data MAX_FRAME)

-- it receives the same frame again, after that
abbrev pub late_repetition : CallEffect
late_repetition = receipt retrieval.model first_send.reply

-- it sends 43
abbrev pub second_send : CallEffect
second_send = call late_repetition.model (send (0x43 ∷ []) MAX_FRAME)

-- a record sent where the newest has this number
abbrev pub send_at : ℕ → CallEffect
send_at number = call (record vfy_res_receipt.model { number = number }) (send (0x41 ∷ []) MAX_FRAME)

-- A Recipient whose suite makes one key, and so no link key.

-- it receives ACT_REQ
abbrev pub act_req_receipt_of_one_key : CallEffect
act_req_receipt_of_one_key = call (entity 1) (frame act_req_call.reply (beside twos) MAX_FRAME)

-- it receives VFY_REQ
abbrev pub vfy_req_receipt_of_one_key : CallEffect
vfy_req_receipt_of_one_key = receipt act_req_receipt_of_one_key.model vfy_req_call.reply

-- what these calls return and write
pub record Cases : Type 0 where
  -- the limits: the bytes of a frame, of its payload and of the data of a record, and the highest number
  pub limits : (MAX_FRAME ≡ 255) × (MAX_PAYLOAD ≡ 254) × (MAX_DATA ≡ 200) × (MAX_NUMBER ≡ 16777215)
  -- the activation: what is written, and that both confirm it
  pub act_req_bytes : act_req_call.reply ≡ 0x10 ∷ 0xF0 ∷ ones
  pub act_res_bytes : act_res_call.reply ≡ 0x11 ∷ twos
  pub vfy_req_bytes : vfy_req_call.reply ≡ 0x12 ∷ 0x01 ∷ 0x03 ∷ 0x03 ∷ 0x03 ∷ []
  pub vfy_res_bytes : vfy_res_call.reply ≡ 0x13 ∷ 0x02 ∷ 0x03 ∷ 0x03 ∷ 0x03 ∷ []
  pub recipient_linked : confirmation vfy_res_call.answer ≡ 1
  pub sender_linked : confirmation vfy_res_receipt.answer ≡ 1
  -- a record: sent, and available
  pub sent_bytes : first_send.reply ≡ 0x14 ∷ 0x01 ∷ 0x00 ∷ 0x00 ∷ 0x00 ∷ 0x01 ∷ 0x18 ∷ 0x1B ∷ 0x35 ∷ []
  pub sent_confirmed : confirmation first_send.answer ≡ 2
  pub received_confirmed : confirmation first_receipt.answer ≡ 3
  -- the same frame is refused while the data are held, and dropped once they are retrieved
  pub repeated_refused : refusal early_repetition.answer ≡ 4
  pub retrieved_bytes : retrieval.reply ≡ 0x41 ∷ 0x42 ∷ []
  pub dropped_confirmed : confirmation late_repetition.answer ≡ 6
  -- the Recipient's record has the next number
  pub answered_bytes : second_send.reply ≡ 0x14 ∷ 0x02 ∷ 0x00 ∷ 0x00 ∷ 0x00 ∷ 0x02 ∷ 0x1A ∷ 0x1E ∷ []
  -- in Idle: ENC is M1, in the frame's service; the service bits 10 are C2, in SSE; a TMN with payload is C4
  pub early_reply : (receipt new_entity (0x14 ∷ [])).reply ≡ 0x1F ∷ 0x4D ∷ 0x31 ∷ 0x00 ∷ []
  pub strange_reply : (receipt new_entity (0x20 ∷ [])).reply ≡ 0x0F ∷ 0x43 ∷ 0x32 ∷ 0x00 ∷ []
  pub long_fault : fault (receipt new_entity (0x16 ∷ 0x00 ∷ [])).answer ≡ Some (record { letter = 0x43; digit = 0x34; place = 1 }, 0, 6)
  -- the last number is 65535
  pub last_sent : confirmation (send_at 65534).answer ≡ 2
  pub none_sent : refusal (send_at 65535).answer ≡ 8
  -- without a key for the link VFY_REQ is S3, met in Established_Recipient, and the shared secret goes
  pub keyless_fault : fault vfy_req_receipt_of_one_key.answer ≡ Some (record { letter = 0x53; digit = 0x33; place = 1 }, 3, 2)
  pub keyless_reply : vfy_req_receipt_of_one_key.reply ≡ 0x1F ∷ 0x53 ∷ 0x33 ∷ 0x00 ∷ []
  pub keyless_destroyed : destroyed_keys vfy_req_receipt_of_one_key.answer ≡ record { link = 0; secret = 1 }
