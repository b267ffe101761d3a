-- What the reader returns for any bytes.
use Rattle.std.specs.Prelude.{ℕ, ◌/◌, ◌%◌, cond, not, List, [], ◌∷◌, length, Some, None, Ok, Err, Option, Result, ◌==◌, nat_lt}
use Rattle.std.specs.Option.{ok_or}
use Rattle.buffers.specs.declared.limits.TheConstants.{MAX_FRAME}
use Rattle.frame.specs.declared.types.Service.{Service}
use Rattle.frame.specs.declared.types.Service.TheVariants.{Sse, Sch}
use Rattle.frame.specs.declared.types.MessageKind.{MessageKind}
use Rattle.frame.specs.declared.types.MessageKind.TheVariants as msg
use Rattle.frame.specs.declared.types.Body.{Body}
use Rattle.frame.specs.declared.types.Message.{Message}
use Rattle.frame.specs.declared.faults.CodecFault.{CodecFault}
use Rattle.frame.specs.declared.faults.CodecFault.TheVariants.{NoService, NoMessage}
use Rattle.frame.specs.declared.faults.ReadError.{ReadError}
use Rattle.frame.specs.declared.faults.ReadError.TheVariants.{Refused, Fault}
use Rattle.frame.specs.declared.faults.FaultCode.{FaultCode}
use Rattle.frame.specs.Numbers.{service_code, message_code, refusal_number, codec_code, fault_code}
use Rattle.frame.specs.Frames.{Contents, act_req, act_res, vfy_req, vfy_res, enc, tmn, error, FrameParts, contents_of, parts_of}

-- The bits of SEP.

-- bits 8 and 7
abbrev pub rfu_bits : ℕ → ℕ
rfu_bits b = b / 64

-- bits 6 and 5
abbrev pub svc_bits : ℕ → ℕ
svc_bits b = (b / 16) % 4

-- bits 4 to 1
abbrev pub msg_bits : ℕ → ℕ
msg_bits b = b % 16

-- the first of a list whose code is n
abbrev pub first_with_code : {A : Type 0} → (A → ℕ) → List A → ℕ → Option A
first_with_code code [] n = None
first_with_code code (a ∷ as') n = cond (n == code a) (Some a) (first_with_code code as' n)

-- the services
abbrev pub all_services : List Service
all_services = Sse ∷ Sch ∷ []

-- the kinds of message
abbrev pub all_kinds : List MessageKind
all_kinds = msg.ActReq ∷ msg.ActRes ∷ msg.VfyReq ∷ msg.VfyRes ∷ msg.Enc ∷ msg.Tmn ∷ msg.Error ∷ []

-- the service of an SVC code
abbrev pub service_with : ℕ → Option Service
service_with n = first_with_code service_code all_services n

-- the kind of message of a MSG code
abbrev pub kind_with : ℕ → Option MessageKind
kind_with n = first_with_code message_code all_kinds n

-- a code alone: C2 where it is no service's, C3 where it is no message's
abbrev pub service_result : ℕ → Result Service CodecFault
service_result n = ok_or (service_with n) NoService

-- C3 where it is the code of no message
abbrev pub kind_result : ℕ → Result MessageKind CodecFault
kind_result n = ok_or (kind_with n) NoMessage

-- SEP: C1 where an RFU bit is ONE, C2 where the service is 10 or 11, C3 where the message is another
abbrev pub service_and_kind : Option Service → Option MessageKind → Result (Service × MessageKind) FaultCode
service_and_kind None k = Err (codec_code 2 0)
service_and_kind (Some s) None = Err (codec_code 3 0)
service_and_kind (Some s) (Some k) = Ok (s, k)

-- service and kind that SEP names, or the fault
abbrev pub sep_reading : ℕ → Result (Service × MessageKind) FaultCode
sep_reading b =
    cond (not (rfu_bits b == 0)) (Err (codec_code 1 0))
    (service_and_kind (service_with (svc_bits b)) (kind_with (msg_bits b)))

-- what follows: C4 where ACT_REQ has no PID or TMN has payload
abbrev pub contents_reading : MessageKind → List ℕ → Result Contents FaultCode
contents_reading msg.ActReq [] = Err (codec_code 4 1)
contents_reading msg.ActReq (pid ∷ p) = Ok (act_req pid p)
contents_reading msg.ActRes p = Ok (act_res p)
contents_reading msg.VfyReq p = Ok (vfy_req p)
contents_reading msg.VfyRes p = Ok (vfy_res p)
contents_reading msg.Enc p = Ok (enc p)
contents_reading msg.Tmn [] = Ok (tmn [])
contents_reading msg.Tmn (x ∷ p) = Err (codec_code 4 1)
contents_reading msg.Error p = Ok (error p)

-- The answer to a frame: a message, a refusal or a codec fault.
pub data Reading : Type 0 where
  message : FrameParts → Reading
  refused : (number : ℕ) → Reading
  fault : FaultCode → Reading

-- the reading once the service is known
abbrev pub reading_of_contents : Service → Result Contents FaultCode → Reading
reading_of_contents s (Ok x) = message (record { service = s; contents = x })
reading_of_contents s (Err f) = fault f

-- the reading once SEP is read
abbrev pub reading_of_sep : Result (Service × MessageKind) FaultCode → List ℕ → Reading
reading_of_sep (Ok (s, k)) rest = reading_of_contents s (contents_reading k rest)
reading_of_sep (Err f) rest = fault f

-- 3 where there is no byte, or more than MAX_FRAME
abbrev pub reading : List ℕ → Reading
reading [] = refused 3
reading (b ∷ rest) = cond (nat_lt MAX_FRAME (length (b ∷ rest))) (refused 3) (reading_of_sep (sep_reading b) rest)

-- The code's answers by their numbers.

-- an answer with the fault by its code
abbrev pub coded_result : {A : Type 0} → Result A CodecFault → Result A FaultCode
coded_result (Ok x) = Ok x
coded_result (Err f) = Err (fault_code f)

-- the code's body, or the fault by its code
abbrev pub contents_result : Result Body CodecFault → Result Contents FaultCode
contents_result (Ok b) = Ok (contents_of b)
contents_result (Err f) = Err (fault_code f)

-- the code's reading
abbrev pub reading_of : Result Message ReadError → Reading
reading_of (Ok m) = message (parts_of m)
reading_of (Err (Refused r)) = refused (refusal_number r)
reading_of (Err (Fault f)) = fault (fault_code f)
