-- The words for services, messages, refusals and codec faults: one definition for each enum.
use Rattle.std.specs.Prelude.{ℕ, List, ◌++◌, codes, encode_utf8}
use Rattle.frame.specs.declared.types.Service.{Service}
use Rattle.frame.specs.declared.types.Service.TheVariants.{Sse, Sch}
use Rattle.frame.specs.declared.types.MessageKind.{MessageKind}
use Rattle.frame.specs.declared.types.MessageKind.TheVariants as msg
use Rattle.frame.specs.declared.faults.Refusal.{Refusal}
use Rattle.frame.specs.declared.faults.Refusal.TheVariants.{ReplyBuffer, FrameLength}
use Rattle.frame.specs.declared.faults.CodecFault.{CodecFault}
use Rattle.frame.specs.declared.faults.CodecFault.TheVariants.{RfuBit, NoService, NoMessage, WrongFields}
use Rattle.frame.specs.declared.faults.FaultCode.{FaultCode}
use Rattle.frame.specs.declared.faults.ReadError.{ReadError}
use Rattle.frame.specs.declared.faults.ReadError.TheVariants.{Refused, Fault}

-- what is printed of a service
abbrev pub service_words : Service → List ℕ
service_words Sse = codes "SSE, the shared secret service"
service_words Sch = codes "SCH, the secure channel service"

-- of a kind of message
abbrev pub message_words : MessageKind → List ℕ
message_words msg.ActReq = codes "ACT_REQ, activation request"
message_words msg.ActRes = codes "ACT_RES, activation response"
message_words msg.VfyReq = codes "VFY_REQ, verification request"
message_words msg.VfyRes = codes "VFY_RES, verification response"
message_words msg.Enc = codes "ENC, encrypted packet"
message_words msg.Tmn = codes "TMN, terminate"
message_words msg.Error = codes "ERROR, error"

-- of a refusal
abbrev pub refusal_words : Refusal → List ℕ
refusal_words ReplyBuffer = codes "the buffer has fewer than 255 bytes"
refusal_words FrameLength = codes "a frame has 1 to 255 bytes, and a TMN nothing after SEP"

-- the name of a fault: its letter and its digit
abbrev pub code_words : FaultCode → List ℕ
code_words c = encode_utf8 c.letter ++ encode_utf8 c.digit

-- of a codec fault
abbrev pub fault_words : CodecFault → List ℕ
fault_words RfuBit = codes "a bit reserved for future use (8 or 7 of SEP) is ONE"
fault_words NoService = codes "the service bits (6 and 5 of SEP) are neither 00 SSE nor 01 SCH"
fault_words NoMessage = codes "the message bits (4 to 1 of SEP) are none of the standard's"
fault_words WrongFields = codes "an ACT_REQ needs its PID, a TMN has nothing after SEP"

-- of an error of the reader
abbrev pub error_words : ReadError → List ℕ
error_words (Refused refusal) = refusal_words refusal
error_words (Fault fault) = fault_words fault
