-- The numbers of services, messages, refusals and codec faults: one definition for each enum.
use Rattle.std.specs.Prelude.{ℕ, ◌+◌}
use Rattle.frame.specs.declared.types.Service.{Service}
use Rattle.frame.specs.declared.types.Service.TheVariants.{Sse, Sch}
use Rattle.frame.specs.declared.types.MessageKind.{MessageKind}
use Rattle.frame.specs.declared.types.MessageKind.TheVariants as msg
use Rattle.frame.specs.declared.faults.Refusal.{Refusal}
use Rattle.frame.specs.declared.faults.Refusal.TheVariants.{ReplyBuffer, FrameLength}
use Rattle.frame.specs.declared.faults.CodecFault.{CodecFault}
use Rattle.frame.specs.declared.faults.CodecFault.TheVariants.{RfuBit, NoService, NoMessage, WrongFields}
use Rattle.frame.specs.declared.faults.FaultCode.{FaultCode}

-- SVC
abbrev pub service_code : Service → ℕ
service_code Sse = 0
service_code Sch = 1

-- MSG
abbrev pub message_code : MessageKind → ℕ
message_code msg.ActReq = 0b0000
message_code msg.ActRes = 0b0001
message_code msg.VfyReq = 0b0010
message_code msg.VfyRes = 0b0011
message_code msg.Enc = 0b0100
message_code msg.Tmn = 0b0110
message_code msg.Error = 0b1111

-- 1 for a buffer below 255 bytes, 3 for a frame that is none
abbrev pub refusal_number : Refusal → ℕ
refusal_number ReplyBuffer = 1
refusal_number FrameLength = 3

-- a codec fault: the letter C, its digit in ASCII, and the place of the byte that it speaks of
abbrev pub codec_code : ℕ → ℕ → FaultCode
codec_code n place = record { letter = 0x43; digit = 0x30 + n; place = place }

-- C1 to C4; the first three are of SEP, the fourth of the byte after it
abbrev pub fault_code : CodecFault → FaultCode
fault_code RfuBit = codec_code 1 0
fault_code NoService = codec_code 2 0
fault_code NoMessage = codec_code 3 0
fault_code WrongFields = codec_code 4 1
