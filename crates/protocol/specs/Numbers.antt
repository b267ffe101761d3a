-- The numbers of states, confirmations and refusals, and the codes of faults: one definition for each enum.
use Rattle.std.specs.Prelude.{ℕ, ◌+◌, cond, ◌==◌}
use Rattle.frame.specs.declared.faults.Refusal.{Refusal as FrameRefusal}
use Rattle.frame.specs.declared.faults.Refusal.TheVariants as of_frame
use Rattle.frame.specs.declared.faults.CodecFault.{CodecFault}
use Rattle.frame.specs.declared.faults.CodecFault.TheVariants.{RfuBit, NoService, NoMessage, WrongFields}
use Rattle.frame.specs.declared.faults.FaultCode.{FaultCode}
use Rattle.frame.specs.Numbers.{fault_code}
use Rattle.protocol.specs.declared.states.State.{State}
use Rattle.protocol.specs.declared.states.State.TheVariants as st
use Rattle.protocol.specs.declared.outcomes.Confirmation.{Confirmation}
use Rattle.protocol.specs.declared.outcomes.Confirmation.TheVariants as conf
use Rattle.protocol.specs.declared.refusals.Refusal.{Refusal}
use Rattle.protocol.specs.declared.refusals.Refusal.TheVariants as no
use Rattle.protocol.specs.declared.faults.SuiteFault.{SuiteFault}
use Rattle.protocol.specs.declared.faults.SuiteFault.TheVariants.{OtherPid, BadOffer, NoKey, WrongCheck, BadRecord}
use Rattle.protocol.specs.declared.faults.Cause.{Cause}
use Rattle.protocol.specs.declared.faults.Cause.TheVariants.{Codec, NotAllowed, OtherService, Suite, WrongNumber}

-- after table 1, Sender and SSE first
abbrev pub state_mark : State → ℕ
state_mark st.Idle = 0
state_mark st.Select = 1
state_mark st.EstablishedSender = 2
state_mark st.EstablishedRecipient = 3
state_mark st.ConfirmedSse = 4
state_mark st.ConfirmedSch = 5

-- after annex A.3
abbrev pub confirmation_number : Confirmation → ℕ
confirmation_number conf.Nothing = 0
confirmation_number conf.Established = 1
confirmation_number conf.DataSent = 2
confirmation_number conf.DataAvailable = 3
confirmation_number conf.Terminated = 4
confirmation_number conf.Error = 5
confirmation_number conf.Dropped = 6

-- refusals of the calls of an entity
abbrev pub refusal_number : Refusal → ℕ
refusal_number no.ReplyBuffer = 1
refusal_number no.SeedLength = 2
refusal_number no.FrameLength = 3
refusal_number no.DataHeld = 4
refusal_number no.WrongState = 5
refusal_number no.OtherPid = 6
refusal_number no.DataLength = 7
refusal_number no.NumberSpent = 8
refusal_number no.NothingHeld = 9
refusal_number no.SmallBuffer = 10

-- a refusal of reader or writer, under the same number
abbrev pub frame_refusal : FrameRefusal → Refusal
frame_refusal of_frame.ReplyBuffer = no.ReplyBuffer
frame_refusal of_frame.FrameLength = no.FrameLength

-- A fault is the letter of its layer, its digit in ASCII, and the place of the byte that it speaks of.

-- letter, digit and place
abbrev pub code_at : ℕ → ℕ → ℕ → FaultCode
code_at letter n place = record { letter = letter; digit = 0x30 + n; place = place }

-- the letter S, at the byte after SEP
abbrev pub suite_code : SuiteFault → FaultCode
suite_code OtherPid = code_at 0x53 1 1
suite_code BadOffer = code_at 0x53 2 1
suite_code NoKey = code_at 0x53 3 1
suite_code WrongCheck = code_at 0x53 4 1
suite_code BadRecord = code_at 0x53 5 1

-- the letters C of the codec, M of the machine, S of the suite, Q of the sequence of numbers
abbrev pub cause_code : Cause → FaultCode
cause_code (Codec f) = fault_code f
cause_code NotAllowed = code_at 0x4D 1 0
cause_code OtherService = code_at 0x4D 2 0
cause_code (Suite f) = suite_code f
cause_code WrongNumber = code_at 0x51 1 1

-- the codec fault of a code, by its digit
abbrev pub codec_fault_of : FaultCode → CodecFault
codec_fault_of code =
    cond (code.digit == 0x31) RfuBit
    (cond (code.digit == 0x32) NoService
    (cond (code.digit == 0x33) NoMessage WrongFields))
