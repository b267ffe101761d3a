-- The words for states, confirmations, keys destroyed, refusals and faults: one definition for each type.
use Rattle.std.specs.Prelude.{ℕ, List, ◌++◌, codes}
use Rattle.std.specs.Fmt.{decimal}
use Rattle.frame.specs.Words.{fault_words}
use Rattle.protocol.specs.declared.states.State.{State}
use Rattle.protocol.specs.declared.states.State.TheVariants as st
use Rattle.protocol.specs.declared.outcomes.Confirmation.{Confirmation}
use Rattle.protocol.specs.declared.outcomes.Confirmation.TheVariants as conf
use Rattle.protocol.specs.declared.outcomes.Destroyed.{Destroyed}
use Rattle.protocol.specs.declared.refusals.Refusal.{Refusal}
use Rattle.protocol.specs.declared.refusals.Refusal.TheVariants as no
use Rattle.protocol.specs.declared.faults.SuiteFault.{SuiteFault}
use Rattle.protocol.specs.declared.faults.SuiteFault.TheVariants.{OtherPid, BadOffer, NoKey, WrongCheck, BadRecord}
use Rattle.protocol.specs.declared.faults.Cause.{Cause}
use Rattle.protocol.specs.declared.faults.Cause.TheVariants.{Codec, NotAllowed, OtherService, Suite, WrongNumber}

-- what is printed of a state
abbrev pub state_words : State → List ℕ
state_words st.Idle = codes "Idle"
state_words st.Select = codes "Select"
state_words st.EstablishedSender = codes "Established_Sender"
state_words st.EstablishedRecipient = codes "Established_Recipient"
state_words st.ConfirmedSse = codes "Confirmed_SSE"
state_words st.ConfirmedSch = codes "Confirmed_SCH"

-- of a confirmation
abbrev pub confirmation_words : Confirmation → List ℕ
confirmation_words conf.Nothing = codes "none"
confirmation_words conf.Established = codes "Established"
confirmation_words conf.DataSent = codes "Data Sent"
confirmation_words conf.DataAvailable = codes "Data Available"
confirmation_words conf.Terminated = codes "Terminated"
confirmation_words conf.Error = codes "Error"
confirmation_words conf.Dropped = codes "dropped"

-- the serials of the link key and of the shared secret, 0 for none
abbrev pub destroyed_words : Destroyed → List ℕ
destroyed_words keys = codes "destroyed " ++ decimal keys.link ++ codes " " ++ decimal keys.secret

-- of a refusal
abbrev pub refusal_words : Refusal → List ℕ
refusal_words no.ReplyBuffer = codes "the reply buffer has fewer than 255 bytes"
refusal_words no.SeedLength = codes "a seed has 16 bytes"
refusal_words no.FrameLength = codes "a frame has 1 to 255 bytes, and a TMN nothing after SEP"
refusal_words no.DataHeld = codes "the data of the record before is still held"
refusal_words no.WrongState = codes "the request is not allowed in this state"
refusal_words no.OtherPid = codes "the PID is not the suite's"
refusal_words no.DataLength = codes "the data of a record has 1 to 200 bytes"
refusal_words no.NumberSpent = codes "the last number is used"
refusal_words no.NothingHeld = codes "no data is held"
refusal_words no.SmallBuffer = codes "the buffer is too short"

-- of a suite's fault
abbrev pub suite_words : SuiteFault → List ℕ
suite_words OtherPid = codes "the PID is not the suite's"
suite_words BadOffer = codes "the offer is not fit"
suite_words NoKey = codes "the suite makes no further key"
suite_words WrongCheck = codes "the check value is wrong"
suite_words BadRecord = codes "the record is not good"

-- of a cause
abbrev pub cause_words : Cause → List ℕ
cause_words (Codec f) = fault_words f
cause_words NotAllowed = codes "the message is not allowed in this state"
cause_words OtherService = codes "the session is of the other service"
cause_words (Suite f) = suite_words f
cause_words WrongNumber = codes "the number is not the next"
