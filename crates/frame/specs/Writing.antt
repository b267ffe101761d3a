-- What the writer returns and writes, and that reader and writer undo each other.
use Rattle.std.specs.Prelude.{◌≡◌, ℕ, ◌≤◌, Bool, cond, not, ◌&&◌, ◌||◌, List, length, take, Ok, Err, Result, ◌==◌, nat_lt}
use Rattle.buffers.specs.declared.limits.TheConstants.{MAX_FRAME}
use Rattle.frame.specs.declared.faults.Refusal.{Refusal}
use Rattle.frame.specs.declared.types.MessageKind.TheVariants as msg
use Rattle.frame.specs.Numbers.{message_code, refusal_number}
use Rattle.frame.specs.Frames.{Contents, FrameParts, kind_of, payload_of, wire_bytes}
use Rattle.frame.specs.Reading.{Reading, message, reading}

-- whether it is a TMN with a payload: TMN is SEP alone
abbrev pub is_tmn_with_payload : Contents → Bool
is_tmn_with_payload x = message_code (kind_of x) == message_code msg.Tmn && not (length (payload_of x) == 0)

-- the bytes written, or the number of the refusal
abbrev pub writing_result : FrameParts → ℕ → Result (List ℕ) ℕ
writing_result x room =
    cond (nat_lt room MAX_FRAME) (Err 1)
    (cond (nat_lt MAX_FRAME (length (wire_bytes x)) || is_tmn_with_payload x.contents) (Err 3)
    (Ok (wire_bytes x)))

-- the code's answer by its numbers
abbrev pub numbered_result : Result ℕ Refusal → Result ℕ ℕ
numbered_result (Ok n) = Ok n
numbered_result (Err r) = Err (refusal_number r)

-- what is written is read as the message that it was made of
abbrev pub ReadsBack : FrameParts → Result ℕ Refusal → List ℕ → Type 0
ReadsBack x (Ok n) buffer = reading (take n buffer) ≡ message x
ReadsBack x (Err r) buffer = Unit {0}

-- bytes that are read as a message are what is written of it, in any buffer that is long enough
abbrev pub WritesAgain : List ℕ → Reading → Type 0
WritesAgain frame r = (x : FrameParts) (room : ℕ) → r ≡ message x → MAX_FRAME ≤ room → writing_result x room ≡ Ok frame
