-- The two texts of what a call of an entity answered, of the bytes that it wrote (their text), and of the state and the number in which it
-- left the entity.
use Rattle.std.specs.Prelude.{ℕ, List, [], ◌∷◌, ◌++◌, codes, Some, None, Ok, Err, Option, Result}
use Rattle.std.specs.Fmt.{decimal}
use Rattle.hex_text.specs.Hex.{digits_of}
use Rattle.frame.specs.Words.{code_words}
use Rattle.protocol.specs.declared.states.State.{State}
use Rattle.protocol.specs.declared.outcomes.Outcome.{Outcome}
use Rattle.protocol.specs.declared.refusals.Refusal.{Refusal}
use Rattle.protocol.specs.declared.faults.Fault.{Fault}
use Rattle.protocol.specs.Numbers.{state_mark, confirmation_number, refusal_number, cause_code}
use Rattle.protocol.specs.Words.{state_words, confirmation_words, destroyed_words, refusal_words}

-- a dash for no bytes, else two capital digits for each
abbrev pub bytes_text : List ℕ → List ℕ
bytes_text [] = codes "-"
bytes_text (b ∷ bs) = digits_of (b ∷ bs)

-- What both texts have in common.

-- the name of the fault and the place of the byte that it speaks of, the state in which it was met, and the code of the message
abbrev pub fault_text : Option Fault → List ℕ
fault_text None = codes "fault none"
fault_text (Some fault) = codes "fault " ++ code_words (cause_code fault.machine.cause)
    ++ codes " place " ++ decimal (cause_code fault.machine.cause).place
    ++ codes " state " ++ decimal (state_mark fault.machine.state) ++ codes " message " ++ decimal fault.message

-- the serials of the key made and of the keys destroyed
abbrev pub keys_text : Outcome → List ℕ
keys_text outcome = codes "made " ++ decimal outcome.made ++ codes ", " ++ destroyed_words outcome.destroyed

-- what follows an outcome's confirmation
abbrev pub report_text : Outcome → List ℕ → List ℕ
report_text outcome wrote =
    codes "wrote " ++ wrote ++ codes ", " ++ keys_text outcome ++ codes ", " ++ fault_text outcome.fault

-- The plain text: numbers alone.

abbrev pub plain_answer : Result Outcome Refusal → List ℕ → List ℕ
plain_answer (Ok outcome) wrote = codes "confirmation " ++ decimal (confirmation_number outcome.confirmation)
    ++ codes ", " ++ report_text outcome wrote
plain_answer (Err refusal) wrote = codes "refused " ++ decimal (refusal_number refusal)

abbrev pub plain_text : Result Outcome Refusal → List ℕ → State → ℕ → List ℕ
plain_text answer wrote state number = plain_answer answer wrote
    ++ codes "; state " ++ decimal (state_mark state) ++ codes ", number " ++ decimal number

-- The worded text: with the words for confirmation, refusal and state.

abbrev pub worded_answer : Result Outcome Refusal → List ℕ → List ℕ
worded_answer (Ok outcome) wrote = codes "confirmation " ++ decimal (confirmation_number outcome.confirmation)
    ++ codes " " ++ confirmation_words outcome.confirmation ++ codes ", " ++ report_text outcome wrote
worded_answer (Err refusal) wrote =
    codes "refused " ++ decimal (refusal_number refusal) ++ codes ", " ++ refusal_words refusal

abbrev pub worded_text : Result Outcome Refusal → List ℕ → State → ℕ → List ℕ
worded_text answer wrote state number = worded_answer answer wrote
    ++ codes "; " ++ state_words state ++ codes ", number " ++ decimal number
