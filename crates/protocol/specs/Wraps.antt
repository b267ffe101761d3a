-- What is added to a fault on its way up.
use Rattle.std.specs.Prelude.{ℕ, Ok, Err, Result}
use Rattle.protocol.specs.declared.states.State.{State}
use Rattle.protocol.specs.declared.faults.FaultInState.{FaultInState}
use Rattle.protocol.specs.declared.faults.FaultAtMessage.{FaultAtMessage}

-- the state that it was met in
abbrev pub result_in_state : {A E : Type 0} → State → Result A E → Result A (FaultInState E)
result_in_state state (Ok x) = Ok x
result_in_state state (Err e) = Err (record { fault = e; state = state })

-- the code of the message at which it was met
abbrev pub result_at_message : {A E : Type 0} → ℕ → Result A E → Result A (FaultAtMessage E)
result_at_message message (Ok x) = Ok x
result_at_message message (Err e) = Err (record { fault = e; message = message })
