-- What the results of calls are to the definitions.
use Rattle.std.specs.Prelude.{ℕ, cond, List, take, Ok, Err, Result}
use Rattle.frame.specs.declared.types.Message.{Message}
use Rattle.frame.specs.declared.types.Service.{Service}
use Rattle.frame.specs.declared.faults.CodecFault.{CodecFault}
use Rattle.frame.specs.Frames.{FrameParts, parts_of}
use Rattle.protocol.specs.declared.outcomes.Outcome.{Outcome}
use Rattle.protocol.specs.declared.faults.SuiteFault.{SuiteFault}
use Rattle.protocol.specs.declared.faults.Fault.{Fault}
use Rattle.protocol.specs.declared.faults.MachineFault.{MachineFault}
use Rattle.protocol.specs.declared.faults.Cause.TheVariants.{OtherService}
use Rattle.protocol.specs.Models.{Model}
use Rattle.protocol.specs.Steps.{is_same_service}

-- role, number and data
abbrev pub record_result : Result (ℕ × ℕ × ℕ) SuiteFault → List ℕ → Result (ℕ × ℕ × List ℕ) SuiteFault
record_result (Ok t) scratch = Ok (t.0, t.1, take t.2 scratch)
record_result (Err e) scratch = Err e

-- what a service that is put into effect leaves of the entity, and the serial of the key made for it
abbrev pub model_of_start : Model → Result (Model × ℕ) SuiteFault → Model
model_of_start m (Ok c) = c.0
model_of_start m (Err e) = m

-- the serial of the key made for it, or why there is none
abbrev pub serial_of_start : Result (Model × ℕ) SuiteFault → Result ℕ SuiteFault
serial_of_start (Ok c) = Ok c.1
serial_of_start (Err e) = Err e

-- M2 where the service is not the session's
abbrev pub session_result : Model → Service → Result (Unit {0}) MachineFault
session_result m service =
    cond (is_same_service service m.service) (Ok tt) (Err (record { cause = OtherService; state = m.state }))

-- a message that was read, or a codec fault
abbrev pub reading_parts : Result Message CodecFault → Result FrameParts CodecFault
reading_parts (Ok m) = Ok (parts_of m)
reading_parts (Err f) = Err f

-- the machine's part of an entity's fault
abbrev pub machine_result : Result Outcome Fault → Result Outcome MachineFault
machine_result (Ok o) = Ok o
machine_result (Err f) = Err f.machine
