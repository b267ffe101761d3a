-- A call of the code, and what it brings, as the definitions have them.
use Rattle.std.specs.Prelude.{ℕ}
use Rattle.protocol.specs.Models as m
use Rattle.protocol.specs.Calls as c
use Rattle.entity.specs.declared.ancillary.Ancillary.{Ancillary}
use Rattle.entity.specs.declared.ancillary.FittedAncillary.{FittedAncillary}
use Rattle.entity.specs.declared.call.Call.{Call}
use Rattle.entity.specs.declared.call.Call.TheVariants.{Invoke, Send, RetrieveData, RetrieveSecret, Terminate, Frame, Release}

-- what a call brings beside a frame
abbrev pub ancillary_of : Ancillary → m.Ancillary
ancillary_of beside = record { seed = beside.seed.now }

-- the same, of what is known to fit
abbrev pub fitted_ancillary : FittedAncillary → m.Ancillary
fitted_ancillary beside = record { seed = beside.seed.now }

-- a call, with the length of the buffer that it is lent
abbrev pub call_of : Call → ℕ → c.Call
call_of (Invoke service pid seed) room = c.invoke service pid seed.now room
call_of (Send plain) room = c.send plain.now room
call_of RetrieveData room = c.retrieve_data room
call_of RetrieveSecret room = c.retrieve_secret room
call_of Terminate room = c.terminate room
call_of (Frame bytes beside) room = c.frame bytes.now (ancillary_of beside) room
call_of Release room = c.release
