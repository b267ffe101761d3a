-- The calls of a log, as the definitions have them.
use Rattle.std.specs.Prelude.{List, map}
use Rattle.protocol.specs.Calls.{Call}
use Rattle.entity.specs.CallViews as e
use Rattle.replay.specs.declared.logged.LoggedCall.{LoggedCall}

-- a call of a log, with the length of the buffer that was lent beside
abbrev pub logged_call : LoggedCall → Call
logged_call x = e.call_of x.call x.room

-- the calls of a log, the oldest first
abbrev pub logged_calls : List LoggedCall → List Call
logged_calls log = map logged_call log
