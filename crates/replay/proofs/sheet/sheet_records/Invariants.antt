use Rattle.std.proofs.Common.{length}
use Rattle.replay.proofs.Readers.{IsRead}
use Rattle.replay.proofs.sheet.sheet_records.Given as goal

abbrev pub invariant-loop-logged : goal.invariant-loop-logged
invariant-loop-logged l = IsRead l.log l.entries (length l.yielded) l.records.items l.sessions
