-- A frame that was read has at most MAX_PAYLOAD bytes after its SEP.
use Rattle.std.proofs.Common.{sym}
use Rattle.frame.specs.Frames.{parts_of}
use Rattle.frame.proofs.Trips.{read_short}
use Rattle.entity.proofs.entity.Entity.admit.Goals as goal

pub returns-in-Ok-2-clause-short : goal.returns-in-Ok-2-clause-short
returns-in-Ok-2-clause-short g c = read_short c.args.frame.now (parts_of c.in-Ok.message) (sym c.in-Ok.ensures.answer)
