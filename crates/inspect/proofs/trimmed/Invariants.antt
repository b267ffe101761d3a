use Rattle.std.proofs.Common.{length}
use Rattle.inspect.proofs.trimmed.Given as goal

abbrev pub decreases-loop-line : goal.decreases-loop-line
decreases-loop-line l = length l.line

abbrev pub decreases-loop-line-2 : goal.decreases-loop-line-2
decreases-loop-line-2 l = length l.line
