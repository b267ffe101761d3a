use Rattle.std.proofs.Common.{◌≡◌}
use Rattle.measured.specs.Returns.{return_count}
use Rattle.measured.proofs.records.crossings.Given as goal

abbrev pub invariant-loop-before : goal.invariant-loop-before
invariant-loop-before l = l.crossed ≡ return_count l.plain l.before
