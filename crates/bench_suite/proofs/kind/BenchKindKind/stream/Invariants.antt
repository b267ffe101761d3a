use Rattle.std.proofs.Common.{◌%◌, get_or}
use Rattle.suite_of.proofs.StreamTurns.{Done}
use Rattle.bench_suite.proofs.kind.BenchKindKind.stream.Given as goal

abbrev pub invariant-loop-i : goal.invariant-loop-i
invariant-loop-i l = Done (λ k. get_or l.value (k % 16) 0) l.initial.bytes l.i l.bytes
