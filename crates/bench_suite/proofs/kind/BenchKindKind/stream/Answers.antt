use Rattle.std.proofs.Common.{◌%◌, get_or, refl, arith}
use Rattle.suite_of.proofs.StreamTurns.{turn, end}
use Rattle.bench_suite.proofs.kind.BenchKindKind.stream.Goals as goal

pub loop-i-preserved : goal.loop-i-preserved
loop-i-preserved c = turn (λ k. get_or c.args.value.now (k % 16) 0) c.args.bytes.now c.loop-i.i c.loop-i.bytes _ (omega arith) refl c.loop-i.invariant

pub returns : goal.returns
returns c = end (λ k. get_or c.args.value.now (k % 16) 0) c.args.bytes.now c.loop-i.i c.loop-i.bytes (omega arith) c.loop-i.invariant
