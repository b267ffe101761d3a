-- Each byte of the secret, XOR 5A.
use Rattle.std.proofs.Common.{bit_xor, rules}
use Rattle.bench_suite.proofs.Arrays.{mapped}
use Rattle.bench_suite.proofs.kind.BenchKindKind.link.Goals as goal

pub returns : goal.returns
returns c = mapped _ (λ x. bit_xor x 0x5A) _ _ _ _ c.told-value (λ p x y q k. search rules) c.map.ensures.items
