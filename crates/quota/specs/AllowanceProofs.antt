-- Proofs, which need not be read: a meaning under an allowance is well formed.
use Rattle.std.specs.Prelude.{ℕ}
use Rattle.std.proofs.Common.{arith}
use Rattle.suite.specs.Meanings.{Meaning, IsWellFormed}
use Rattle.quota.specs.Allowances.{limited_meaning}

pub limited_meaning-formed : (m : Meaning) (k : ℕ) → IsWellFormed m → IsWellFormed (limited_meaning m k)
limited_meaning-formed m k w =
    let low = w.last in
    let most = w.newest in
    record {
      keyring = w.keyring;
      newest = omega arith;
      last = omega arith;
    }
