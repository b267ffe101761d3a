-- What a quota means, by what the suite below it means.
use Rattle.std.specs.Prelude.{ℕ, ◌+◌, min, Ok, Err, Result}
use Rattle.suite.specs.declared.types.Denial.{Denial}
use Rattle.suite.specs.Meanings.{Meaning, with_last}
use Rattle.quota.specs.declared.layer.Quota.{Quota}

-- at most k further keys: the last serial is the smaller of the one below and the newest serial plus k
abbrev pub limited_meaning : Meaning → ℕ → Meaning
limited_meaning m k = with_last m (min m.last (m.newest + k))

-- The allowance falls by one with each key made, as the newest serial rises by one: the last serial stays.
abbrev pub quota_meaning : {S : Type 0} → (S → Meaning) → Quota S → Meaning
quota_meaning meaning q = limited_meaning (meaning q.below) q.left

-- how many keys a call made, by its answer
abbrev pub keys_made : Result ℕ Denial → ℕ
keys_made (Ok serial) = 1
keys_made (Err e) = 0
