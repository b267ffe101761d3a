-- The power 254 is the multiplicative inverse: one test over the bytes.
use Rattle.std.proofs.Common.{◌≡◌, ℕ, Bool, true, cond, eqb, refl, subst, arith}
use Rattle.std.proofs.lemmas.Bool.{ne_eqb, eqb-true}
use Rattle.std.specs.List.{range_with_len}
use Rattle.aes128.specs.Field.{mul, power_low, inverse, InverseStands}
use Rattle.aes128.proofs.TableRules.{at}

right : ℕ → ℕ → Bool
right k x = cond (eqb k 0) true (eqb (mul k (inverse k)) 1)

pub inverses : InverseStands
unfolding right mul power_low inverse
inverses a h g =
    let e = ne_eqb a 0 (λ z. omega arith) in
    eqb-true (mul a (inverse a)) 1 (subst (λ b. cond b true (eqb (mul a (inverse a)) 1) ≡ true) e (at right (range_with_len 0 256) refl a 0 g))
