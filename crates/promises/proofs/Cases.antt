-- Proofs by the cases of a test.
use Rattle.std.proofs.Common.{◌≡◌, Bool, true, false, cond}
use Rattle.std.proofs.lemmas.Bool.{both_ways, cond_both}

pub both : {A : Type 0} (b : Bool) (P : A → Type 0) {x y : A} → (b ≡ true → P x) → (b ≡ false → P y) → P (cond b x y)
both b P {x} {y} f g = cond_both b x y P f g

-- a test does not come out both ways
pub clash : {X : Type 0} (b : Bool) → b ≡ false → b ≡ true → X
clash b p q = absurd (both_ways b p q)
