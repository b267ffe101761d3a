-- What it says of a byte that a role is read from it.
use Rattle.std.proofs.Common.{◌≡◌, ℕ, true, Ok, subst, arith}
use Rattle.std.proofs.lemmas.Grind.{common_steps}
use Rattle.suite.specs.declared.types.Role.{Role}
use Rattle.suite.specs.Numbers.{role_byte, role_of}
use Rattle.suite.specs.Schemes.{is_role}
use Rattle.suite.proofs.CallLaws as calls

-- it is that role's byte
pub role_back : (b : ℕ) (r : Role) → role_of b ≡ Ok r → role_byte r ≡ b
role_back b r e = grind (arith, common_steps)

-- so it is a role's
pub role_ok : (b : ℕ) (r : Role) → role_of b ≡ Ok r → is_role b ≡ true
role_ok b r e = let P : ℕ → Type 0 = λ z. is_role z ≡ true in subst P (role_back b r e) (calls.role_ok r)
