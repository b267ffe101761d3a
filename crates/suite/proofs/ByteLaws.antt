-- That numbers are bytes.
use Rattle.std.proofs.Common.{◌≡◌, ℕ, ◌%◌, ◌<◌, true, eqb, List, length, get_or, ⊎_elim, arith}
use Rattle.std.proofs.ByRecursion.{All-from_get_or}
use Rattle.std.proofs.lemmas.Bool.{eqb-true, or_cases}
use Rattle.suite.specs.Meanings.{IsBytes16}
use Rattle.suite.specs.Schemes.{is_role}

-- sixteen bytes, by what stands at each place
pub bytes16_from : (xs : List ℕ) → length xs ≡ 16 → ((k : ℕ) → get_or xs k 0 < 256) → IsBytes16 xs
bytes16_from xs long at = record { long = long; bytes = All-from_get_or (λ x. x < 256) xs 0 (λ k low. at k) }

-- a role is a byte
pub role_byte-small : (role : ℕ) → is_role role ≡ true → role < 256
role_byte-small role ok =
    ⊎_elim
    (λ a. let e = eqb-true role 1 a in omega arith)
    (λ a. let e = eqb-true role 2 a in omega arith)
    (or_cases (eqb role 1) (eqb role 2) ok)

-- what is left modulo 256 is a byte
pub low_byte : (n : ℕ) → n % 256 < 256
low_byte n = omega arith
