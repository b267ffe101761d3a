-- Proofs, which need not be read: bytes XOR bytes.
use Rattle.std.specs.Prelude.{◌≡◌, ℕ, suc, List, [], ◌∷◌, length, refl}
use Rattle.std.proofs.Common.{sym, ap, arith}
use Rattle.std.proofs.lemmas.Nat.{xor_comm, xor_lt}
use Rattle.suite.specs.Meanings.{IsBytes}
use Rattle.bench_suite.specs.Benches.{xor_lists}

-- XOR does not ask for the order
pub xored_swap : (xs ys : List ℕ) → xor_lists xs ys ≡ xor_lists ys xs
xored_swap [] [] = refl
xored_swap [] (y ∷ ys) = refl
xored_swap (x ∷ xs) [] = refl
xored_swap (x ∷ xs) (y ∷ ys) =
    let e = xor_comm x y in
    let t = xored_swap xs ys in
    cc

-- bytes XOR bytes are bytes
pub xor_lists-bytes : (xs ys : List ℕ) → IsBytes xs → IsBytes ys → IsBytes (xor_lists xs ys)
xor_lists-bytes [] ys h k = tt
xor_lists-bytes (x ∷ xs) [] h k = tt
xor_lists-bytes (x ∷ xs) (y ∷ ys) h k = (xor_lt 8 x y h.0 k.0, xor_lists-bytes xs ys h.1 k.1)

-- lists of one length
pub xor_lists-length : (xs ys : List ℕ) → length xs ≡ length ys → length (xor_lists xs ys) ≡ length xs
xor_lists-length [] ys e = refl
xor_lists-length (x ∷ xs) [] e = sym e
xor_lists-length (x ∷ xs) (y ∷ ys) e = ap suc (xor_lists-length xs ys (omega arith))
