-- The rule of a table, proved at every entry by one test that is computed over the whole table.
use Rattle.std.proofs.Common.{◌≡◌, ℕ, zero, suc, ◌+◌, ◌<◌, Bool, true, ◌&&◌, eqb, List, [], ◌∷◌, length, get_or, subst, zero-add, arith}
use Rattle.std.proofs.lemmas.Bool.{and_parts, eqb-true}

-- the test passes at each entry and its place, counted from i
abbrev pub passes : {A : Type 0} → (ℕ → A → Bool) → ℕ → List A → Bool
passes test i [] = true
passes test i (x ∷ xs) = test i x && passes test (suc i) xs

from : {A : Type 0} (test : ℕ → A → Bool) (xs : List A) (i k : ℕ) (d : A) → passes test i xs ≡ true → k < length xs → test (i + k) (get_or xs k d) ≡ true
from test [] i k d t h = absurd (omega arith)
from test (x ∷ xs) i zero d t h =
    let e : i ≡ i + 0 = omega arith in
    subst (λ n. test n x ≡ true) e (and_parts (test i x) (passes test (suc i) xs) t).0
from test (x ∷ xs) i (suc k) d t h =
    let e : suc i + k ≡ i + suc k = omega arith in
    subst (λ n. test n (get_or xs k d) ≡ true) e (from test xs (suc i) k d (and_parts (test i x) (passes test (suc i) xs) t).1 (omega arith))

pub at : {A : Type 0} (test : ℕ → A → Bool) (xs : List A) → passes test 0 xs ≡ true → (k : ℕ) (d : A) → k < length xs → test k (get_or xs k d) ≡ true
at test xs t k d h = subst (λ n. test n (get_or xs k d) ≡ true) (zero-add k) (from test xs 0 k d t h)

-- the entry k is f k
pub entries : (f : ℕ → ℕ) (xs : List ℕ) (k : ℕ) → k < length xs → passes (λ i x. eqb x (f i)) 0 xs ≡ true → get_or xs k 0 ≡ f k
entries f xs k h t = eqb-true (get_or xs k 0) (f k) (at (λ i x. eqb x (f i)) xs t k 0 h)
