-- At each place the XOR of the two offers' bytes.
use Rattle.std.proofs.Common.{◌≡◌, ℕ, zero, suc, ◌<◌, List, [], ◌∷◌, length, get_or, bit_xor, refl, sym, ◌∙◌, arith, rules}
use Rattle.std.proofs.lemmas.Grind.{same_number_lists}
use Rattle.bench_suite.specs.Benches.{xor_lists}
use Rattle.bench_suite.specs.XorProofs.{xor_lists-length}
use Rattle.bench_suite.proofs.Arrays.{made_at}
use Rattle.bench_suite.proofs.kind.BenchKindKind.secret.Goals as goal

xored_at : (xs ys : List ℕ) (k : ℕ) → k < length xs → k < length ys → get_or (xor_lists xs ys) k 0 ≡ bit_xor (get_or xs k 0) (get_or ys k 0)
xored_at [] ys k h i = absurd (omega arith)
xored_at (x ∷ xs) [] k h i = absurd (omega arith)
xored_at (x ∷ xs) (y ∷ ys) zero h i = refl
xored_at (x ∷ xs) (y ∷ ys) (suc k) h i = xored_at xs ys k (omega arith) (omega arith)

pub returns : goal.returns
returns c =
    let xs = c.args.seed.now in
    let ys = c.args.offer.now in
    let items = c.from_fn.ensures.items in
    let n = xor_lists-length xs ys (c.told-seed ∙ sym c.told-offer) in
    same_number_lists _ _ (items.long ∙ sym (n ∙ c.told-seed)) (λ k low.
    let below : k < 16 = omega (arith, items.long) in
    made_at _ (λ i. bit_xor (get_or xs i 0) (get_or ys i 0)) _ _ (λ i y q h. search rules) 0 16 k k (omega arith) below items.each
    ∙ sym (xored_at xs ys k (omega (arith, c.told-seed)) (omega (arith, c.told-offer))))
