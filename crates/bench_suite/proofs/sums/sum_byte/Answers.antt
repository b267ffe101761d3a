-- Adding byte by byte modulo 256 keeps the sum modulo 256.
use Rattle.std.proofs.Common.{◌≡◌, ◌+◌, ◌%◌, fold, refl, ◌∙◌, arith, rules}
use Rattle.std.proofs.lemmas.List.Folds.{fold_along}
use Rattle.bench_suite.proofs.sums.sum_byte.Goals as goal

pub returns : goal.returns
returns c =
    let xs = c.args.bytes.now in
    let folded : c.fold.result ≡ fold (λ a x. (a + x) % 256) 0 xs = search rules in
    folded ∙ fold_along (λ a x. (a + x) % 256) (λ a x. a + x) (λ a b. a ≡ b % 256) (λ a b x e. omega arith) 0 0 xs refl
