-- Laws of blocks.
use Rattle.aes128.specs.Cipher.{block, cipher_with}
use Rattle.std.proofs.Common.{◌≡◌, ℕ, zero, suc, ◌+◌, ◌-◌, ◌*◌, ◌/◌, ◌%◌, ◌<◌, ◌≤◌, Bool, true, false, cond, eqb, List, ◌++◌, length, get_or, take, drop, set, replicate, sym, ap, ◌∙◌, refl, arith, length-drop, eq-eqb, ne_eqb, lt-ltb, le-ltb}
use Rattle.std.proofs.lemmas.Bool.{eqb-true}
use Rattle.std.proofs.lemmas.Grind.{common_steps}
use Rattle.std.proofs.lemmas.List.{get_or-drop, get_or-take, length-take-le}
use Rattle.std.proofs.lemmas.List.FromFn.{fill_by_all}
use Rattle.cmac.specs.Cmac.{xor_block, shift_left, rb, double, block_at, pad_byte, padding, chain_value, blocks_before_last, last_block, subkey1, subkey2}

-- sixteen bytes that are given by their places
pub block_of : (f : ℕ → ℕ) (xs : List ℕ) → length xs ≡ 16 → ((k : ℕ) → k < 16 → get_or xs k 0 ≡ f k) → xs ≡ block f
block_of f xs e h = fill_by_all f xs 16 0 e h

pub zero_at : (n k : ℕ) → get_or (replicate {A = ℕ} n 0) k 0 ≡ 0
zero_at zero k = refl
zero_at (suc n) zero = refl
zero_at (suc n) (suc k) = zero_at n k

-- the bytes of m over zeros, with the bit behind them
pub padded : (m zs : List ℕ) → length m < 16 → length zs ≡ 16 → ((k : ℕ) → get_or zs k 0 ≡ 0) → set (m ++ drop (length m) zs) (length m) 0x80 ≡ padding m
unfolding padding
padded m zs h e z = block_of (pad_byte m) (set (m ++ drop (length m) zs) (length m) 0x80) (grind (arith, common_steps)) (λ k g. grind (arith, common_steps))

block_at-take : (m : List ℕ) (p : ℕ) → p + 16 ≤ length m → take 16 (drop p m) ≡ block_at m p
unfolding block_at
block_at-take m p h =
    let rest : 16 ≤ length (drop p m) = simp length-drop (omega arith) in
    block_of (λ k. get_or m (p + k) 0) (take 16 (drop p m)) (length-take-le 16 (drop p m) rest) (λ k g. get_or-take 16 (drop p m) k 0 g ∙ get_or-drop p m k 0)

block_at-drop : (m : List ℕ) (p : ℕ) → block_at (drop p m) 0 ≡ block_at m p
unfolding block_at
block_at-drop m p = simp get_or-drop

-- the choice between a whole block and a padded one, at the place p
abbrev choice : List ℕ → List ℕ → ℕ → Bool → List ℕ
choice ws m p whole = cond whole (xor_block (block_at m p) (subkey1 ws)) (xor_block (padding (drop p m)) (subkey2 ws))

pub whole : (ws m : List ℕ) → length m ≡ 16 → last_block ws m ≡ xor_block m (subkey1 ws)
unfolding last_block block_at xor_block
whole ws m h =
    let p : 16 * blocks_before_last m ≡ 0 = omega arith in
    let t : eqb (16 * blocks_before_last m + 16) (length m) ≡ true = eq-eqb (16 * blocks_before_last m + 16) (length m) (omega arith) in
    ap (choice ws m (16 * blocks_before_last m)) t ∙ ap (λ (q : ℕ). xor_block (block_at m q) (subkey1 ws)) p

pub short : (ws m : List ℕ) → length m < 16 → last_block ws m ≡ xor_block (padding m) (subkey2 ws)
unfolding last_block
short ws m h =
    let p : 16 * blocks_before_last m ≡ 0 = omega arith in
    let t : eqb (16 * blocks_before_last m + 16) (length m) ≡ false = ne_eqb (16 * blocks_before_last m + 16) (length m) (λ e. omega arith) in
    ap (choice ws m (16 * blocks_before_last m)) t ∙ ap (λ (q : ℕ). xor_block (padding (drop q m)) (subkey2 ws)) p

-- two equations that follow from each other have one test
tests : (a b c d : ℕ) (t : Bool) → eqb a b ≡ t → (a ≡ b → c ≡ d) → (c ≡ d → a ≡ b) → eqb c d ≡ t
tests a b c d true e f g = eq-eqb c d (f (eqb-true a b e))
tests a b c d false e f g = ne_eqb c d (λ x. let y = eq-eqb a b (g x) in cc)

-- the last block as the rest of a text behind the blocks before it
pub last_block-drop : (ws m : List ℕ) → last_block ws (drop (16 * blocks_before_last m) m) ≡ last_block ws m
unfolding last_block
last_block-drop ws m =
    let p = 16 * blocks_before_last m in
    let rest = drop p m in
    let len : length rest ≡ length m - p = simp length-drop refl in
    let q : 16 * blocks_before_last rest ≡ 0 = omega arith in
    let t : eqb (16 * blocks_before_last rest + 16) (length rest) ≡ eqb (p + 16) (length m) = tests (p + 16) (length m) (16 * blocks_before_last rest + 16) (length rest) (eqb (p + 16) (length m)) refl (λ e. omega arith) (λ e. omega arith) in
    ap (λ (n : ℕ). choice ws rest n (eqb (16 * blocks_before_last rest + 16) (length rest))) q
    ∙ (ap (choice ws rest 0) t
    ∙ ap (λ (b : List ℕ). cond (eqb (p + 16) (length m)) (xor_block b (subkey1 ws)) (xor_block (padding rest) (subkey2 ws))) (block_at-drop m p))

-- one block more: d bytes are done, and rest is left of the text m
pub more : (ws m rest b x y : List ℕ) (d e : ℕ) → d % 16 ≡ 0 → d + 16 ≤ length m → e ≡ d + 16 → rest ≡ drop d m → b ≡ take 16 rest
    → x ≡ chain_value ws m (d / 16) → y ≡ cipher_with ws (xor_block x b) → y ≡ chain_value ws m (e / 16)
more ws m rest b x y d e w h a r t c g =
    let place : 16 * (d / 16) ≡ d = omega arith in
    let next : e / 16 ≡ suc (d / 16) = omega arith in
    let at = block_at-take m d h in
    let step : y ≡ cipher_with ws (xor_block (chain_value ws m (d / 16)) (block_at m (16 * (d / 16)))) = cc in
    step ∙ ap (chain_value ws m) (sym next)

-- doubling, where no bit falls out and where one does
pub doubled_low : (s t : List ℕ) → get_or s 0 0 < 128 → t ≡ shift_left s → t ≡ double s
unfolding double
doubled_low s t h e =
    let test = lt-ltb (get_or s 0 0) 128 h in
    cc

pub doubled_high : (s t x : List ℕ) → 128 ≤ get_or s 0 0 → t ≡ shift_left s → x ≡ xor_block t rb → x ≡ double s
unfolding double
doubled_high s t x h e f =
    let test = le-ltb (get_or s 0 0) 128 h in
    cc
