-- The rule of the tables of a round: an entry has four multiples of a byte of the S-box, rotated by the row. antt computes the test of it.
use Rattle.std.proofs.Common.{◌≡◌, ℕ, ◌<◌, Bool, true, false, ◌&&◌, eqb, List, [], ◌∷◌, length, get_or, refl, arith}
use Rattle.std.proofs.lemmas.Bool.{and_parts, eqb-true}
use Rattle.std.specs.List.{slice_rotate_right}
use Rattle.aes128.specs.Field.{mul, power_low, inverse, sub_byte}
use Rattle.aes128.specs.Words.{word_bytes}
use Rattle.aes128.specs.declared.tables.TheConstants.{MIXED}
use Rattle.aes128.proofs.TableRules.{at, passes}

-- the test that two lists of bytes are equal
abbrev pub same_bytes : List ℕ → List ℕ → Bool
same_bytes [] [] = true
same_bytes [] (y ∷ ys) = false
same_bytes (x ∷ xs) [] = false
same_bytes (x ∷ xs) (y ∷ ys) = eqb x y && same_bytes xs ys

same : (xs ys : List ℕ) → same_bytes xs ys ≡ true → xs ≡ ys
same [] [] t = cc
same [] (y ∷ ys) t = cc
same (x ∷ xs) [] t = cc
same (x ∷ xs) (y ∷ ys) t =
    let p = and_parts (eqb x y) (same_bytes xs ys) t in
    let e = eqb-true x y p.0 in
    let r = same xs ys p.1 in
    cc

-- what the byte s of the S-box adds to a mixed column from a row
abbrev pub row_bytes : ℕ → ℕ → List ℕ
row_bytes row s = slice_rotate_right (mul s 2 ∷ s ∷ s ∷ mul s 3 ∷ []) row

abbrev entry_passes : ℕ → ℕ → ℕ → Bool
entry_passes row x w = same_bytes (word_bytes w) (row_bytes row (sub_byte x))

abbrev row_passes : ℕ → List ℕ → Bool
row_passes row ws = eqb (length ws) 256 && passes (entry_passes row) 0 ws

pub mixed_at : (row x : ℕ) → row < 4 → x < 256 → word_bytes (get_or (get_or MIXED row []) x 0) ≡ row_bytes row (sub_byte x)
unfolding sub_byte inverse power_low mul
mixed_at row x h g =
    let ws = get_or MIXED row [] in
    let p = and_parts (eqb (length ws) 256) (passes (entry_passes row) 0 ws) (at row_passes MIXED refl row [] h) in
    let len : length ws ≡ 256 = eqb-true (length ws) 256 p.0 in
    same (word_bytes (get_or ws x 0)) (row_bytes row (sub_byte x)) (at (entry_passes row) ws p.1 x 0 (omega arith))
