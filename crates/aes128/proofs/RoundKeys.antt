-- Laws of round keys: their words, and the key that a round adds.
use Rattle.std.proofs.Common.{◌≡◌, ℕ, ◌+◌, ◌*◌, ◌/◌, ◌%◌, ◌<◌, List, [], get_or, ◌∙◌, arith}
use Rattle.std.proofs.lemmas.List.FromFn.{get_or-map-range_with_len}
use Rattle.aes128.specs.Cipher.{add_round_key, sub_bytes, shift_rows}
use Rattle.aes128.specs.Fours.{number_in_fours, words_of_round_keys}

pub in_fours_at : (xss : List (List ℕ)) (n j : ℕ) → j < 4 → number_in_fours xss (4 * n + j) ≡ get_or (get_or xss n []) j 0
in_fours_at xss n j h =
    let row : (4 * n + j) / 4 ≡ n = omega arith in
    let place : (4 * n + j) % 4 ≡ j = omega arith in
    cc

word_at : (keys : List (List ℕ)) (n j : ℕ) → n < 11 → j < 4 → get_or (words_of_round_keys keys) (4 * n + j) 0 ≡ get_or (get_or keys n []) j 0
unfolding words_of_round_keys
word_at keys n j h g = get_or-map-range_with_len (number_in_fours keys) 0 44 (4 * n + j) (4 * n + j) 0 (omega arith) (omega arith) ∙ in_fours_at keys n j g

-- a round adds the four words of its own key
pub add_key : (keys : List (List ℕ)) (n : ℕ) (s : List ℕ) → n < 11 → add_round_key (get_or keys n []) 0 s ≡ add_round_key (words_of_round_keys keys) n s
unfolding add_round_key
add_key keys n s h =
    let e0 = word_at keys n 0 h (omega arith) in
    let e1 = word_at keys n 1 h (omega arith) in
    let e2 = word_at keys n 2 h (omega arith) in
    let e3 = word_at keys n 3 h (omega arith) in
    cc

-- SubBytes and ShiftRows, in either order
pub sub-shift : (s : List ℕ) → sub_bytes (shift_rows s) ≡ shift_rows (sub_bytes s)
unfolding sub_bytes shift_rows
sub-shift s = cc
