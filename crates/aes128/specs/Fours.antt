-- States and round keys as the code holds them: in lists of four.
use Rattle.std.specs.Prelude.{ℕ, ◌/◌, ◌%◌, List, [], ◌∷◌, map, bit_xor, slice_index, slice_index_or}
use Rattle.std.specs.List.{range_with_len}
use Rattle.aes128.specs.Cipher.{block, sub_word, rot_word}

-- the four words after four whose place is a multiple of four; c is their round constant
abbrev pub key_after : List ℕ → ℕ → List ℕ
key_after key c =
    let w0 = bit_xor (slice_index key 0) (bit_xor (sub_word (rot_word (slice_index key 3))) c) in
    let w1 = bit_xor (slice_index key 1) w0 in
    let w2 = bit_xor (slice_index key 2) w1 in
    w0 ∷ w1 ∷ w2 ∷ bit_xor (slice_index key 3) w2 ∷ []

-- the number i of numbers that lie in lists of four
abbrev pub number_in_fours : List (List ℕ) → ℕ → ℕ
number_in_fours xss i = slice_index (slice_index_or xss (i / 4) []) (i % 4)

-- the state that four columns hold
abbrev pub state_of_columns : List (List ℕ) → List ℕ
state_of_columns columns = block (number_in_fours columns)

-- the words of eleven round keys
unfoldable pub words_of_round_keys : List (List ℕ) → List ℕ
words_of_round_keys keys = map (number_in_fours keys) (range_with_len 0 44)
