-- AES-128 encryption, from FIPS 197 section 5. The state is a list of sixteen bytes, the byte of row r and column c at r + 4 * c.
use Rattle.std.specs.Prelude.{ℕ, zero, suc, ◌+◌, ◌-◌, ◌*◌, ◌/◌, ◌%◌, cond, List, [], ◌∷◌, ◌++◌, map, ◌==◌, bit_xor, slice_index}
use Rattle.std.specs.List.{range_with_len}
use Rattle.aes128.specs.Field.{mul, power_low, sub_byte}
use Rattle.aes128.specs.Words.{byte_of, word_of}

-- sixteen bytes, given by the place
abbrev pub block : (ℕ → ℕ) → List ℕ
block f = map f (range_with_len 0 16)

-- SubBytes (5.1.1)
unfoldable pub sub_bytes : List ℕ → List ℕ
sub_bytes s = block (λ k. sub_byte (slice_index s k))

-- ShiftRows (5.1.2): row r moves to the left by r places
unfoldable pub shift_rows : List ℕ → List ℕ
shift_rows s = block (λ k. slice_index s (k % 4 + 4 * ((k / 4 + k % 4) % 4)))

-- MixColumns (5.1.3), one column
abbrev pub mix_column : ℕ → ℕ → ℕ → ℕ → List ℕ
mix_column a b c d =
    bit_xor (bit_xor (bit_xor (mul a 2) (mul b 3)) c) d
    ∷ bit_xor (bit_xor (bit_xor a (mul b 2)) (mul c 3)) d
    ∷ bit_xor (bit_xor (bit_xor a b) (mul c 2)) (mul d 3)
    ∷ bit_xor (bit_xor (bit_xor (mul a 3) b) c) (mul d 2)
    ∷ []

-- MixColumns of the column that begins at the place k
abbrev pub mix_at : List ℕ → ℕ → List ℕ
mix_at s k = mix_column (slice_index s k) (slice_index s (k + 1)) (slice_index s (k + 2)) (slice_index s (k + 3))

-- MixColumns (5.1.3), all four columns
unfoldable pub mix_columns : List ℕ → List ℕ
mix_columns s = mix_at s 0 ++ (mix_at s 4 ++ (mix_at s 8 ++ mix_at s 12))

-- AddRoundKey (5.1.4): the words 4 r to 4 r + 3 of the key schedule ws are added
unfoldable pub add_round_key : List ℕ → ℕ → List ℕ → List ℕ
add_round_key ws r s = block (λ k. bit_xor (slice_index s k) (byte_of (slice_index ws (4 * r + k / 4)) (k % 4)))

-- Key expansion (5.2).

-- SubWord: the S-box at each byte of a word
unfoldable pub sub_word : ℕ → ℕ
sub_word w = word_of (sub_byte (byte_of w 0)) (sub_byte (byte_of w 1)) (sub_byte (byte_of w 2)) (sub_byte (byte_of w 3))

-- RotWord: the bytes of a word, one place to the left
unfoldable pub rot_word : ℕ → ℕ
rot_word w = word_of (byte_of w 1) (byte_of w 2) (byte_of w 3) (byte_of w 0)

-- Rcon: x^(i-1) in the highest byte
unfoldable pub rcon : ℕ → ℕ
rcon i = word_of (power_low 8 (i - 1) 2) 0 0 0

-- the word i, from the words before it
unfoldable pub next_word : ℕ → List ℕ → ℕ
next_word i ws =
    bit_xor (slice_index ws (i - 4))
    (cond (i % 4 == 0) (bit_xor (sub_word (rot_word (slice_index ws (i - 1)))) (rcon (i / 4))) (slice_index ws (i - 1)))

-- the key's four words, and n more
abbrev pub key_words : List ℕ → ℕ → List ℕ
key_words key zero =
    map (λ c. word_of (slice_index key (4 * c)) (slice_index key (4 * c + 1)) (slice_index key (4 * c + 2)) (slice_index key (4 * c + 3))) (range_with_len 0 4)
key_words key (suc n) = key_words key n ++ (next_word (n + 4) (key_words key n) ∷ [])

-- the 44 words of the expanded key
unfoldable pub schedule : List ℕ → List ℕ
schedule key = key_words key 40

-- Cipher (5.1): n rounds, each of the four steps
abbrev pub rounds : List ℕ → ℕ → List ℕ → List ℕ
rounds ws zero s = s
rounds ws (suc n) s = add_round_key ws (suc n) (mix_columns (shift_rows (sub_bytes (rounds ws n s))))

-- Cipher (5.1) under a key schedule: ten rounds, the last without MixColumns
unfoldable pub cipher_with : List ℕ → List ℕ → List ℕ
cipher_with ws input = add_round_key ws 10 (shift_rows (sub_bytes (rounds ws 9 (add_round_key ws 0 input))))

-- Cipher (5.1) under a key of sixteen bytes
abbrev pub cipher : List ℕ → List ℕ → List ℕ
cipher key input = cipher_with (schedule key) input

-- the state that four words hold
abbrev pub state_of : List ℕ → List ℕ
state_of ws = block (λ k. byte_of (slice_index ws (k / 4)) (k % 4))
