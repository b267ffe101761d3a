-- A cipher block is sixteen bytes, whatever the words of the key and the input are.
use Rattle.std.proofs.Common.{◌≡◌, ℕ, zero, suc, ◌+◌, ◌*◌, ◌/◌, ◌%◌, ◌<◌, List, [], ◌∷◌, length, get_or, refl, arith, lit<}
use Rattle.std.specs.List.{AllByRecursion}
use Rattle.std.proofs.lemmas.Nat.{xor_lt}
use Rattle.aes128.specs.Field.{sub_byte}
use Rattle.aes128.specs.Words.{byte_of}
use Rattle.aes128.specs.Cipher.{block, sub_bytes, shift_rows, add_round_key, cipher_with}

-- a fact of each place is one of each byte
pub block-all : (P : ℕ → Type 0) (f : ℕ → ℕ) → ((k : ℕ) → P (f k)) → AllByRecursion P (block f)
block-all P f h = (h 0, (h 1, (h 2, (h 3, (h 4, (h 5, (h 6, (h 7, (h 8, (h 9, (h 10, (h 11, (h 12, (h 13, (h 14, (h 15, tt))))))))))))))))

-- a place past the end reads as 0
at : (xs : List ℕ) (k : ℕ) → AllByRecursion (λ b. b < 256) xs → get_or xs k 0 < 256
at [] k h = lit< tt
at (x ∷ xs) zero h = h.0
at (x ∷ xs) (suc k) h = at xs k h.1

sub_byte-small : (a : ℕ) → sub_byte a < 256
unfolding sub_byte
sub_byte-small a = omega arith

sub_bytes-bytes : (s : List ℕ) → AllByRecursion (λ b. b < 256) (sub_bytes s)
unfolding sub_bytes
sub_bytes-bytes s = block-all (λ b. b < 256) (λ k. sub_byte (get_or s k 0)) (λ k. sub_byte-small (get_or s k 0))

shift_rows-bytes : (s : List ℕ) → AllByRecursion (λ b. b < 256) s → AllByRecursion (λ b. b < 256) (shift_rows s)
unfolding shift_rows
shift_rows-bytes s h = block-all (λ b. b < 256) (λ k. get_or s (k % 4 + 4 * ((k / 4 + k % 4) % 4)) 0) (λ k. at s _ h)

add_round_key-bytes : (ws : List ℕ) (r : ℕ) (s : List ℕ) → AllByRecursion (λ b. b < 256) s → AllByRecursion (λ b. b < 256) (add_round_key ws r s)
unfolding add_round_key
add_round_key-bytes ws r s h = block-all (λ b. b < 256) _ (λ k. xor_lt 8 (get_or s k 0) (byte_of (get_or ws (4 * r + k / 4) 0) (k % 4)) (at s k h) (omega arith))

pub cipher-bytes : (ws input : List ℕ) → AllByRecursion (λ b. b < 256) (cipher_with ws input)
unfolding cipher_with
cipher-bytes ws input = add_round_key-bytes ws 10 _ (shift_rows-bytes _ (sub_bytes-bytes _))

pub cipher-length : (ws input : List ℕ) → length (cipher_with ws input) ≡ 16
unfolding cipher_with add_round_key
cipher-length ws input = refl
