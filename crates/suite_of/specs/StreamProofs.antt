-- Proofs, which need not be read: data XOR a stream: length, places, bytes, and that a second XOR undoes the first.
use Rattle.std.specs.Prelude.{◌≡◌, ℕ, zero, suc, ◌+◌, ◌<◌, List, [], ◌∷◌, length, bit_xor, slice_index, refl}
use Rattle.std.proofs.Common.{ap, ◌∙◌, arith, add-zero}
use Rattle.std.specs.Int.Bits.{xor_assoc, xor_self, xor_zero_r}
use Rattle.std.proofs.lemmas.Nat.{xor_lt}
use Rattle.suite.specs.Meanings.{IsBytes}
use Rattle.suite_of.specs.Streams.{xor_stream}

pub xor_stream-length : (s : ℕ → ℕ) (i : ℕ) (xs : List ℕ) → length (xor_stream s i xs) ≡ length xs
xor_stream-length s i [] = refl
xor_stream-length s i (x ∷ xs) = ap suc (xor_stream-length s (i + 1) xs)

pub streamed_at : (s : ℕ → ℕ) (i k : ℕ) (xs : List ℕ) → k < length xs → slice_index (xor_stream s i xs) k ≡ bit_xor (slice_index xs k) (s (i + k))
streamed_at s i k [] h = omega arith
streamed_at s i zero (x ∷ xs) h = simp add-zero
streamed_at s i (suc k) (x ∷ xs) h =
    let e : (i + 1) + k ≡ i + suc k = omega arith in
    let l : k < length xs = omega arith in
    streamed_at s (i + 1) k xs l ∙ ap (λ j. bit_xor (slice_index xs k) (s j)) e

-- a stream over a stream is what was there
pub streamed_back : (s : ℕ → ℕ) (i : ℕ) (xs : List ℕ) → xor_stream s i (xor_stream s i xs) ≡ xs
streamed_back s i [] = refl
streamed_back s i (x ∷ xs) =
    let e : bit_xor (bit_xor x (s i)) (s i) ≡ x = xor_assoc x (s i) (s i) ∙ ap (bit_xor x) (xor_self (s i)) ∙ xor_zero_r x in
    let t = streamed_back s (i + 1) xs in
    cc

-- bytes of a stream of bytes are bytes
pub xor_stream-bytes : (s : ℕ → ℕ) → ((k : ℕ) → s k < 256) → (i : ℕ) (xs : List ℕ) → IsBytes xs → IsBytes (xor_stream s i xs)
xor_stream-bytes s k i [] h = tt
xor_stream-bytes s k i (x ∷ xs) h = (xor_lt 8 x (s i) h.0 (k i), xor_stream-bytes s k (i + 1) xs h.1)
