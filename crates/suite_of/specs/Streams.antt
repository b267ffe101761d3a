-- Data XOR a stream of bytes.
use Rattle.std.specs.Prelude.{ℕ, ◌+◌, List, [], ◌∷◌, bit_xor}

-- data from the place i on: each byte XOR the byte of the stream at its place
abbrev pub xor_stream : (ℕ → ℕ) → ℕ → List ℕ → List ℕ
xor_stream stream i [] = []
xor_stream stream i (x ∷ xs) = bit_xor x (stream i) ∷ xor_stream stream (i + 1) xs
