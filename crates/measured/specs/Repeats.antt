-- What is done again and again for a measurement.
use Rattle.std.specs.Prelude.{ℕ, zero, suc, Bool, cond, ◌&&◌, List, length, ◌==◌, nat_le}
use Rattle.aes128.specs.Cipher.{cipher}
use Rattle.cmac.specs.Cmac.{cmac}
use Rattle.buffers.specs.Buffers.{with_front}

-- a function done n times over
abbrev pub repetition : (List ℕ → List ℕ) → ℕ → List ℕ → List ℕ
repetition f zero x = x
repetition f (suc n) x = f (repetition f n x)

-- whether key and block have sixteen bytes
abbrev pub are_blocks : List ℕ → List ℕ → Bool
are_blocks key block = length key == 16 && length block == 16

-- a block, encrypted n times
abbrev pub encrypted_block : List ℕ → ℕ → List ℕ → List ℕ
encrypted_block key n block = cond (are_blocks key block) (repetition (cipher key) n block) block

-- whether the key has sixteen bytes and the text room for a tag
abbrev pub can_tag : List ℕ → List ℕ → Bool
can_tag key text = length key == 16 && nat_le 16 (length text)

-- a text, over whose front its tag is written n times
abbrev pub tagged_text : List ℕ → ℕ → List ℕ → List ℕ
tagged_text key n text = cond (can_tag key text) (repetition (λ t. with_front (cmac key t) t) n text) text
