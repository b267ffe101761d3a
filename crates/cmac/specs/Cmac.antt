-- AES-CMAC, from RFC 4493 section 2. A block is a list of sixteen bytes; ws is the key schedule of AES-128.
use Rattle.std.specs.Prelude.{ℕ, zero, suc, ◌+◌, ◌-◌, ◌*◌, ◌/◌, ◌%◌, cond, List, length, drop, ◌==◌, bit_xor, nat_lt, slice_index}
use Rattle.aes128.specs.Cipher.{block, cipher_with, schedule}

-- two blocks, XOR byte by byte
unfoldable pub xor_block : List ℕ → List ℕ → List ℕ
xor_block a b = block (λ k. bit_xor (slice_index a k) (slice_index b k))

-- sixteen zeros
abbrev pub zeros : List ℕ
zeros = block (λ _. 0)

-- the block, one bit to the left
unfoldable pub shift_left : List ℕ → List ℕ
shift_left s = block (λ k. slice_index s k * 2 % 256 + cond (nat_lt k 15) (slice_index s (k + 1)) 0 / 128)

-- const_Rb
abbrev pub rb : List ℕ
rb = block (λ k. cond (k == 15) 0x87 0)

-- Subkeys (section 2.3): the first from L, and the second from the first
unfoldable pub double : List ℕ → List ℕ
double s = cond (nat_lt (slice_index s 0) 128) (shift_left s) (xor_block (shift_left s) rb)

-- K1
abbrev pub subkey1 : List ℕ → List ℕ
subkey1 ws = double (cipher_with ws zeros)

-- K2
abbrev pub subkey2 : List ℕ → List ℕ
subkey2 ws = double (subkey1 ws)

-- the block of the message m at the place p
unfoldable pub block_at : List ℕ → ℕ → List ℕ
block_at m p = block (λ k. slice_index m (p + k))

-- Padding (section 2.4): the bytes of m, fewer than sixteen, then the bit 1, then zeros
abbrev pub pad_byte : List ℕ → ℕ → ℕ
pad_byte m j = cond (nat_lt j (length m)) (slice_index m j) (cond (j == length m) 0x80 0)

-- the padded block of fewer than sixteen bytes
unfoldable pub padding : List ℕ → List ℕ
padding m = block (λ k. pad_byte m k)

-- the chaining value after n blocks
abbrev pub chain_value : List ℕ → List ℕ → ℕ → List ℕ
chain_value ws m zero = zeros
chain_value ws m (suc n) = cipher_with ws (xor_block (chain_value ws m n) (block_at m (16 * n)))

-- the number of blocks before the last
abbrev pub blocks_before_last : List ℕ → ℕ
blocks_before_last m = (length m - 1) / 16

-- the last block, whole or padded, with its subkey
unfoldable pub last_block : List ℕ → List ℕ → List ℕ
last_block ws m =
    let p = 16 * blocks_before_last m in
    cond (p + 16 == length m) (xor_block (block_at m p) (subkey1 ws)) (xor_block (padding (drop p m)) (subkey2 ws))

-- the tag of m under a key schedule (2.4)
unfoldable pub cmac_with : List ℕ → List ℕ → List ℕ
cmac_with ws m = cipher_with ws (xor_block (last_block ws m) (chain_value ws m (blocks_before_last m)))

-- the tag of m under a key of sixteen bytes (2.4)
abbrev pub cmac : List ℕ → List ℕ → List ℕ
cmac key m = cmac_with (schedule key) m
