-- The field of 256 elements as FIPS 197 section 4 has it, and the S-box by its rule (section 5.1.1).
use Rattle.std.specs.Prelude.{◌≡◌, ℕ, zero, suc, ◌+◌, ◌*◌, ◌/◌, ◌%◌, ◌^◌, ◌<◌, cond, ◌==◌, bit_xor, nat_lt}

-- the product by x: shifted left, and reduced by x^8 + x^4 + x^3 + x + 1 where a ninth bit came out
abbrev pub xtime : ℕ → ℕ
xtime a = cond (nat_lt a 128) (a * 2) (bit_xor (a * 2) 0x11b)

-- the product of a by the polynomial of the low n bits of b
abbrev pub mul_low : ℕ → ℕ → ℕ → ℕ
mul_low zero a b = 0
mul_low (suc n) a b = bit_xor (cond (b % 2 == 1) a 0) (mul_low n (xtime a) (b / 2))

-- the product of two bytes in the field (4.2)
unfoldable pub mul : ℕ → ℕ → ℕ
mul a b = mul_low 8 a b

-- a to the power n, for n below 2^k, by squares: a^n is a^(n mod 2) times (a^2)^(n / 2)
unfoldable pub power_low : ℕ → ℕ → ℕ → ℕ
power_low zero n a = 1
power_low (suc k) n a = mul (cond (n % 2 == 1) a 1) (power_low k (n / 2) (mul a a))

-- the multiplicative inverse, and 0 of 0. That it is one is `InverseStands`.
unfoldable pub inverse : ℕ → ℕ
inverse a = power_low 8 254 a

-- the inverse of a byte times the byte is 1
abbrev pub InverseStands : Type 0
InverseStands = (a : ℕ) → 0 < a → a < 256 → mul a (inverse a) ≡ 1

-- the bit i of b
abbrev pub bit : ℕ → ℕ → ℕ
bit b i = (b / 2 ^ (i % 8)) % 2

-- the bit i of the affine map (5.1.1, equation 5.1)
abbrev pub affine_bit : ℕ → ℕ → ℕ
affine_bit b i = (bit b i + bit b (i + 4) + bit b (i + 5) + bit b (i + 6) + bit b (i + 7) + bit 0x63 i) % 2

-- the low n bits of the affine map
abbrev pub affine_low : ℕ → ℕ → ℕ
affine_low zero b = 0
affine_low (suc n) b = affine_low n b + affine_bit b n * 2 ^ n

-- the S-box: the inverse, and then the affine map
unfoldable pub sub_byte : ℕ → ℕ
sub_byte a = affine_low 8 (inverse a)
