-- Laws of words.
use Rattle.std.proofs.Common.{◌≡◌, ℕ, ◌-◌, ◌*◌, ◌/◌, ◌%◌, ◌^◌, ◌<◌, List, [], ◌∷◌, ◌++◌, get_or, ap, ◌∙◌, arith}
use lib.Bits.{bit_xor, xor_shr, xor_mod}
use Rattle.aes128.specs.Words.{byte_of, word_bytes, word_of, xor_bytes}

pub xor_byte : (x y i : ℕ) → byte_of (bit_xor x y) i ≡ bit_xor (byte_of x i) (byte_of y i)
xor_byte x y i = ap (λ (n : ℕ). n % 256) (xor_shr x y (24 - 8 * i)) ∙ xor_mod (x / 2 ^ (24 - 8 * i)) (y / 2 ^ (24 - 8 * i)) 8

pub xor_word : (x y : ℕ) → word_bytes (bit_xor x y) ≡ xor_bytes (word_bytes x) (word_bytes y)
xor_word x y =
    let e0 = xor_byte x y 0 in
    let e1 = xor_byte x y 1 in
    let e2 = xor_byte x y 2 in
    let e3 = xor_byte x y 3 in
    cc

pub xor_words : (x y : ℕ) (xs ys : List ℕ) → word_bytes x ≡ xs → word_bytes y ≡ ys → word_bytes (bit_xor x y) ≡ xor_bytes xs ys
xor_words x y xs ys p q = xor_word x y ∙ (ap (λ (l : List ℕ). xor_bytes l (word_bytes y)) p ∙ ap (λ (l : List ℕ). xor_bytes xs l) q)

pub bytes_of_word : (a b c d : ℕ) → a < 256 → b < 256 → c < 256 → d < 256 → word_bytes (word_of a b c d) ≡ a ∷ b ∷ c ∷ d ∷ []
bytes_of_word a b c d ha hb hc hd =
    let e0 : byte_of (word_of a b c d) 0 ≡ a = omega arith in
    let e1 : byte_of (word_of a b c d) 1 ≡ b = omega arith in
    let e2 : byte_of (word_of a b c d) 2 ≡ c = omega arith in
    let e3 : byte_of (word_of a b c d) 3 ≡ d = omega arith in
    cc

pub bytes_of : (w a b c d : ℕ) → w ≡ word_of a b c d → a < 256 → b < 256 → c < 256 → d < 256 → word_bytes w ≡ a ∷ b ∷ c ∷ d ∷ []
bytes_of w a b c d e ha hb hc hd = ap word_bytes e ∙ bytes_of_word a b c d ha hb hc hd

pub joined : (a b c d e f g h : List ℕ) → a ≡ e → b ≡ f → c ≡ g → d ≡ h → a ++ (b ++ (c ++ d)) ≡ e ++ (f ++ (g ++ h))
joined a b c d e f g h p q r s = cc

-- the four bytes that `to_be_bytes` gives, taken out by their places
pub to_bytes : (r : List ℕ) (w : ℕ) → r ≡ w / 16777216 % 256 ∷ w / 65536 % 256 ∷ w / 256 % 256 ∷ w % 256 ∷ [] → get_or r 0 0 ∷ get_or r 1 0 ∷ get_or r 2 0 ∷ get_or r 3 0 ∷ [] ≡ word_bytes w
to_bytes r w e =
    let low : w % 256 ≡ byte_of w 3 = omega arith in
    ap (λ (l : List ℕ). get_or l 0 0 ∷ get_or l 1 0 ∷ get_or l 2 0 ∷ get_or l 3 0 ∷ []) e
    ∙ ap (λ (n : ℕ). w / 16777216 % 256 ∷ w / 65536 % 256 ∷ w / 256 % 256 ∷ n ∷ []) low

-- RotWord by its bytes, and SubWord after it
pub byte_at : (w a b c d : ℕ) → word_bytes w ≡ a ∷ b ∷ c ∷ d ∷ [] → (byte_of w 0 ≡ a) × (byte_of w 1 ≡ b) × (byte_of w 2 ≡ c) × (byte_of w 3 ≡ d)
byte_at w a b c d e = (cc, cc, cc, cc)
