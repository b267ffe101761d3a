-- Bytes as hexadecimal text.
use Rattle.std.specs.Prelude.{◌≡◌, ℕ, ◌+◌, ◌-◌, ◌*◌, ◌/◌, ◌%◌, Bool, cond, ◌&&◌, ◌||◌, List, [], ◌∷◌, Some, None, Ok, Err, Option, Result, ◌==◌, nat_le, nat_lt}
use Rattle.hex_text.specs.declared.HexError.{HexError}
use Rattle.hex_text.specs.declared.HexError.TheVariants.{NotHex, NoMemory}

-- Writing: two capital digits for each byte.

-- the digit of a number below 16
abbrev pub digit : ℕ → ℕ
digit d = cond (nat_lt d 10) (0x30 + d) (0x37 + d)

-- two digits for each byte, the higher half first
abbrev pub digits_of : List ℕ → List ℕ
digits_of [] = []
digits_of (b ∷ bs) = digit (b / 16) ∷ digit (b % 16) ∷ digits_of bs

-- Reading: digits of either case, the two of a byte together, blanks, tabs and carriage returns between bytes.

-- whether a code lies between two
abbrev pub is_between : ℕ → ℕ → ℕ → Bool
is_between low high c = nat_le low c && nat_le c high

-- what a digit stands for
abbrev pub digit_value : ℕ → Option ℕ
digit_value c =
    cond (is_between 0x30 0x39 c) (Some (c - 0x30))
    (cond (is_between 0x41 0x46 c) (Some (c - 0x37))
    (cond (is_between 0x61 0x66 c) (Some (c - 0x57)) None))

-- blank, tab or carriage return
abbrev pub is_blank : ℕ → Bool
is_blank c = c == 0x20 || c == 0x09 || c == 0x0D

-- the byte of two digits
abbrev pub byte_of_digits : Option ℕ → Option ℕ → Option ℕ
byte_of_digits None low = None
byte_of_digits (Some h) None = None
byte_of_digits (Some h) (Some l) = Some (h * 16 + l)

-- the bytes, or the place of what is neither a blank nor two digits
abbrev pub with_byte : ℕ → Option ℕ → Result (List ℕ) ℕ → Result (List ℕ) ℕ
with_byte at None rest = Err at
with_byte at (Some b) (Ok bs) = Ok (b ∷ bs)
with_byte at (Some b) (Err n) = Err n

-- the text from the place i on
abbrev pub bytes_from : ℕ → List ℕ → Result (List ℕ) ℕ
bytes_from i [] = Ok []
bytes_from i (a ∷ []) = cond (is_blank a) (Ok []) (Err i)
bytes_from i (a ∷ b ∷ rest) =
    cond (is_blank a) (bytes_from (i + 1) (b ∷ rest))
    (with_byte i (byte_of_digits (digit_value a) (digit_value b)) (bytes_from (i + 2) rest))

-- the bytes of a text, or the place of what is wrong
abbrev pub bytes_of : List ℕ → Result (List ℕ) ℕ
bytes_of text = bytes_from 0 text

-- what the code returns; where there is no memory nothing is said
abbrev pub Decodes : {A : Type 0} → (A → List ℕ) → List ℕ → Result A HexError → Type 0
Decodes items text (Ok v) = bytes_of text ≡ Ok (items v)
Decodes items text (Err (NotHex n)) = bytes_of text ≡ Err n
Decodes items text (Err NoMemory) = Unit {0}
