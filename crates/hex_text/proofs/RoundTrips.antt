-- Text that was written is read as the same bytes.
use Rattle.std.proofs.Common.{◌≡◌, Result, IfOk, ap, ◌∙◌, subst, string_bytes, String, ℕ, zero, suc, ◌+◌, ◌*◌, ◌/◌, ◌%◌, ◌<◌, Bool, false, true, ◌&&◌, eqb, inl, inr, List, [], ◌∷◌, slice_index, Some, Ok, refl, arith}
use Rattle.std.proofs.lemmas.Bool.{and_parts, cases_lt, eqb-true}
use Rattle.std.proofs.lemmas.Bool.Decides.{nat_tests}
use Rattle.std.proofs.lemmas.Result.{IfOk-weaker}
use Rattle.std.proofs.ByRecursion.{All-from_get_or}
use Rattle.std.specs.List.{AllByRecursion}
use Rattle.hex.specs.Hex.{encode_upper, encode_with, upper_digits}
use Rattle.hex_text.specs.Hex.{digit, digits_of, digit_value, is_blank, bytes_from, bytes_of}

value-digit : (d : ℕ) → d < 16 → digit_value (digit d) ≡ Some d
value-digit d h = grind (arith, nat_tests)

blank-digit : (d : ℕ) → d < 16 → is_blank (digit d) ≡ false
blank-digit d h = grind (arith, nat_tests)

pub bytes_of-digits_of : (i : ℕ) (bs : List ℕ) → AllByRecursion (λ b. b < 256) bs → bytes_from i (digits_of bs) ≡ Ok bs
bytes_of-digits_of i [] h = refl
bytes_of-digits_of i (b ∷ bs) h =
    let high : b / 16 < 16 = omega (arith, h.0) in
    let low : b % 16 < 16 = omega arith in
    let whole : (b / 16) * 16 + b % 16 ≡ b = omega arith in
    let rest = bytes_of-digits_of (i + 2) bs h.1 in
    rw (blank-digit (b / 16) high, value-digit (b / 16) high, value-digit (b % 16) low, rest, whole)

-- the first n digits of the library's table are the digits here: a test that computes
abbrev are_digits : ℕ → Bool
are_digits zero = true
are_digits (suc n) = eqb (slice_index upper_digits n) (digit n) && are_digits n

tested_digit : (n d : ℕ) → are_digits n ≡ true → d < n → slice_index upper_digits d ≡ digit d
tested_digit zero d t h = absurd (omega arith)
tested_digit (suc n) d t h =
    let parts = and_parts (eqb (slice_index upper_digits n) (digit n)) (are_digits n) t in
    elim (cases_lt d n) [
      | inl below ↦ tested_digit n d parts.1 below
      | inr top ↦
          let e : d ≡ n = omega arith in
          rw e (eqb-true (slice_index upper_digits n) (digit n) parts.0)
    ]

upper_digit : (d : ℕ) → d < 16 → slice_index upper_digits d ≡ digit d
upper_digit d h = tested_digit 16 d refl h

-- the library writes the same digits
pub encode_upper-digits_of : (bs : List ℕ) → AllByRecursion (λ b. b < 256) bs → encode_upper bs ≡ digits_of bs
unfolding encode_with
encode_upper-digits_of [] h = refl
encode_upper-digits_of (b ∷ bs) h =
    let high : b / 16 < 16 = omega (arith, h.0) in
    let low : b % 16 < 16 = omega arith in
    let rest = encode_upper-digits_of bs h.1 in
    rw (upper_digit (b / 16) high, upper_digit (b % 16) low, rest)

all_bytes : (bs : List ℕ) → ((i : ℕ) → slice_index bs i < 256) → AllByRecursion (λ b. b < 256) bs
all_bytes bs h = All-from_get_or (λ b. b < 256) bs 0 (λ i long. h i)

-- what the library wrote is the text, which is read as the same bytes
pub written : {Z E : Type 0} (r : Result (String Z) E) (bs : List ℕ) → ((i : ℕ) → slice_index bs i < 256) → IfOk r (λ t. string_bytes t ≡ encode_upper bs) → IfOk r (λ t. string_bytes t ≡ digits_of bs)
written r bs h e = subst (λ z. IfOk r (λ t. string_bytes t ≡ z)) (encode_upper-digits_of bs (all_bytes bs h)) e

pub read_back : {Z E : Type 0} (r : Result (String Z) E) (bs : List ℕ) → ((i : ℕ) → slice_index bs i < 256) → IfOk r (λ t. string_bytes t ≡ encode_upper bs) → IfOk r (λ t. bytes_of (string_bytes t) ≡ Ok bs)
read_back r bs h e =
    let bytes = all_bytes bs h in
    IfOk-weaker r _ _ (λ t s. ap bytes_of (s ∙ encode_upper-digits_of bs bytes) ∙ bytes_of-digits_of 0 bs bytes) e
