-- Reading hexadecimal text turn by turn.
use Rattle.std.proofs.Common.{◌≡◌, ℕ, ◌+◌, ◌-◌, ◌<◌, ◌≤◌, true, false, List, [], ◌∷◌, ◌++◌, length, get_or, take, drop, Some, Ok, Err, Result, sym, refl, ap, ◌∙◌, append_assoc, take_all, arith}
use Rattle.hex_text.specs.Hex.{digit_value, is_blank, byte_of_digits, with_byte, bytes_from}

-- bytes read so far, and what the rest reads as
abbrev pub onto : List ℕ → Result (List ℕ) ℕ → Result (List ℕ) ℕ
onto xs (Ok ys) = Ok (xs ++ ys)
onto xs (Err n) = Err n

-- what a text of n characters reads as, where the bytes xs were read and the rest is left
abbrev pub state : List ℕ → ℕ → List ℕ → Result (List ℕ) ℕ
state xs n rest = onto xs (bytes_from (n - length rest) rest)

skip : (xs : List ℕ) (n a : ℕ) (more : List ℕ) → length (a ∷ more) ≤ n → is_blank a ≡ true → state xs n (a ∷ more) ≡ state xs n more
skip xs n a [] h e = rw e
skip xs n a (b ∷ rest) h e =
    let i : (n - length (a ∷ b ∷ rest)) + 1 ≡ n - length (b ∷ rest) = omega arith in
    rw (e, i)

pub skips : (xs : List ℕ) (n : ℕ) (rest : List ℕ) → 0 < length rest → length rest ≤ n → is_blank (get_or rest 0 0) ≡ true → state xs n rest ≡ state xs n (take (length rest - 1) (drop 1 rest))
skips xs n [] z h e = absurd (omega arith)
skips xs n (a ∷ more) z h e =
    let m : take (length (a ∷ more) - 1) more ≡ more = take_all _ more (omega arith) in
    skip xs n a more h e ∙ ap (state xs n) (sym m)

onto_one : (xs : List ℕ) (i b : ℕ) (r : Result (List ℕ) ℕ) → onto xs (with_byte i (Some b) r) ≡ onto (xs ++ b ∷ []) r
onto_one xs i b (Ok ys) = ap Ok (sym (append_assoc xs (b ∷ []) ys))
onto_one xs i b (Err n) = refl

take_byte : (xs : List ℕ) (n a b v : ℕ) (more : List ℕ) → length (a ∷ b ∷ more) ≤ n → is_blank a ≡ false → byte_of_digits (digit_value a) (digit_value b) ≡ Some v → state xs n (a ∷ b ∷ more) ≡ state (xs ++ v ∷ []) n more
take_byte xs n a b v more h e s =
    let i : (n - length (a ∷ b ∷ more)) + 2 ≡ n - length more = omega arith in
    rw (e, s, i) (onto_one xs (n - length (a ∷ b ∷ more)) v (bytes_from (n - length more) more))

pub takes : (xs : List ℕ) (n v : ℕ) (rest : List ℕ) → 1 < length rest → length rest ≤ n → is_blank (get_or rest 0 0) ≡ false → byte_of_digits (digit_value (get_or rest 0 0)) (digit_value (get_or rest 1 0)) ≡ Some v → state xs n rest ≡ state (xs ++ v ∷ []) n (take (length rest - 2) (drop 2 rest))
takes xs n v [] z h e s = absurd (omega arith)
takes xs n v (a ∷ []) z h e s = absurd (omega arith)
takes xs n v (a ∷ b ∷ more) z h e s =
    let m : take (length (a ∷ b ∷ more) - 2) more ≡ more = take_all _ more (omega arith) in
    take_byte xs n a b v more h e s ∙ ap (state (xs ++ v ∷ []) n) (sym m)
