-- Proofs, which need not be read: the length and the bytes of payloads, and that one that was written is read back.
use Rattle.std.specs.Prelude.{◌≡◌, ℕ, ◌+◌, ◌-◌, ◌*◌, ◌/◌, ◌%◌, ◌^◌, ◌<◌, true, ◌&&◌, List, length, drop, Some, None, Option, nat_le, slice_index}
use Rattle.std.specs.Option.{option_map}
use Rattle.std.specs.Str.{bytes_eq}
use Rattle.std.proofs.Common.{sym, ap, ◌∙◌, arith, length-append}
use Rattle.std.proofs.lemmas.Bool.{le-leb, and_from, cond-true}
use Rattle.std.proofs.lemmas.Slice.Eq.{bytes_eq-Decides}
use Rattle.std.proofs.ByRecursion.{All-append}
use Rattle.std.proofs.lemmas.List.{take_at, drop_at}
use Rattle.suite.specs.Meanings.{IsBytes}
use Rattle.suite.specs.Schemes.{is_role}
use Rattle.suite.proofs.ByteLaws.{role_byte-small, low_byte}
use Rattle.suite_of.specs.Streams.{xor_stream}
use Rattle.suite_of.specs.StreamProofs.{xor_stream-length, streamed_back, xor_stream-bytes}
use Rattle.suite_of.specs.Payloads.{four_bytes, number_at, payload_body, with_field, all_but_last, last_bytes, is_good, payload_parts}

pub body-length : (s : ℕ → ℕ) (role n : ℕ) (plain : List ℕ) → length (payload_body s role n plain) ≡ length plain + 5
body-length s role n plain = let e = xor_stream-length s 0 plain in omega arith

pub closed-length : (field : List ℕ → List ℕ) (w : ℕ) (body : List ℕ) → length (field body) ≡ w → length (with_field field body) ≡ length body + w
closed-length field w body e = length-append body (field body) ∙ ap (λ k. length body + k) e

-- four bytes of a number give the number
number_back : (n : ℕ) → n < 2 ^ 32 → (((n / 16777216) % 256) * 16777216 + ((n / 65536) % 256) * 65536 + ((n / 256) % 256) * 256) + n % 256 ≡ n
number_back n h = omega arith

pub reads_good : (w : ℕ) (field : List ℕ → List ℕ) (stream : ℕ → ℕ → ℕ → ℕ) (p : List ℕ) → is_good w field p ≡ true → payload_parts w field stream p ≡ Some (slice_index p 0, number_at p, xor_stream (stream (slice_index p 0) (number_at p)) 0 (drop 5 (all_but_last w p)))
reads_good w field stream p good = ap (option_map (λ t. (t.0, t.1, xor_stream (stream t.0 t.1) 0 t.2))) (cond-true (is_good w field p) _ None good)

same_read : (r : ℕ) {n m : ℕ} {xs ys : List ℕ} → n ≡ m → xs ≡ ys → ◌≡◌ {A = Option (ℕ × ℕ × List ℕ)} (Some (r, n, xs)) (Some (r, m, ys))
same_read r {m = m} {xs = xs} e f = ap (λ z. Some (r, z, xs)) e ∙ ap (λ z. Some (r, m, z)) f

-- a payload that was written is read back
pub reads_back : (w : ℕ) (field : List ℕ → List ℕ) (stream : ℕ → ℕ → ℕ → ℕ) (role n : ℕ) (plain : List ℕ)
    → length (field (payload_body (stream role n) role n plain)) ≡ w → is_role role ≡ true → n < 2 ^ 32
    → payload_parts w field stream (with_field field (payload_body (stream role n) role n plain)) ≡ Some (role, n, plain)
reads_back w field stream role n plain long ok h =
    let body = payload_body (stream role n) role n plain in
    let whole = with_field field body in
    let len = closed-length field w body long in
    let bl = body-length (stream role n) role n plain in
    let at : length body ≡ length whole - w = omega arith in
    let wide : nat_le (5 + w) (length whole) ≡ true = le-leb (5 + w) (length whole) (omega arith) in
    let fr : all_but_last w whole ≡ body = take_at body (field body) (length whole - w) at in
    let bk : last_bytes w whole ≡ field body = drop_at body (field body) (length whole - w) at in
    let ends : bytes_eq (last_bytes w whole) (field (all_but_last w whole)) ≡ true = (bytes_eq-Decides (last_bytes w whole) (field (all_but_last w whole))).1 (bk ∙ sym (ap field fr)) in
    let good : is_good w field whole ≡ true = and_from (nat_le (5 + w) (length whole) && is_role role) _ (and_from (nat_le (5 + w) (length whole)) (is_role role) wide ok) ends in
    let number : number_at whole ≡ n = number_back n h in
    let rest : xor_stream (stream role (number_at whole)) 0 (drop 5 (all_but_last w whole)) ≡ plain = ap (λ m. xor_stream (stream role m) 0 (drop 5 (all_but_last w whole))) number ∙ ap (λ z. xor_stream (stream role n) 0 (drop 5 z)) fr ∙ streamed_back (stream role n) 0 plain in
    reads_good w field stream whole good ∙ same_read role number rest

-- a payload is made of bytes
pub closed-bytes : (s : ℕ → ℕ) (field : List ℕ → List ℕ) (role n : ℕ) (plain : List ℕ) → ((k : ℕ) → s k < 256) → IsBytes (field (payload_body s role n plain)) → is_role role ≡ true → IsBytes plain → IsBytes (with_field field (payload_body s role n plain))
closed-bytes s field role n plain k f ok h =
    let body = payload_body s role n plain in
    let four : IsBytes (four_bytes n) = (low_byte _, (low_byte _, (low_byte _, (low_byte _, tt)))) in
    let bytes : IsBytes body = (role_byte-small role ok, All-append (λ z. z < 256) (four_bytes n) (xor_stream s 0 plain) four (xor_stream-bytes s k 0 plain h)) in
    All-append (λ z. z < 256) body (field body) bytes f
