-- Proofs, which need not be read: the bench suite keeps the laws of a kind.
use Rattle.std.specs.Prelude.{◌≡◌, ℕ, suc, ◌%◌, ◌<◌, List, ◌∷◌, length, take, bit_xor, slice_index, refl}
use Rattle.std.proofs.Common.{sym, ap, ◌∙◌, arith, length-take, lit<, lit≤}
use Rattle.std.proofs.lemmas.List.{length-map}
use Rattle.std.proofs.lemmas.Nat.{xor_lt}
use Rattle.std.proofs.ByRecursion.{All-take, All-map, All-weaker, All-get_or}
use Rattle.suite.specs.Meanings.{IsBytes16}
use Rattle.suite.proofs.ByteLaws.{role_byte-small, low_byte}
use Rattle.suite_of.specs.Kinds.{IsLawfulKind}
use Rattle.bench_suite.specs.Benches.{bench_functions, link_key}
use Rattle.bench_suite.specs.XorProofs.{xor_lists-length, xor_lists-bytes, xored_swap}

-- a link key has sixteen bytes
linked_is : (value : List ℕ) → IsBytes16 value → IsBytes16 (link_key value)
linked_is value v = record {
  long = length-map value (λ x. bit_xor x 0x5A) ∙ v.long;
  bytes = All-map (λ z. z < 256) (λ x. bit_xor x 0x5A) value (All-weaker (λ z. z < 256) (λ z. bit_xor z 0x5A < 256) (λ x h. xor_lt 8 x 0x5A h (lit< tt)) value v.bytes);
}

-- a check value has four bytes
check-length : (value : List ℕ) (role : ℕ) → IsBytes16 value → length (role ∷ take 3 value) ≡ 4
check-length value role v =
    let long = v.long in
    let t : length (take 3 value) ≡ 3 = simp length-take (omega arith) in
    ap suc t

-- a byte of a key, at whatever place
key-byte : (value : List ℕ) (i : ℕ) → IsBytes16 value → slice_index value (i % 16) < 256
key-byte value i v =
    let long = v.long in
    let at : i % 16 < length value = omega arith in
    All-get_or (λ z. z < 256) value (i % 16) 0 at v.bytes

pub bench_lawful : IsLawfulKind bench_functions
bench_lawful = record {
  pid_byte = lit< tt;
  check_bound = lit≤ tt;
  field_bound = lit≤ tt;
  final_low = lit< tt;
  final_bound = lit≤ tt;
  secret_is = λ root seed offer role r e o ok. record { long = xor_lists-length seed offer (e.long ∙ sym o.long) ∙ e.long; bytes = xor_lists-bytes seed offer e.bytes o.bytes };
  agrees = λ root one other r p q. xored_swap one other;
  check_long = λ value role v ok. check-length value role v;
  check_bytes = λ value role v ok. (role_byte-small role ok, All-take (λ z. z < 256) 3 value v.bytes);
  link_is = λ value v. linked_is value v;
  stream_byte = λ value role n i v. key-byte value i v;
  field_long = λ value body v. refl;
  field_bytes = λ value body v. (low_byte _, tt);
}
