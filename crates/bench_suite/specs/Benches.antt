-- What the bench suite computes: every step can be followed by hand.
use Rattle.std.specs.Prelude.{ℕ, ◌%◌, List, [], ◌∷◌, map, take, sum, bit_xor, slice_index}
use Rattle.suite.specs.Schemes.{Scheme}
use Rattle.suite_of.specs.Kinds.{KindFunctions, scheme_of}

-- two lists XOR each other, byte by byte
abbrev pub xor_lists : List ℕ → List ℕ → List ℕ
xor_lists [] ys = []
xor_lists (x ∷ xs) [] = []
xor_lists (x ∷ xs) (y ∷ ys) = bit_xor x y ∷ xor_lists xs ys

-- the link key of a shared secret
abbrev pub link_key : List ℕ → List ℕ
link_key secret = map (λ x. bit_xor x 0x5A) secret

-- the sum of bytes modulo 256
abbrev pub sum_byte : List ℕ → ℕ
sum_byte xs = sum xs % 256

-- data are XORed with the link key, whose bytes are taken round; the last field is the sum of all before it
abbrev pub bench_functions : KindFunctions
bench_functions = record {
  pid = 0xF0;
  check_length = 4;
  field_length = 1;
  final = 65535;
  secret_of = λ root role own other. xor_lists own other;
  check_of = λ value role. role ∷ take 3 value;
  link_of = link_key;
  stream_of = λ link role n i. slice_index link (i % 16);
  field_of = λ link body. sum_byte body ∷ [];
}

-- the bench suite as a scheme
abbrev pub bench_scheme : Scheme
bench_scheme = scheme_of bench_functions
