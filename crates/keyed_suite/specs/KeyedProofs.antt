-- Proofs, which need not be read: the keyed suite keeps the laws of a kind.
use Rattle.std.specs.Prelude.{◌≡◌, ℕ, ◌%◌, ◌<◌, List, length, take, slice_index, refl}
use Rattle.std.proofs.Common.{arith, length-take, lit<, lit≤}
use Rattle.std.proofs.ByRecursion.{All-take, All-get_or}
use Rattle.aes128.specs.Cipher.{cipher_with, schedule}
use Rattle.aes128.proofs.BlockBytes.{cipher-bytes, cipher-length}
use Rattle.cmac.specs.Cmac.{cmac}
use Rattle.cmac.proofs.TagBytes.{tag-bytes, tag-length}
use Rattle.suite.specs.Meanings.{IsBytes, IsBytes16}
use Rattle.suite_of.specs.Kinds.{IsLawfulKind}
use Rattle.keyed_suite.specs.Keyed.{keyed_functions}

tag_is : (key text : List ℕ) → IsBytes16 (cmac key text)
tag_is key text = record { long = tag-length (schedule key) text; bytes = tag-bytes (schedule key) text }

-- the first eight bytes of a tag
pub half-length : (key text : List ℕ) → length (take 8 (cmac key text)) ≡ 8
half-length key text = let long = tag-length (schedule key) text in simp length-take (omega arith)

half-bytes : (key text : List ℕ) → IsBytes (take 8 (cmac key text))
half-bytes key text = All-take (λ b. b < 256) 8 (cmac key text) (tag-bytes (schedule key) text)

-- a byte of a block of the keystream
stream-byte : (ws input : List ℕ) (i : ℕ) → slice_index (cipher_with ws input) (i % 16) < 256
stream-byte ws input i =
    let long = cipher-length ws input in
    let at : i % 16 < length (cipher_with ws input) = omega arith in
    All-get_or (λ b. b < 256) (cipher_with ws input) (i % 16) 0 at (cipher-bytes ws input)

pub keyed_lawful : IsLawfulKind keyed_functions
keyed_lawful = record {
  pid_byte = lit< tt;
  check_bound = lit≤ tt;
  field_bound = lit≤ tt;
  final_low = lit< tt;
  final_bound = lit≤ tt;
  secret_is = λ root seed offer role r e o ok. tag_is root _;
  agrees = λ root one other r p q. refl;
  check_long = λ value role v ok. half-length value _;
  check_bytes = λ value role v ok. half-bytes value _;
  link_is = λ value v. tag_is value _;
  stream_byte = λ value role n i v. stream-byte _ _ i;
  field_long = λ value body v. half-length _ body;
  field_bytes = λ value body v. half-bytes _ body;
}
