-- What the keyed suite computes, by AES-128 and AES-CMAC.
use Rattle.std.specs.Prelude.{ℕ, ◌/◌, ◌%◌, cond, List, ◌∷◌, ◌++◌, take, replicate, ◌==◌, slice_index}
use Rattle.aes128.specs.Cipher.{cipher_with, schedule}
use Rattle.cmac.specs.Cmac.{cmac}
use Rattle.suite.specs.declared.types.Role.TheVariants.{Sender}
use Rattle.suite.specs.Numbers.{role_byte}
use Rattle.suite_of.specs.Payloads.{four_bytes}
use Rattle.suite_of.specs.Kinds.{KindFunctions}

-- the tag, under the root, of the Sender's offer and then the Recipient's
abbrev pub secret_of : List ℕ → ℕ → List ℕ → List ℕ → List ℕ
secret_of root role own other = cmac root (cond (role == role_byte Sender) (own ++ other) (other ++ own))

-- the key of the records' tags
abbrev pub tag_key : List ℕ → List ℕ
tag_key link = cmac link (replicate 16 4)

-- the key of the records' keystream
abbrev pub stream_key : List ℕ → List ℕ
stream_key link = cmac link (replicate 16 5)

-- what is encrypted for the block j of a record's keystream
abbrev pub counter_block : ℕ → ℕ → ℕ → List ℕ
counter_block role n j = role ∷ (four_bytes n ++ (replicate 7 0 ++ four_bytes j))

-- the byte i of a record's keystream; ws is the schedule of the stream key
abbrev pub keystream_byte : List ℕ → ℕ → ℕ → ℕ → ℕ
keystream_byte ws role n i = slice_index (cipher_with ws (counter_block role n (i / 16))) (i % 16)

-- PID F1, and what the suite computes
abbrev pub keyed_functions : KindFunctions
keyed_functions = record {
  pid = 0xF1;
  check_length = 8;
  field_length = 8;
  final = 16777215;
  secret_of = secret_of;
  check_of = λ value role. take 8 (cmac value (role ∷ replicate 15 0));
  link_of = λ value. cmac value (replicate 16 3);
  stream_of = λ link role n i. keystream_byte (schedule (stream_key link)) role n i;
  field_of = λ link body. take 8 (cmac (tag_key link) body);
}
