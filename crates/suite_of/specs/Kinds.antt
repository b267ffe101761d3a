-- A kind of suite by what it computes of roots and of the values of keys: offers are seeds, payloads are as `Payloads` has them.
use Rattle.std.specs.Prelude.{◌≡◌, ℕ, ◌+◌, ◌<◌, ◌≤◌, true, List, length, ◌==◌}
use Rattle.suite.specs.declared.limits.TheConstants.{MAX_NUMBER}
use Rattle.suite.specs.Meanings.{IsBytes, IsBytes16}
use Rattle.suite.specs.Numbers.{role_byte}
use Rattle.suite.specs.declared.types.Role.TheVariants.{Sender, Recipient}
use Rattle.suite.specs.Schemes.{Scheme, is_role}
use Rattle.suite_of.specs.Payloads.{payload_body, with_field, payload_parts}

-- the numbers and functions of a kind
pub record KindFunctions : Type 0 where
  pub pid : ℕ
  pub check_length : ℕ
  -- how many bytes the last field of a payload has
  pub field_length : ℕ
  -- the last number; the first is 0
  pub final : ℕ
  -- root, own role, own seed, the peer's offer
  pub secret_of : List ℕ → ℕ → List ℕ → List ℕ → List ℕ
  -- value of the shared secret, role
  pub check_of : List ℕ → ℕ → List ℕ
  -- value of the shared secret
  pub link_of : List ℕ → List ℕ
  -- value of the link key, role, number, place in the data: the byte that the data's byte is XORed with
  pub stream_of : List ℕ → ℕ → ℕ → ℕ → ℕ
  -- value of the link key, all of a payload but its field
  pub field_of : List ℕ → List ℕ → List ℕ

-- the kind's numbers and functions: of all that the suite means they see the root alone, and of a key its value
abbrev pub scheme_of : KindFunctions → Scheme
scheme_of k = record {
  pid = k.pid;
  offer_length = 16;
  check_length = k.check_length;
  overhead = 5 + k.field_length;
  first = 0;
  final = k.final;
  offer_of = λ keyring seed. seed;
  fit_of = λ keyring offer. (length offer == 16);
  secret_of = λ keyring role seed offer. k.secret_of keyring.root role seed offer;
  check_of = λ keyring serial value role. k.check_of value role;
  link_of = λ keyring serial value. k.link_of value;
  seal_of = λ keyring serial value role n plain. with_field (k.field_of value) (payload_body (k.stream_of value role n) role n plain);
  open_of = λ keyring serial value payload. payload_parts k.field_length (k.field_of value) (k.stream_of value) payload;
}

-- what a kind owes, for roots, seeds and values of sixteen bytes
pub record IsLawfulKind (k : KindFunctions) : Type 0 where
  pub pid_byte : k.pid < 256
  pub check_bound : k.check_length ≤ 16
  pub field_bound : k.field_length ≤ 16
  pub final_low : 0 < k.final
  pub final_bound : k.final ≤ MAX_NUMBER
  pub secret_is : (root seed offer : List ℕ) (role : ℕ) → IsBytes16 root → IsBytes16 seed → IsBytes16 offer →
      is_role role ≡ true → IsBytes16 (k.secret_of root role seed offer)
  pub agrees : (root one other : List ℕ) → IsBytes16 root → IsBytes16 one → IsBytes16 other →
      k.secret_of root (role_byte Sender) one other ≡ k.secret_of root (role_byte Recipient) other one
  pub check_long : (value : List ℕ) (role : ℕ) → IsBytes16 value → is_role role ≡ true →
      length (k.check_of value role) ≡ k.check_length
  pub check_bytes : (value : List ℕ) (role : ℕ) → IsBytes16 value → is_role role ≡ true →
      IsBytes (k.check_of value role)
  pub link_is : (value : List ℕ) → IsBytes16 value → IsBytes16 (k.link_of value)
  pub stream_byte : (value : List ℕ) (role n i : ℕ) → IsBytes16 value → k.stream_of value role n i < 256
  pub field_long : (value body : List ℕ) → IsBytes16 value → length (k.field_of value body) ≡ k.field_length
  pub field_bytes : (value body : List ℕ) → IsBytes16 value → IsBytes (k.field_of value body)
