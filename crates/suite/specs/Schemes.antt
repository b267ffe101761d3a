-- What one kind of suite computes, and the laws that every kind keeps.
use Rattle.std.specs.Prelude.{◌≡◌, ℕ, ◌+◌, ◌<◌, ◌≤◌, Bool, true, ◌||◌, List, length, Some, Option, ◌==◌}
use Rattle.suite.specs.declared.limits.TheConstants.{MAX_DATA, MAX_NUMBER}
use Rattle.suite.specs.declared.types.Role.TheVariants.{Sender, Recipient}
use Rattle.suite.specs.declared.types.KindNumbers.{KindNumbers}
use Rattle.suite.specs.Meanings.{IsBytes, IsBytes16, Keyring, IsFormed}
use Rattle.suite.specs.Numbers.{role_byte}

-- The numbers and functions of a kind. What it computes may depend on all that the suite means but the last serial, and on the serial and the
-- value of the key that is used; a key that is being made gets the serial after the newest.
pub record Scheme : Type 0 where
  pub pid : ℕ
  pub offer_length : ℕ
  pub check_length : ℕ
  pub overhead : ℕ
  pub first : ℕ
  pub final : ℕ
  -- seed
  pub offer_of : Keyring → List ℕ → List ℕ
  -- the peer's offer
  pub fit_of : Keyring → List ℕ → Bool
  -- own role, own seed, the peer's offer
  pub secret_of : Keyring → ℕ → List ℕ → List ℕ → List ℕ
  -- serial and value of the shared secret, role
  pub check_of : Keyring → ℕ → List ℕ → ℕ → List ℕ
  -- serial and value of the shared secret
  pub link_of : Keyring → ℕ → List ℕ → List ℕ
  -- serial and value of the link key, role, number, data
  pub seal_of : Keyring → ℕ → List ℕ → ℕ → ℕ → List ℕ → List ℕ
  -- serial and value of the link key, payload; role, number and data, or none if it is not good
  pub open_of : Keyring → ℕ → List ℕ → List ℕ → Option (ℕ × ℕ × List ℕ)

-- the numbers of a kind, as the code tells them
abbrev pub numbers_of : Scheme → KindNumbers
numbers_of s = record {
  pid = s.pid;
  offer_length = s.offer_length;
  check_length = s.check_length;
  overhead = s.overhead;
  first_number = s.first;
  last_number = s.final;
}

-- whether a byte stands for a role
abbrev pub is_role : ℕ → Bool
is_role r = r == role_byte Sender || r == role_byte Recipient

-- data and number of a record that can be sealed: 1 to MAX_DATA bytes, from the first number to the last
pub record IsSealable (s : Scheme) (n : ℕ) (plain : List ℕ) : Type 0 where
  pub some : 0 < length plain
  pub most : length plain ≤ MAX_DATA
  pub bytes : IsBytes plain
  pub low : s.first ≤ n
  pub high : n ≤ s.final

-- a keyring under that root
pub record IsFormedUnder (root : List ℕ) (k : Keyring) : Type 0 where
  pub formed : IsFormed k
  pub same : k.root ≡ root

-- the laws that every kind of suite keeps
pub record IsLawful (s : Scheme) : Type 0 where
  -- the numbers
  pub pid_byte : s.pid < 256
  pub offer_bound : s.offer_length ≤ 64
  pub check_bound : s.check_length ≤ 32
  pub overhead_bound : s.overhead ≤ 32
  pub first_below : s.first < s.final
  pub final_bound : s.final ≤ MAX_NUMBER
  -- lengths, and that bytes are bytes
  pub offer_long : (k : Keyring) (seed : List ℕ) → IsFormed k → IsBytes16 seed →
      length (s.offer_of k seed) ≡ s.offer_length
  pub offer_bytes : (k : Keyring) (seed : List ℕ) → IsFormed k → IsBytes16 seed → IsBytes (s.offer_of k seed)
  pub secret_is : (k : Keyring) (seed offer : List ℕ) (role : ℕ) → IsFormed k → IsBytes16 seed → IsBytes offer →
      is_role role ≡ true → s.fit_of k offer ≡ true → IsBytes16 (s.secret_of k role seed offer)
  pub check_long : (k : Keyring) (value : List ℕ) (serial role : ℕ) → IsFormed k → IsBytes16 value →
      is_role role ≡ true → length (s.check_of k serial value role) ≡ s.check_length
  pub check_bytes : (k : Keyring) (value : List ℕ) (serial role : ℕ) → IsFormed k → IsBytes16 value →
      is_role role ≡ true → IsBytes (s.check_of k serial value role)
  pub link_is : (k : Keyring) (value : List ℕ) (serial : ℕ) → IsFormed k → IsBytes16 value →
      IsBytes16 (s.link_of k serial value)
  pub seal_bytes : (k : Keyring) (value plain : List ℕ) (serial role n : ℕ) → IsFormed k → IsBytes16 value →
      is_role role ≡ true → IsSealable s n plain → IsBytes (s.seal_of k serial value role n plain)
  -- under one root each written offer is fit, and the two peers' agreements on each other's offers give equal values
  pub fits : (root : List ℕ) (k k' : Keyring) (seed : List ℕ) → IsFormedUnder root k → IsFormedUnder root k' →
      IsBytes16 seed → s.fit_of k' (s.offer_of k seed) ≡ true
  pub agrees : (root : List ℕ) (k k' j j' : Keyring) (one other : List ℕ) → IsFormedUnder root k → IsFormedUnder root k' →
      IsFormedUnder root j → IsFormedUnder root j' → IsBytes16 one → IsBytes16 other →
      s.secret_of k (role_byte Sender) one (s.offer_of j' other) ≡ s.secret_of k' (role_byte Recipient) other (s.offer_of j one)
  -- opening under an equal value gives back what was sealed, whatever else the two suites mean and whatever the two serials
  pub opens : (k k' : Keyring) (value plain : List ℕ) (serial serial' role n : ℕ) → IsFormed k → IsFormed k' →
      IsBytes16 value → is_role role ≡ true → IsSealable s n plain →
      s.open_of k' serial' value (s.seal_of k serial value role n plain) ≡ Some (role, n, plain)
  -- a payload is as long as its data and the overhead, whatever data and number
  pub seal_long : (k : Keyring) (value plain : List ℕ) (serial role n : ℕ) → IsFormed k → IsBytes16 value →
      is_role role ≡ true → length (s.seal_of k serial value role n plain) ≡ length plain + s.overhead

-- Two suites are of one kind where first number, seal and open mean the same: seal, of what both can seal.
pub record IsOneKind (s t : Scheme) : Type 0 where
  pub firsts : s.first ≡ t.first
  pub seals : (k : Keyring) (value plain : List ℕ) (serial role n : ℕ) → IsFormed k → IsBytes16 value →
      is_role role ≡ true → IsSealable s n plain → IsSealable t n plain →
      s.seal_of k serial value role n plain ≡ t.seal_of k serial value role n plain
  pub opens : (k : Keyring) (value payload : List ℕ) (serial : ℕ) → IsFormed k → IsBytes16 value →
      IsBytes payload → s.open_of k serial value payload ≡ t.open_of k serial value payload

-- What is asked of a kind of suite beyond its laws: under one root, check values and link keys depend on the value of the shared secret alone,
-- whatever serials and other keys the suites have. Two peers may have made different keys before, and must get equal ones.
pub record DependsOnRootAndValue (s : Scheme) : Type 0 where
  pub checks : (root : List ℕ) (k k' : Keyring) (value : List ℕ) (serial serial' role : ℕ) → IsFormedUnder root k →
      IsFormedUnder root k' → s.check_of k serial value role ≡ s.check_of k' serial' value role
  pub links : (root : List ℕ) (k k' : Keyring) (value : List ℕ) (serial serial' : ℕ) → IsFormedUnder root k →
      IsFormedUnder root k' → s.link_of k serial value ≡ s.link_of k' serial' value
