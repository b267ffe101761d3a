-- What a suite means at one moment: its root, its serials and its live keys.
use Rattle.std.specs.Prelude.{◌≡◌, ℕ, ◌^◌, ◌<◌, ◌≤◌, Bool, false, cond, ◌&&◌, ◌||◌, List, [], ◌∷◌, length, Some, None, Option, ◌==◌, unwrap_or}
use Rattle.std.specs.List.{AllByRecursion}
use Rattle.suite.specs.declared.types.KeyKind.{KeyKind}
use Rattle.suite.specs.Numbers.{kind_number}

-- each number is a byte
abbrev pub IsBytes : List ℕ → Type 0
IsBytes xs = AllByRecursion (λ x. x < 256) xs

-- a root, a seed or the value of a key
pub record IsBytes16 (xs : List ℕ) : Type 0 where
  pub long : length xs ≡ 16
  pub bytes : IsBytes xs

-- a live key
pub record Key : Type 0 where
  pub serial : ℕ
  pub kind : KeyKind
  pub value : List ℕ

-- live has the live keys in the order in which they were made
pub record Meaning : Type 0 where
  pub root : List ℕ
  pub last : ℕ
  pub newest : ℕ
  pub live : List Key

-- What the functions of a kind of suite see: all that the suite means but its last serial, which layers change.
pub record Keyring : Type 0 where
  pub root : List ℕ
  pub newest : ℕ
  pub live : List Key

-- all that a suite means but its last serial
abbrev pub keyring_of : Meaning → Keyring
keyring_of m = record { root = m.root; newest = m.newest; live = m.live }

-- the same meaning with another last serial
abbrev pub with_last : Meaning → ℕ → Meaning
with_last m last = record { root = m.root; last = last; newest = m.newest; live = m.live }

-- whether two kinds of key are the same
abbrev pub is_same_kind : KeyKind → KeyKind → Bool
is_same_kind k j = kind_number k == kind_number j

-- the value of the live key of that kind and serial
abbrev pub value_in : List Key → KeyKind → ℕ → Option (List ℕ)
value_in [] kind n = None
value_in (k ∷ ks) kind n = cond (k.serial == n && is_same_kind k.kind kind) (Some k.value) (value_in ks kind n)

-- the same, and no bytes where there is no such key
abbrev pub value_of : List Key → KeyKind → ℕ → List ℕ
value_of ks kind n = unwrap_or (value_in ks kind n) []

-- whether a key of that serial is live
abbrev pub is_live : List Key → ℕ → Bool
is_live [] n = false
is_live (k ∷ ks) n = k.serial == n || is_live ks n

-- the keys without the one of that serial
abbrev pub keys_without : List Key → ℕ → List Key
keys_without [] n = []
keys_without (k ∷ ks) n = cond (k.serial == n) ks (k ∷ keys_without ks n)

-- no two keys have one serial
abbrev pub HasDistinctSerials : List Key → Type 0
HasDistinctSerials [] = Unit {0}
HasDistinctSerials (k ∷ ks) = (is_live ks k.serial ≡ false) × HasDistinctSerials ks

-- root and values of sixteen bytes, serials from 1 to the newest, and no two keys with one serial
pub record IsFormed (k : Keyring) : Type 0 where
  pub root : IsBytes16 k.root
  pub values : AllByRecursion (λ j. IsBytes16 j.value) k.live
  pub serials : AllByRecursion (λ j. (1 ≤ j.serial) × (j.serial ≤ k.newest)) k.live
  pub apart : HasDistinctSerials k.live

-- what every suite owes at every moment
pub record IsWellFormed (m : Meaning) : Type 0 where
  pub keyring : IsFormed (keyring_of m)
  pub newest : m.newest ≤ m.last
  pub last : m.last < 2 ^ 32
