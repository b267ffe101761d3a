-- The keys of a store, and what its calls return and leave.
use Rattle.std.specs.Prelude.{ℕ, ◌+◌, Bool, cond, List, [], ◌∷◌, ◌++◌, length, Ok, Err, Result, ◌==◌}
use Rattle.suite.specs.declared.types.KeyKind.{KeyKind}
use Rattle.suite.specs.declared.types.Denial.{Denial}
use Rattle.suite.specs.declared.types.Denial.TheVariants.{Spent}
use Rattle.suite.specs.Calls.{is_spent}
use Rattle.suite.specs.Meanings.{Key, Meaning}
use Rattle.key_store.specs.declared.store.KeyStore.{KeyStore}
use Rattle.key_store.specs.Places.{key_in}

-- the last serial of both suites, 2^32 - 1
abbrev pub last_serial : ℕ
last_serial = 4294967295

-- the serial of the key made last, or 0
abbrev pub newest_of : KeyStore → ℕ
newest_of s = s.newest

-- the live keys, in the order in which they were made
abbrev pub keys_of : KeyStore → List Key
keys_of s = key_in s.first ++ key_in s.second

-- what a suite means that has this root and keeps its keys in this store
abbrev pub meaning_of_store : List ℕ → KeyStore → Meaning
meaning_of_store root s = record { root = root; last = last_serial; newest = newest_of s; live = keys_of s }

-- no further key, as the suite's interface has it, whatever the root
abbrev pub is_store_spent : KeyStore → Bool
is_store_spent s = is_spent (meaning_of_store [] s)

-- What put returns and leaves: the newest serial and the live keys.

-- the serial of the key put, or no further key
abbrev pub put_result : KeyStore → Result ℕ Denial
put_result s = cond (is_store_spent s) (Err Spent) (Ok (newest_of s + 1))

-- the newest serial after
abbrev pub put_newest : KeyStore → ℕ
put_newest s = cond (is_store_spent s) (newest_of s) (newest_of s + 1)

-- the live keys after
abbrev pub put_keys : KeyStore → KeyKind → List ℕ → List Key
put_keys s kind value =
    cond (is_store_spent s) (keys_of s)
    (keys_of s ++ (record { serial = newest_of s + 1; kind = kind; value = value } ∷ []))

-- a store ends if no key is live, and is returned otherwise
abbrev pub end_result : KeyStore → Result (Unit {0}) KeyStore
end_result s = cond (length (keys_of s) == 0) (Ok tt) (Err s)
