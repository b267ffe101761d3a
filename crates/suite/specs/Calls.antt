-- What each call of a suite returns and writes, and what the suite means after it.
use Rattle.std.specs.Prelude.{ℕ, ◌+◌, Bool, cond, not, ◌||◌, List, [], ◌∷◌, ◌++◌, length, Some, None, Ok, Err, Option, Result, ◌==◌, nat_lt}
use Rattle.buffers.specs.declared.limits.TheConstants.{MAX_FRAME, MAX_PAYLOAD}
use Rattle.buffers.specs.Buffers.{with_front}
use Rattle.suite.specs.declared.limits.TheConstants.{MAX_DATA, MAX_NUMBER}
use Rattle.suite.specs.declared.types.KeyKind.{KeyKind}
use Rattle.suite.specs.declared.types.KeyKind.TheVariants.{SharedSecret, LinkKey}
use Rattle.suite.specs.declared.types.Denial.{Denial}
use Rattle.suite.specs.declared.types.Denial.TheVariants.{BadOffer, Spent, Unfit, Unknown}
use Rattle.suite.specs.Meanings.{Meaning, keyring_of, value_in, is_live, keys_without}
use Rattle.suite.specs.Schemes.{Scheme, is_role}

-- A call that makes a key, by the key's value: the serial that it returns, and the meaning after.

-- one key more, under the next serial
abbrev pub with_key : Meaning → KeyKind → List ℕ → Meaning
with_key m kind value = record {
  root = m.root;
  last = m.last;
  newest = m.newest + 1;
  live = m.live ++ (record { serial = m.newest + 1; kind = kind; value = value } ∷ []);
}

-- the serial of that key, or the denial
abbrev pub serial_result : {E : Type 0} → Meaning → Result (List ℕ) E → Result ℕ E
serial_result m (Ok v) = Ok (m.newest + 1)
serial_result m (Err e) = Err e

-- the meaning after: as before where the call is denied
abbrev pub after_making : {E : Type 0} → Meaning → KeyKind → Result (List ℕ) E → Meaning
after_making m kind (Ok v) = with_key m kind v
after_making m kind (Err e) = m

-- The conditions of a denial.

-- whether a seed does not have sixteen bytes
abbrev pub is_wrong_seed : List ℕ → Bool
is_wrong_seed seed = not (length seed == 16)

-- whether a buffer of that length does not take every frame
abbrev pub is_short_buffer : ℕ → Bool
is_short_buffer room = nat_lt room MAX_FRAME

-- no further key: two are live, or the serials are used up
abbrev pub is_spent : Meaning → Bool
is_spent m = nat_lt 1 (length m.live) || m.newest == m.last

-- what is done with the value of a key, or Unknown without one
abbrev pub value_or_unknown : {A : Type 0} → (List ℕ → Result A Denial) → Option (List ℕ) → Result A Denial
value_or_unknown f None = Err Unknown
value_or_unknown f (Some v) = f v

-- The calls. Room is the length of the buffer that a call may write.

-- the offer of a seed
abbrev pub offer_result : Scheme → Meaning → List ℕ → ℕ → Result (List ℕ) Denial
offer_result s m seed room =
    cond (is_wrong_seed seed || is_short_buffer room) (Err Unfit) (Ok (s.offer_of (keyring_of m) seed))

-- the value of the shared secret
abbrev pub agree_result : Scheme → Meaning → List ℕ → List ℕ → ℕ → Result (List ℕ) Denial
agree_result s m seed offer role =
    cond (is_wrong_seed seed || not (is_role role)) (Err Unfit)
    (cond (not (s.fit_of (keyring_of m) offer)) (Err BadOffer)
    (cond (is_spent m) (Err Spent)
    (Ok (s.secret_of (keyring_of m) role seed offer))))

-- the value of the link key
abbrev pub derive_result : Scheme → Meaning → ℕ → Result (List ℕ) Denial
derive_result s m key =
    value_or_unknown (λ v. cond (is_spent m) (Err Spent) (Ok (s.link_of (keyring_of m) key v)))
    (value_in m.live SharedSecret key)

-- a shared secret's check value for a role
abbrev pub check_result : Scheme → Meaning → ℕ → ℕ → ℕ → Result (List ℕ) Denial
check_result s m key role room =
    cond (not (is_role role) || is_short_buffer room) (Err Unfit)
    (value_or_unknown (λ v. Ok (s.check_of (keyring_of m) key v role)) (value_in m.live SharedSecret key))

-- the sixteen bytes of a shared secret
abbrev pub reveal_result : Meaning → ℕ → ℕ → Result (List ℕ) Denial
reveal_result m key room = cond (nat_lt room 16) (Err Unfit) (value_or_unknown Ok (value_in m.live SharedSecret key))

-- the payload of data under a link key
abbrev pub seal_result : Scheme → Meaning → ℕ → ℕ → ℕ → List ℕ → ℕ → Result (List ℕ) Denial
seal_result s m key role n plain room =
    cond (not (is_role role) || nat_lt MAX_DATA (length plain) || nat_lt MAX_NUMBER n || is_short_buffer room) (Err Unfit)
    (value_or_unknown (λ v. Ok (s.seal_of (keyring_of m) key v role n plain)) (value_in m.live LinkKey key))

-- role, number and data of a payload; none if it is not good
abbrev pub open_result : Scheme → Meaning → ℕ → List ℕ → ℕ → Result (Option (ℕ × ℕ × List ℕ)) Denial
open_result s m key payload room =
    cond (nat_lt MAX_PAYLOAD (length payload) || is_short_buffer room) (Err Unfit)
    (value_or_unknown (λ v. Ok (s.open_of (keyring_of m) key v payload)) (value_in m.live LinkKey key))

-- role, number and data length together
abbrev pub open_lengths : Result (Option (ℕ × ℕ × List ℕ)) Denial → Result (Option (ℕ × ℕ × ℕ)) Denial
open_lengths (Ok (Some t)) = Ok (Some (t.0, t.1, length t.2))
open_lengths (Ok None) = Ok None
open_lengths (Err e) = Err e

-- the buffer after: the data in front where the payload is good
abbrev pub buffer_after_open : Result (Option (ℕ × ℕ × List ℕ)) Denial → List ℕ → List ℕ
buffer_after_open (Ok (Some t)) buffer = with_front t.2 buffer
buffer_after_open (Ok None) buffer = buffer
buffer_after_open (Err e) buffer = buffer

-- unknown if no key of that serial is live
abbrev pub destroy_result : Meaning → ℕ → Result (Unit {0}) Denial
destroy_result m key = cond (is_live m.live key) (Ok tt) (Err Unknown)

-- the meaning after
abbrev pub after_destroy : Meaning → ℕ → Meaning
after_destroy m key = record { root = m.root; last = m.last; newest = m.newest; live = keys_without m.live key }
