-- The keys that an entity works with are live after a key was made.
use Rattle.std.proofs.Common.{◌≡◌, ℕ, ◌+◌, ◌<◌, true, false, List, is_some, Ok, Err, Result, ap, arith}
use Rattle.suite.specs.declared.types.KeyKind.{KeyKind}
use Rattle.suite.specs.declared.types.KeyKind.TheVariants.{SharedSecret, LinkKey}
use Rattle.suite.specs.Meanings.{Key, Meaning, IsWellFormed, value_in, value_of}
use Rattle.suite.specs.Calls.{with_key, serial_result, after_making}
use Rattle.suite.proofs.KeyLaws.{above_newest, value_added, value_stays}
use Rattle.suite.proofs.CallLaws.{live_value}
use Rattle.protocol.specs.declared.states.State.{State}
use Rattle.protocol.specs.declared.states.State.TheVariants.{ConfirmedSch}
use Rattle.protocol.specs.declared.faults.SuiteFault.{SuiteFault}
use Rattle.protocol.specs.Models.{has_link, HasLiveKeys}

-- a new key is live
pub new_live : (m : Meaning) (kind : KeyKind) (v : List ℕ) → IsWellFormed m → is_some (value_in (with_key m kind v).live kind (m.newest + 1)) ≡ true
new_live m kind v w =
    let k : Key = record { serial = m.newest + 1; kind = kind; value = v } in
    let above : m.newest < m.newest + 1 = omega arith in
    ap is_some (value_added m.live k (above_newest m.live m.newest (m.newest + 1) w.keyring.serials above))

-- and the others stay live
pub old_live : (m : Meaning) (kind : KeyKind) (v : List ℕ) (of : KeyKind) (n : ℕ) → is_some (value_in m.live of n) ≡ true → is_some (value_in (with_key m kind v).live of n) ≡ true
old_live m kind v of n h =
    let k : Key = record { serial = m.newest + 1; kind = kind; value = v } in
    ap is_some (value_stays m.live k of n (value_of m.live of n) (live_value m of n h))

-- after an agreement, in a state without a link key
pub agreed_live : (m m' : Meaning) (r : Result (List ℕ) SuiteFault) (made link : ℕ) (state : State) → IsWellFormed m → has_link state ≡ false → Ok made ≡ serial_result m r → m' ≡ after_making m SharedSecret r → HasLiveKeys m' state made link
agreed_live m m' (Ok v) made link state w none a e =
    let same : made ≡ m.newest + 1 = cc in
    rw (e, same) (record { secret_live = λ _. new_live m SharedSecret v w; link_live = λ some. absurd (cc) })
agreed_live m m' (Err f) made link state w none a e = absurd (cc)

-- after a derivation
pub derived_live : (m m' : Meaning) (r : Result (List ℕ) SuiteFault) (made secret : ℕ) → IsWellFormed m → is_some (value_in m.live SharedSecret secret) ≡ true → Ok made ≡ serial_result m r → m' ≡ after_making m LinkKey r → HasLiveKeys m' ConfirmedSch secret made
derived_live m m' (Ok v) made secret w h a e =
    let same : made ≡ m.newest + 1 = cc in
    rw (e, same) (record { secret_live = λ _. old_live m LinkKey v SharedSecret secret h; link_live = λ _. new_live m LinkKey v w })
derived_live m m' (Err f) made secret w h a e = absurd (cc)
