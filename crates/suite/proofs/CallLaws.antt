-- What a suite answers that is asked within its limits, with a key that is live.
use Rattle.std.proofs.Common.{◌≡◌, ℕ, ◌≤◌, true, false, cond, not, ◌||◌, eqb, ltb, List, length, is_some, Some, None, Ok, Err, Option, Result, refl, ap, ◌∙◌}
use Rattle.std.proofs.lemmas.Bool.{eq-eqb, le-ltb, or_from, not_from_true, cond-false}
use Rattle.buffers.specs.declared.limits.TheConstants.{MAX_FRAME, MAX_PAYLOAD}
use Rattle.suite.specs.declared.limits.TheConstants.{MAX_DATA, MAX_NUMBER}
use Rattle.suite.specs.declared.types.Role.{Role}
use Rattle.suite.specs.declared.types.Role.TheVariants.{Sender, Recipient}
use Rattle.suite.specs.declared.types.KeyKind.{KeyKind}
use Rattle.suite.specs.declared.types.KeyKind.TheVariants.{SharedSecret, LinkKey}
use Rattle.suite.specs.declared.types.Denial.{Denial}
use Rattle.suite.specs.declared.types.Denial.TheVariants.{BadOffer, Spent}
use Rattle.suite.specs.Numbers.{role_byte}
use Rattle.suite.specs.Meanings.{Meaning, IsBytes16, IsFormed, keyring_of, value_in, value_of}
use Rattle.suite.specs.Schemes.{Scheme, is_role}
use Rattle.suite.specs.Calls.{is_wrong_seed, is_short_buffer, is_spent, value_or_unknown, offer_result, agree_result, derive_result, check_result, reveal_result, seal_result, open_result}
use Rattle.suite.proofs.KeyLaws.{found}

-- a role's byte is a role's
pub role_ok : (r : Role) → is_role (role_byte r) ≡ true
role_ok Sender = refl
role_ok Recipient = refl

role_fits : (r : Role) → not (is_role (role_byte r)) ≡ false
role_fits r = not_from_true (is_role (role_byte r)) (role_ok r)

pub room_enough : (room : ℕ) → MAX_FRAME ≤ room → is_short_buffer room ≡ false
room_enough room h = le-ltb room MAX_FRAME h

seed_fits : (seed : List ℕ) → length seed ≡ 16 → is_wrong_seed seed ≡ false
seed_fits seed e = not_from_true (eqb (length seed) 16) (eq-eqb (length seed) 16 e)

some_of : (o : Option (List ℕ)) → is_some o ≡ true → (v : List ℕ) × (o ≡ Some v)
some_of (Some v) e = (v, refl)
some_of None e = absurd (cc)

-- a live key's value, and that it has sixteen bytes
pub live_value : (m : Meaning) (kind : KeyKind) (key : ℕ) → is_some (value_in m.live kind key) ≡ true → value_in m.live kind key ≡ Some (value_of m.live kind key)
live_value m kind key h = let x = some_of (value_in m.live kind key) h in let e = x.1 in rw e

pub live_formed : (m : Meaning) (kind : KeyKind) (key : ℕ) → IsFormed (keyring_of m) → is_some (value_in m.live kind key) ≡ true → IsBytes16 (value_of m.live kind key)
live_formed m kind key f h = found IsBytes16 m.live kind key (value_of m.live kind key) f.values (live_value m kind key h)

-- with the value of the key
with_value : {A : Type 0} (m : Meaning) (kind : KeyKind) (key : ℕ) (f : List ℕ → Result A Denial) → is_some (value_in m.live kind key) ≡ true → value_or_unknown f (value_in m.live kind key) ≡ f (value_of m.live kind key)
with_value m kind key f h = ap (value_or_unknown f) (live_value m kind key h)

pub offered_is : (s : Scheme) (m : Meaning) (seed : List ℕ) (room : ℕ) → length seed ≡ 16 → MAX_FRAME ≤ room → offer_result s m seed room ≡ Ok (s.offer_of (keyring_of m) seed)
offered_is s m seed room e h = cond-false (is_wrong_seed seed || is_short_buffer room) _ _ (or_from (is_wrong_seed seed) (is_short_buffer room) (seed_fits seed e) (room_enough room h))

pub agreed_is : (s : Scheme) (m : Meaning) (seed offer : List ℕ) (role : Role) → length seed ≡ 16 → agree_result s m seed offer (role_byte role) ≡ cond (not (s.fit_of (keyring_of m) offer)) (Err BadOffer) (cond (is_spent m) (Err Spent) (Ok (s.secret_of (keyring_of m) (role_byte role) seed offer)))
agreed_is s m seed offer role e = cond-false (is_wrong_seed seed || not (is_role (role_byte role))) _ _ (or_from (is_wrong_seed seed) (not (is_role (role_byte role))) (seed_fits seed e) (role_fits role))

pub derived_is : (s : Scheme) (m : Meaning) (key : ℕ) → is_some (value_in m.live SharedSecret key) ≡ true → derive_result s m key ≡ cond (is_spent m) (Err Spent) (Ok (s.link_of (keyring_of m) key (value_of m.live SharedSecret key)))
derived_is s m key h = with_value m SharedSecret key _ h

pub checked_is : (s : Scheme) (m : Meaning) (key : ℕ) (role : Role) (room : ℕ) → MAX_FRAME ≤ room → is_some (value_in m.live SharedSecret key) ≡ true → check_result s m key (role_byte role) room ≡ Ok (s.check_of (keyring_of m) key (value_of m.live SharedSecret key) (role_byte role))
checked_is s m key role room h k =
    cond-false (not (is_role (role_byte role)) || is_short_buffer room) _ _ (or_from (not (is_role (role_byte role))) (is_short_buffer room) (role_fits role) (room_enough room h))
    ∙ with_value m SharedSecret key _ k

pub revealed_is : (m : Meaning) (key room : ℕ) → 16 ≤ room → is_some (value_in m.live SharedSecret key) ≡ true → reveal_result m key room ≡ Ok (value_of m.live SharedSecret key)
revealed_is m key room h k = cond-false (ltb room 16) _ _ (le-ltb room 16 h) ∙ with_value m SharedSecret key _ k

pub sealed_is : (s : Scheme) (m : Meaning) (key : ℕ) (role : Role) (n : ℕ) (plain : List ℕ) (room : ℕ) → length plain ≤ MAX_DATA → n ≤ MAX_NUMBER → MAX_FRAME ≤ room → is_some (value_in m.live LinkKey key) ≡ true
    → seal_result s m key (role_byte role) n plain room ≡ Ok (s.seal_of (keyring_of m) key (value_of m.live LinkKey key) (role_byte role) n plain)
sealed_is s m key role n plain room long low h k =
    let first = or_from (not (is_role (role_byte role))) (ltb MAX_DATA (length plain)) (role_fits role) (le-ltb MAX_DATA (length plain) long) in
    let second = or_from (not (is_role (role_byte role)) || ltb MAX_DATA (length plain)) (ltb MAX_NUMBER n) first (le-ltb MAX_NUMBER n low) in
    cond-false (not (is_role (role_byte role)) || ltb MAX_DATA (length plain) || ltb MAX_NUMBER n || is_short_buffer room) _ _
    (or_from (not (is_role (role_byte role)) || ltb MAX_DATA (length plain) || ltb MAX_NUMBER n) (is_short_buffer room) second (room_enough room h))
    ∙ with_value m LinkKey key _ k

pub opened_is : (s : Scheme) (m : Meaning) (key : ℕ) (payload : List ℕ) (room : ℕ) → length payload ≤ MAX_PAYLOAD → MAX_FRAME ≤ room → is_some (value_in m.live LinkKey key) ≡ true
    → open_result s m key payload room ≡ Ok (s.open_of (keyring_of m) key (value_of m.live LinkKey key) payload)
opened_is s m key payload room long h k =
    cond-false (ltb MAX_PAYLOAD (length payload) || is_short_buffer room) _ _ (or_from (ltb MAX_PAYLOAD (length payload)) (is_short_buffer room) (le-ltb MAX_PAYLOAD (length payload) long) (room_enough room h))
    ∙ with_value m LinkKey key _ k
