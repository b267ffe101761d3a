-- How long what a suite writes is, at most.
use Rattle.std.proofs.Common.{◌≡◌, ℕ, ◌+◌, ◌≤◌, true, List, length, is_some, Ok, Result, ap, ◌∙◌, arith}
use Rattle.buffers.specs.declared.limits.TheConstants.{MAX_FRAME}
use Rattle.buffers.specs.Buffers.{length_result}
use Rattle.suite.specs.declared.limits.TheConstants.{MAX_DATA, MAX_NUMBER}
use Rattle.suite.specs.declared.types.KeyKind.TheVariants.{SharedSecret, LinkKey}
use Rattle.suite.specs.declared.types.Role.{Role}
use Rattle.suite.specs.declared.types.Denial.{Denial}
use Rattle.suite.specs.Numbers.{role_byte}
use Rattle.suite.specs.Meanings.{Meaning, IsWellFormed, keyring_of, value_in, value_of}
use Rattle.suite.specs.Schemes.{Scheme, IsLawful}
use Rattle.suite.specs.Calls.{check_result, seal_result}
use Rattle.suite.proofs.CallLaws.{role_ok, live_formed, checked_is, sealed_is}

-- the length that a call answers, by the bytes that it writes
length_is : (n : ℕ) (v : List ℕ) (r : Result (List ℕ) Denial) → Ok n ≡ length_result r → r ≡ Ok v → n ≡ length v
length_is n v r a e = let same : ◌≡◌ {A = Result ℕ Denial} (Ok n) (Ok (length v)) = a ∙ ap length_result e in cc

pub check_short : (s : Scheme) (m : Meaning) (key : ℕ) (role : Role) (room n : ℕ) → IsLawful s → IsWellFormed m → is_some (value_in m.live SharedSecret key) ≡ true → MAX_FRAME ≤ room → Ok n ≡ length_result (check_result s m key (role_byte role) room) → n ≤ 32
check_short s m key role room n l w h wide a =
    let v = s.check_of (keyring_of m) key (value_of m.live SharedSecret key) (role_byte role) in
    let is : n ≡ length v = length_is n v (check_result s m key (role_byte role) room) a (checked_is s m key role room wide h) in
    let long : length v ≡ s.check_length = l.check_long (keyring_of m) (value_of m.live SharedSecret key) key (role_byte role) w.keyring (live_formed m SharedSecret key w.keyring h) (role_ok role) in
    let most = l.check_bound in
    omega arith

pub seal_short : (s : Scheme) (m : Meaning) (key : ℕ) (role : Role) (number room n : ℕ) (plain : List ℕ) → IsLawful s → IsWellFormed m → is_some (value_in m.live LinkKey key) ≡ true → length plain ≤ MAX_DATA → number ≤ MAX_NUMBER → MAX_FRAME ≤ room
    → Ok n ≡ length_result (seal_result s m key (role_byte role) number plain room) → n ≤ MAX_DATA + 32
seal_short s m key role number room n plain l w h few low wide a =
    let v = s.seal_of (keyring_of m) key (value_of m.live LinkKey key) (role_byte role) number plain in
    let is : n ≡ length v = length_is n v (seal_result s m key (role_byte role) number plain room) a (sealed_is s m key role number plain room few low wide h) in
    let long : length v ≡ length plain + s.overhead = l.seal_long (keyring_of m) (value_of m.live LinkKey key) plain key (role_byte role) number w.keyring (live_formed m LinkKey key w.keyring h) (role_ok role) in
    let most = l.overhead_bound in
    omega arith

pub secret_long : (m : Meaning) (key : ℕ) → IsWellFormed m → is_some (value_in m.live SharedSecret key) ≡ true → length (value_of m.live SharedSecret key) ≡ 16
secret_long m key w h = (live_formed m SharedSecret key w.keyring h).long
