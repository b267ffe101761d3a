-- A record that is sealed within the limits of a suite opens as itself, whatever its data and number: also without data.
use Rattle.std.proofs.Common.{◌≡◌, ℕ, ◌≤◌, Bool, true, false, List, length, take, is_some, Some, None, Ok, Err, Option, refl, subst, arith}
use Rattle.std.specs.Prelude.{nat_le}
use Rattle.std.proofs.lemmas.Bool.{and_parts, leb-true}
use Rattle.std.proofs.lemmas.Grind.{common_steps}
use Rattle.std.proofs.lemmas.Slice.Eq.{bytes_eq-Decides}
use Rattle.buffers.specs.declared.limits.TheConstants.{MAX_FRAME, MAX_PAYLOAD}
use Rattle.buffers.specs.Buffers.{length_result, buffer_after}
use Rattle.buffers.proofs.FrontLaws.{take-over}
use Rattle.suite.specs.declared.limits.TheConstants.{MAX_DATA, MAX_NUMBER}
use Rattle.suite.specs.declared.types.Denial.TheVariants.{Unfit}
use Rattle.suite.specs.declared.types.Role.TheVariants.{Sender}
use Rattle.suite.specs.Numbers.{role_byte}
use Rattle.suite.specs.declared.types.KeyKind.TheVariants.{LinkKey}
use Rattle.suite.specs.Meanings.{Meaning, value_in}
use Rattle.suite.specs.Calls.{seal_result, open_result}
use Rattle.suite_of.specs.Kinds.{KindFunctions, scheme_of}
use Rattle.suite_of.specs.Payloads.{payload_body, with_field, payload_parts}
use Rattle.suite_of.specs.PayloadProofs.{closed-length, body-length, reads_back}
use Rattle.measured.specs.Returns.{is_given_back, is_in_limits}

module _ (k : KindFunctions) (long : (value body : List ℕ) → length (k.field_of value body) ≡ k.field_length) (short : k.field_length ≤ 16) where
  payload : List ℕ → ℕ → List ℕ → List ℕ
  payload value n plain = with_field (k.field_of value) (payload_body (k.stream_of value 1 n) 1 n plain)

  payload-length : (value plain : List ℕ) (n : ℕ) → length plain ≤ MAX_DATA → length (payload value n plain) ≤ MAX_PAYLOAD
  unfolding payload
  payload-length value plain n h =
      let body = payload_body (k.stream_of value 1 n) 1 n plain in
      omega (arith, closed-length (k.field_of value) k.field_length body (long value body), body-length (k.stream_of value 1 n) 1 n plain)

  payload-read : (value plain : List ℕ) (n : ℕ) → n ≤ MAX_NUMBER → payload_parts k.field_length (k.field_of value) (k.stream_of value) (payload value n plain) ≡ Some (1, n, plain)
  unfolding payload
  payload-read value plain n h = reads_back k.field_length (k.field_of value) (k.stream_of value) 1 n plain (long value _) refl (omega arith)

  sealed_is : (m : Meaning) (key n : ℕ) (plain value : List ℕ) → value_in m.live LinkKey key ≡ Some value → length plain ≤ MAX_DATA → n ≤ MAX_NUMBER → seal_result (scheme_of k) m key 1 n plain MAX_FRAME ≡ Ok (payload value n plain)
  unfolding payload
  sealed_is m key n plain value e h l = grind (arith, common_steps)

  denied : (m : Meaning) (key n : ℕ) (plain : List ℕ) → is_in_limits plain n ≡ false → seal_result (scheme_of k) m key 1 n plain MAX_FRAME ≡ Err Unfit
  denied m key n plain h = grind (arith, common_steps)

  opened_is : (m : Meaning) (key : ℕ) (value sent : List ℕ) → value_in m.live LinkKey key ≡ Some value → length sent ≤ MAX_PAYLOAD → open_result (scheme_of k) m key sent MAX_FRAME ≡ Ok (payload_parts k.field_length (k.field_of value) (k.stream_of value) sent)
  opened_is m key value sent e h = grind (arith, common_steps)

  gave_itself : (n : ℕ) (plain : List ℕ) → is_given_back n plain (Ok (Some (1, n, plain))) ≡ true
  gave_itself n plain = let e = (bytes_eq-Decides plain plain).1 refl in grind (arith, common_steps)

  within : (m : Meaning) (key n : ℕ) (plain value : List ℕ) → value_in m.live LinkKey key ≡ Some value → length plain ≤ MAX_DATA → n ≤ MAX_NUMBER → is_given_back n plain (open_result (scheme_of k) m key (payload value n plain) MAX_FRAME) ≡ true
  within m key n plain value e h l = rw (opened_is m key value (payload value n plain) e (payload-length value plain n h), payload-read value plain n l) (gave_itself n plain)

  module _ (m : Meaning) (key n size : ℕ) (plain buffer out : List ℕ) (answer : Ok size ≡ length_result (seal_result (scheme_of k) m key 1 n plain MAX_FRAME)) (writes : out ≡ buffer_after (seal_result (scheme_of k) m key 1 n plain MAX_FRAME) buffer) where
    of_value : (o : Option (List ℕ)) → value_in m.live LinkKey key ≡ o → is_some o ≡ true → length plain ≤ MAX_DATA → n ≤ MAX_NUMBER → is_given_back n plain (open_result (scheme_of k) m key (take size out) MAX_FRAME) ≡ true
    of_value None e live h l = cc
    of_value (Some value) e live h l =
        let s = sealed_is m key n plain value e h l in
        let a = rw s at answer in
        let w = rw s at writes in
        let size_is : size ≡ length (payload value n plain) = cc in
        rw (w, take-over (payload value n plain) buffer size size_is) (within m key n plain value e h l)

    of_limits : (b : Bool) → is_in_limits plain n ≡ b → is_some (value_in m.live LinkKey key) ≡ true → is_given_back n plain (open_result (scheme_of k) m key (take size out) MAX_FRAME) ≡ b
    of_limits false e live = let a = rw (denied m key n plain e) at answer in cc
    of_limits true e live =
        let parts = and_parts (nat_le (length plain) MAX_DATA) (nat_le n MAX_NUMBER) e in
        of_value _ refl live (leb-true (length plain) MAX_DATA parts.0) (leb-true n MAX_NUMBER parts.1)

  pub returns_itself : (m : Meaning) (key role n size : ℕ) (plain buffer out : List ℕ) → is_some (value_in m.live LinkKey key) ≡ true → role ≡ role_byte Sender
      → Ok size ≡ length_result (seal_result (scheme_of k) m key role n plain MAX_FRAME)
      → out ≡ buffer_after (seal_result (scheme_of k) m key role n plain MAX_FRAME) buffer
      → is_given_back n plain (open_result (scheme_of k) m key (take size out) MAX_FRAME) ≡ is_in_limits plain n
  returns_itself m key role n size plain buffer out live is answer writes =
      let a = subst (λ r. Ok size ≡ length_result (seal_result (scheme_of k) m key r n plain MAX_FRAME)) is answer in
      let w = subst (λ r. out ≡ buffer_after (seal_result (scheme_of k) m key r n plain MAX_FRAME) buffer) is writes in
      of_limits m key n size plain buffer out a w _ refl live
