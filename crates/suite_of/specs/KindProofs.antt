-- Proofs, which need not be read: a suite of a lawful kind keeps the laws of suites.
use Rattle.std.specs.Prelude.{◌≡◌, ℕ, ◌+◌, ◌^◌, ◌<◌, ◌≤◌, List, length}
use Rattle.std.proofs.Common.{arith, lit≤}
use Rattle.std.proofs.lemmas.Bool.{eq-eqb, eqb-true}
use Rattle.suite.specs.declared.types.Role.TheVariants.{Sender, Recipient}
use Rattle.suite.specs.Meanings.{IsBytes, IsBytes16, Keyring}
use Rattle.suite.specs.Numbers.{role_byte}
use Rattle.suite.specs.Schemes.{IsLawful, IsFormedUnder}
use Rattle.suite_of.specs.Kinds.{KindFunctions, scheme_of, IsLawfulKind}
use Rattle.suite_of.specs.Payloads.{payload_body, with_field}
use Rattle.suite_of.specs.PayloadProofs.{closed-length, closed-bytes, body-length, reads_back}

fit_is : (offer : List ℕ) → length offer ≡ 16 → IsBytes offer → IsBytes16 offer
fit_is offer e o = record { long = e; bytes = o }

pub lawful_scheme : (k : KindFunctions) → IsLawfulKind k → IsLawful (scheme_of k)
lawful_scheme k s =
    let check = s.check_bound in
    let field = s.field_bound in
    record {
      pid_byte = s.pid_byte;
      offer_bound = lit≤ tt;
      check_bound = omega arith;
      overhead_bound = omega arith;
      first_below = s.final_low;
      final_bound = s.final_bound;
      offer_long = λ keyring seed f e. e.long;
      offer_bytes = λ keyring seed f e. e.bytes;
      secret_is = λ keyring seed offer role f e o ok fit. s.secret_is keyring.root seed offer role f.root e (fit_is offer (eqb-true (length offer) 16 fit) o) ok;
      check_long = λ keyring value serial role f v ok. s.check_long value role v ok;
      check_bytes = λ keyring value serial role f v ok. s.check_bytes value role v ok;
      link_is = λ keyring value serial f v. s.link_is value v;
      seal_bytes = λ keyring value plain serial role n f v ok can. closed-bytes (k.stream_of value role n) (k.field_of value) role n plain (λ i. s.stream_byte value role n i v) (s.field_bytes value _ v) ok can.bytes;
      fits = λ root keyring keyring' seed u u' e. eq-eqb (length seed) 16 e.long;
      agrees = λ root keyring keyring' j j' one other u u' w w' p q. equal_secrets root keyring keyring' one other u u' p q;
      opens = λ keyring keyring' value plain serial serial' role n f f' v ok can. reads_back k.field_length (k.field_of value) (k.stream_of value) role n plain (s.field_long value _ v) ok (most can.high);
      seal_long = λ keyring value plain serial role n f v ok. seal_result-length value role n plain v;
    }
  where
    most : {n : ℕ} → n ≤ k.final → n < 2 ^ 32
    most h = let b = s.final_bound in omega arith

    -- the two peers' secrets, their suites under one root
    equal_secrets : (root : List ℕ) (keyring keyring' : Keyring) (one other : List ℕ) → IsFormedUnder root keyring → IsFormedUnder root keyring' → IsBytes16 one → IsBytes16 other → k.secret_of keyring.root (role_byte Sender) one other ≡ k.secret_of keyring'.root (role_byte Recipient) other one
    equal_secrets root keyring keyring' one other u u' p q =
        let e = s.agrees keyring.root one other u.formed.root p q in
        let same = u.same in
        let same' = u'.same in
        cc

    seal_result-length : (value : List ℕ) (role n : ℕ) (plain : List ℕ) → IsBytes16 value → length (with_field (k.field_of value) (payload_body (k.stream_of value role n) role n plain)) ≡ length plain + (5 + k.field_length)
    seal_result-length value role n plain v =
        let body = payload_body (k.stream_of value role n) role n plain in
        let c = closed-length (k.field_of value) k.field_length body (s.field_long value body v) in
        let b = body-length (k.stream_of value role n) role n plain in
        omega arith
