-- The bytes of a message that was read.
use Rattle.std.proofs.Common.{◌≡◌, ℕ, Bool, true, false, cond, ◌||◌, ltb, List, length, Ok, Err, Result, sym, refl, subst, arith}
use Rattle.buffers.specs.declared.limits.TheConstants.{MAX_FRAME}
use Rattle.suite.specs.Meanings.{IsBytes}
use Rattle.frame.specs.Frames.{FrameParts, bytes_after_sep, wire_bytes}
use Rattle.frame.specs.Reading.{message, reading}
use Rattle.frame.specs.Writing.{is_tmn_with_payload}
use Rattle.frame.proofs.Trips.{writes_again}

written_as : (b : Bool) (w f : List ℕ) → ◌≡◌ {A = Result (List ℕ) ℕ} (cond b (Err 3) (Ok w)) (Ok f) → w ≡ f
written_as true w f e = absurd (cc)
written_as false w f e = cc

-- bytes that are read as a message are the bytes of that message
pub read_is : (bytes : List ℕ) (p : FrameParts) → reading bytes ≡ message p → wire_bytes p ≡ bytes
read_is bytes p e = written_as (ltb MAX_FRAME (length (wire_bytes p)) || is_tmn_with_payload p.contents) (wire_bytes p) bytes (writes_again bytes (reading bytes) refl p MAX_FRAME e (omega arith))

pub fields_bytes : (bytes : List ℕ) (p : FrameParts) → reading bytes ≡ message p → IsBytes bytes → IsBytes (bytes_after_sep p.contents)
fields_bytes bytes p e h = let all : IsBytes (wire_bytes p) = subst (λ x. IsBytes x) (sym (read_is bytes p e)) h in all.1
