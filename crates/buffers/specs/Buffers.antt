-- A call that writes to the front of a lent buffer, by the bytes that it writes or its refusal.
use Rattle.std.specs.Prelude.{ℕ, cond, List, ◌++◌, length, drop, Some, None, Ok, Err, Option, Result, nat_le}

-- new bytes over the front of the old ones; what lies past them stays
abbrev pub with_front : List ℕ → List ℕ → List ℕ
with_front new old = new ++ drop (length new) old

-- how many bytes are written to the front of a buffer of that length; none if it has no room for all of them
abbrev pub front_length : List ℕ → ℕ → Option ℕ
front_length new room = cond (nat_le (length new) room) (Some (length new)) None

-- the buffer after: as it was, if it has no room for all of them
abbrev pub with_front_if_room : List ℕ → List ℕ → List ℕ
with_front_if_room new old = cond (nat_le (length new) (length old)) (with_front new old) old

-- the length that the call returns
abbrev pub length_result : {E : Type 0} → Result (List ℕ) E → Result ℕ E
length_result (Ok p) = Ok (length p)
length_result (Err e) = Err e

-- the buffer after: as it was, where the call is refused
abbrev pub buffer_after : {E : Type 0} → Result (List ℕ) E → List ℕ → List ℕ
buffer_after (Ok p) buffer = with_front p buffer
buffer_after (Err e) buffer = buffer
