-- A payload: role, number in four bytes, data XOR a stream, and last a field that is computed of all before it.
use Rattle.std.specs.Prelude.{ℕ, ◌+◌, ◌-◌, ◌*◌, ◌/◌, ◌%◌, Bool, cond, ◌&&◌, List, [], ◌∷◌, ◌++◌, length, take, drop, Some, None, Option, nat_le, slice_index}
use Rattle.std.specs.Option.{option_map}
use Rattle.std.specs.Str.{bytes_eq}
use Rattle.suite.specs.Schemes.{is_role}
use Rattle.suite_of.specs.Streams.{xor_stream}

-- a number in four bytes, the most significant first
abbrev pub four_bytes : ℕ → List ℕ
four_bytes n = (n / 16777216) % 256 ∷ (n / 65536) % 256 ∷ (n / 256) % 256 ∷ n % 256 ∷ []

-- the number of a payload
abbrev pub number_at : List ℕ → ℕ
number_at p = slice_index p 1 * 16777216 + slice_index p 2 * 65536 + slice_index p 3 * 256 + slice_index p 4

-- all of a payload but the field
abbrev pub payload_body : (ℕ → ℕ) → ℕ → ℕ → List ℕ → List ℕ
payload_body stream role n plain = role ∷ (four_bytes n ++ xor_stream stream 0 plain)

-- a body with its field
abbrev pub with_field : (List ℕ → List ℕ) → List ℕ → List ℕ
with_field field body = body ++ field body

-- all of a payload but its last w bytes
abbrev pub all_but_last : ℕ → List ℕ → List ℕ
all_but_last w p = take (length p - w) p

-- its last w bytes
abbrev pub last_bytes : ℕ → List ℕ → List ℕ
last_bytes w p = drop (length p - w) p

-- a payload is good if it has room for role, number and field, begins with a role and ends with its field
abbrev pub is_good : ℕ → (List ℕ → List ℕ) → List ℕ → Bool
is_good w field p =
    nat_le (5 + w) (length p) && is_role (slice_index p 0) && bytes_eq (last_bytes w p) (field (all_but_last w p))

-- role, number and the data as they stand in a payload; none if it is not good
abbrev pub masked_parts : ℕ → (List ℕ → List ℕ) → List ℕ → Option (ℕ × ℕ × List ℕ)
masked_parts w field p = cond (is_good w field p) (Some (slice_index p 0, number_at p, drop 5 (all_but_last w p))) None

-- what is read of a payload: role, number and the data XOR the stream of that role and number; none if it is not good
abbrev pub payload_parts : ℕ → (List ℕ → List ℕ) → (ℕ → ℕ → ℕ → ℕ) → List ℕ → Option (ℕ × ℕ × List ℕ)
payload_parts w field stream p =
    option_map (λ t. (t.0, t.1, xor_stream (stream t.0 t.1) 0 t.2)) (masked_parts w field p)
