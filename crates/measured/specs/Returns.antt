-- How many of the records that are sealed and opened for a measurement come back.
use Rattle.std.specs.Prelude.{ℕ, Bool, false, cond, ◌&&◌, List, [], length, min, Ok, Err, Some, None, Option, Result, ◌==◌, nat_le}
use Rattle.std.specs.Str.{bytes_eq}
use Rattle.suite.specs.declared.limits.TheConstants.{MAX_DATA, MAX_NUMBER}
use Rattle.suite.specs.Meanings.{Meaning}
use Rattle.suite.specs.Numbers.{role_byte}
use Rattle.suite.specs.declared.types.Denial.{Denial}
use Rattle.suite.specs.declared.types.Role.TheVariants.{Sender}

-- what a suite with that root means before it has made a key
abbrev pub unused_meaning : List ℕ → Meaning
unused_meaning root = record { root = root; last = 4294967295; newest = 0; live = [] }

-- whether opening gave the Sender's record of that number and those data
abbrev pub is_given_back : ℕ → List ℕ → Result (Option (ℕ × ℕ × List ℕ)) Denial → Bool
is_given_back n plain (Ok (Some t)) = (t.0 == role_byte Sender) && (t.1 == n) && bytes_eq t.2 plain
is_given_back n plain (Ok None) = false
is_given_back n plain (Err e) = false

-- whether a record of these data and that number is within the limits of a suite
abbrev pub is_in_limits : List ℕ → ℕ → Bool
is_in_limits plain n = nat_le (length plain) MAX_DATA && nat_le n MAX_NUMBER

-- how many of the records of these data with the numbers from 1 to n come back: all that have a number within the limits of a suite
abbrev pub return_count : List ℕ → ℕ → ℕ
return_count plain n = cond (nat_le (length plain) MAX_DATA) (min n MAX_NUMBER) 0

-- the same under a root: none, if it has not sixteen bytes
abbrev pub return_count_under : List ℕ → List ℕ → ℕ → ℕ
return_count_under root plain n = cond (length root == 16) (return_count plain n) 0
