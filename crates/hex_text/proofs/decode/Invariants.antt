use Rattle.std.proofs.Common.{◌≡◌, ◌≤◌, length, vec_items}
use Rattle.hex_text.specs.Hex.{bytes_of}
use Rattle.hex_text.proofs.DecodeSteps.{state}
use Rattle.hex_text.proofs.decode.Given as goal

-- what was read and what is left are, together, what the whole text reads as
abbrev pub invariant-loop-rest : goal.invariant-loop-rest
invariant-loop-rest l = record {
  within : length l.rest ≤ length l.text;
  reads : state (vec_items l.bytes) (length l.text) l.rest ≡ bytes_of l.text;
}

abbrev pub decreases-loop-rest : goal.decreases-loop-rest
decreases-loop-rest l = length l.rest
