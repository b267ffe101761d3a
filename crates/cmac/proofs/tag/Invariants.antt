use Rattle.aes128.specs.Keys.{words_of}
use Rattle.std.proofs.Common.{◌≡◌, ◌-◌, ◌/◌, ◌%◌, ◌≤◌, length, drop}
use Rattle.cmac.specs.Cmac.{chain_value}
use Rattle.cmac.proofs.tag.Given as goal

abbrev pub invariant-loop-block : goal.invariant-loop-block
invariant-loop-block l =
    let done = length l.text - length l.rest in
    record {
      shorter : length l.rest ≤ length l.text;
      whole : done % 16 ≡ 0;
      rest : l.rest ≡ drop done l.text;
      last : done ≤ length l.text - 1;
      chained : l.x ≡ chain_value (words_of l.cipher) l.text (done / 16);
    }

abbrev pub decreases-loop-block : goal.decreases-loop-block
decreases-loop-block l = length l.rest
