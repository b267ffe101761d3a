use Rattle.std.proofs.Common.{◌+◌, ◌*◌, ◌/◌, ◌%◌, cond, ltb, get_or, rules}
use Rattle.cmac.specs.Cmac.{shift_left}
use Rattle.cmac.proofs.BlockLaws.{block_of}
use Rattle.cmac.proofs.blocks.shift_left.Goals as goal

pub returns : goal.returns
unfolding shift_left
returns c =
    let s = c.args.s in
    block_of (λ k. get_or s k 0 * 2 % 256 + cond (ltb k 15) (get_or s (k + 1) 0) 0 / 128) c.from_fn.result c.from_fn.ensures.items.long (λ k h. search rules)
