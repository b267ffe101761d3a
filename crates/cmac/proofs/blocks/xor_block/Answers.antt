use Rattle.std.proofs.Common.{get_or, rules}
use lib.Bits.{bit_xor}
use Rattle.cmac.specs.Cmac.{xor_block}
use Rattle.cmac.proofs.BlockLaws.{block_of}
use Rattle.cmac.proofs.blocks.xor_block.Goals as goal

pub returns : goal.returns
unfolding xor_block
returns c = block_of (λ k. bit_xor (get_or c.args.a k 0) (get_or c.args.b k 0)) c.from_fn.result c.from_fn.ensures.items.long (λ k h. search rules)
