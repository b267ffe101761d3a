use Rattle.cmac.proofs.BlockLaws.{doubled_low, doubled_high}
use Rattle.cmac.proofs.blocks.doubled.Goals as goal

pub returns-then-s-lt128 : goal.returns-then-s-lt128
returns-then-s-lt128 c = doubled_low c.args.s c.shift_left-t.result c.if-s-lt128.true c.shift_left-t.ensures

pub returns-else-s-lt128 : goal.returns-else-s-lt128
returns-else-s-lt128 c = doubled_high c.args.s c.shift_left-t.result c.xor_block.result c.if-s-lt128.false c.shift_left-t.ensures c.xor_block.ensures
