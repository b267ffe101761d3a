use Rattle.std.proofs.Common.{ap}
use Rattle.aes128.specs.Cipher.{shift_rows}
use Rattle.aes128.proofs.rounds.shifted.Goals as goal

pub returns : goal.returns
unfolding shift_rows
returns c = ap shift_rows c.columns.ensures
