use Rattle.std.proofs.Common.{arith}
use Rattle.aes128.proofs.RoundTables.{mixed_at}
use Rattle.aes128.proofs.tables.mixed.Goals as goal

pub returns : goal.returns
returns g c = mixed_at g.row.ROW c.args.x c.requires (omega arith)
