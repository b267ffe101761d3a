use Rattle.std.proofs.Common.{get_or}
use Rattle.aes128.proofs.Words.{joined, to_bytes}
use Rattle.aes128.proofs.rounds.columns.Goals as goal

pub returns : goal.returns
returns c =
    let s = c.args.s in
    joined _ _ _ _ _ _ _ _
    (to_bytes c.to_be_bytes.result (get_or s 0 0) c.to_be_bytes.ensures)
    (to_bytes c.to_be_bytes-2.result (get_or s 1 0) c.to_be_bytes-2.ensures)
    (to_bytes c.to_be_bytes-3.result (get_or s 2 0) c.to_be_bytes-3.ensures)
    (to_bytes c.to_be_bytes-4.result (get_or s 3 0) c.to_be_bytes-4.ensures)
