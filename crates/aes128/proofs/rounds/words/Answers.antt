use Rattle.std.proofs.Common.{ℕ, get_or}
use Rattle.aes128.proofs.Words.{joined, bytes_of}
use Rattle.aes128.proofs.rounds.words.Goals as goal

pub returns-clause-bytes : goal.returns-clause-bytes
returns-clause-bytes c =
    let b : ℕ → ℕ = λ i. get_or c.args.block.now i 0 in
    let f = c.fits-block in
    joined _ _ _ _ _ _ _ _
    (bytes_of c.from_be_bytes.result (b 0) (b 1) (b 2) (b 3) c.from_be_bytes.ensures (f 0) (f 1) (f 2) (f 3))
    (bytes_of c.from_be_bytes-2.result (b 4) (b 5) (b 6) (b 7) c.from_be_bytes-2.ensures (f 4) (f 5) (f 6) (f 7))
    (bytes_of c.from_be_bytes-3.result (b 8) (b 9) (b 10) (b 11) c.from_be_bytes-3.ensures (f 8) (f 9) (f 10) (f 11))
    (bytes_of c.from_be_bytes-4.result (b 12) (b 13) (b 14) (b 15) c.from_be_bytes-4.ensures (f 12) (f 13) (f 14) (f 15))
