use Rattle.std.proofs.Common.{get_or}
use Rattle.aes128.specs.Cipher.{add_round_key}
use Rattle.aes128.proofs.Words.{joined, xor_word}
use Rattle.aes128.proofs.rounds.add_round_key.Goals as goal

pub returns : goal.returns
unfolding add_round_key
returns c =
    let s = c.args.s in
    let k = c.args.key.now in
    joined _ _ _ _ _ _ _ _
    (xor_word (get_or s 0 0) (get_or k 0 0))
    (xor_word (get_or s 1 0) (get_or k 1 0))
    (xor_word (get_or s 2 0) (get_or k 2 0))
    (xor_word (get_or s 3 0) (get_or k 3 0))
