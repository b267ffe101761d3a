use lib.Bits.{bit_xor}
use Rattle.aes128.proofs.Words.{xor_words}
use Rattle.aes128.proofs.rounds.mixed_column.Goals as goal

pub returns : goal.returns
returns c =
    let w0 = c.mixed.result in
    let w1 = c.mixed-2.result in
    let w2 = c.mixed-3.result in
    let w3 = c.mixed-4.result in
    let x1 = xor_words w0 w1 _ _ c.mixed.ensures c.mixed-2.ensures in
    let x2 = xor_words (bit_xor w0 w1) w2 _ _ x1 c.mixed-3.ensures in
    xor_words (bit_xor (bit_xor w0 w1) w2) w3 _ _ x2 c.mixed-4.ensures
