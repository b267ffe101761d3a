use Rattle.std.proofs.Common.{◌≡◌}
use Rattle.aes128.specs.Keys.{words_of}
use Rattle.aes128.specs.Cipher.{cipher_with}
use Rattle.measured.specs.Repeats.{repetition}
use Rattle.measured.proofs.blocks.measured_encrypt.Given as goal

abbrev pub invariant-loop : goal.invariant-loop
invariant-loop l = l.last ≡ repetition (cipher_with (words_of l.cipher)) l.counter l.initial.last
