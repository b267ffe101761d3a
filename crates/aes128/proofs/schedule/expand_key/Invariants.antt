use Rattle.std.proofs.Common.{◌≡◌, ◌+◌, ◌*◌, length}
use Rattle.aes128.specs.Cipher.{key_words}
use Rattle.aes128.proofs.KeySteps.{front}
use Rattle.aes128.proofs.schedule.expand_key.Given as goal

abbrev pub invariant-loop-i : goal.invariant-loop-i
invariant-loop-i l = record { long : length l.keys ≡ 11; words : front l.keys (4 * l.i + 4) ≡ key_words l.key (4 * l.i) }
