use Rattle.std.proofs.Common.{◌≡◌, ◌/◌, ◌%◌, ◌<◌}
use Rattle.aes128.specs.Keys.{words_of}
use Rattle.aes128.specs.Cipher.{cipher_with}
use Rattle.suite.specs.Numbers.{role_byte}
use Rattle.suite_of.proofs.StreamTurns.{Done}
use Rattle.keyed_suite.specs.Keyed.{counter_block, keystream_byte}
use Rattle.keyed_suite.proofs.stream.add_stream.Given as goal

-- the bytes before i are done, the others as they were; past its first byte a block is at hand
abbrev pub invariant-loop-i : goal.invariant-loop-i
invariant-loop-i l =
    Done (keystream_byte (words_of l.cipher) (role_byte l.role) l.number) l.initial.bytes l.i l.bytes
    × (0 < l.i % 16 → l.block ≡ cipher_with (words_of l.cipher) (counter_block (role_byte l.role) l.number (l.i / 16)))
