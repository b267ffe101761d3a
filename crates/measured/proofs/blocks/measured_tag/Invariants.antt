use Rattle.std.proofs.Common.{◌≡◌}
use Rattle.aes128.specs.Keys.{words_of}
use Rattle.buffers.specs.Buffers.{with_front}
use Rattle.cmac.specs.Cmac.{cmac_with}
use Rattle.measured.specs.Repeats.{repetition}
use Rattle.measured.proofs.blocks.measured_tag.Given as goal

abbrev pub invariant-loop : goal.invariant-loop
invariant-loop l = l.text ≡ repetition (λ t. with_front (cmac_with (words_of l.cipher) t) t) l.counter l.initial.text
