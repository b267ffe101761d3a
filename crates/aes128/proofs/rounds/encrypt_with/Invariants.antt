use Rattle.std.proofs.Common.{◌≡◌}
use Rattle.aes128.specs.Cipher.{rounds, add_round_key, state_of}
use Rattle.aes128.specs.Fours.{words_of_round_keys}
use Rattle.aes128.proofs.rounds.encrypt_with.Given as goal

abbrev pub invariant-loop-key : goal.invariant-loop-key
invariant-loop-key l =
    let ws = words_of_round_keys l.keys in
    add_round_key ws l.key-index (state_of l.s) ≡ rounds ws l.key-index (add_round_key ws 0 l.input)
