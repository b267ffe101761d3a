-- The words of an expanded key.
use Rattle.std.specs.Prelude.{ℕ, List}
use Rattle.aes128.specs.declared.Aes128.{Aes128}
use Rattle.aes128.specs.Fours.{words_of_round_keys}

-- the 44 words of a key schedule, as the code holds it
abbrev pub words_of : Aes128 → List ℕ
words_of a = words_of_round_keys a.keys
