use Rattle.std.proofs.Common.{◌≡◌, ℕ, List, [], get_or, rules}
use Rattle.aes128.specs.Cipher.{sub_bytes, mix_column, mix_columns}
use Rattle.aes128.specs.Field.{sub_byte}
use Rattle.aes128.specs.Words.{word_bytes}
use Rattle.aes128.proofs.Words.{joined}
use Rattle.aes128.proofs.rounds.mixed_columns.Goals as goal

abbrev mixed : List ℕ → List ℕ
mixed x = mix_column (sub_byte (get_or x 0 0)) (sub_byte (get_or x 1 0)) (sub_byte (get_or x 2 0)) (sub_byte (get_or x 3 0))

pub returns : goal.returns
unfolding sub_bytes mix_columns
returns c =
    let xs = c.args.columns in
    let ys = c.map.result in
    let e0 : word_bytes (get_or ys 0 0) ≡ mixed (get_or xs 0 []) = search rules in
    let e1 : word_bytes (get_or ys 1 0) ≡ mixed (get_or xs 1 []) = search rules in
    let e2 : word_bytes (get_or ys 2 0) ≡ mixed (get_or xs 2 []) = search rules in
    let e3 : word_bytes (get_or ys 3 0) ≡ mixed (get_or xs 3 []) = search rules in
    joined _ _ _ _ _ _ _ _ e0 e1 e2 e3
