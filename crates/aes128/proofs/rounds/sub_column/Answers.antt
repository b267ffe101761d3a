use Rattle.std.proofs.Common.{◌≡◌, get_or, arith}
use Rattle.aes128.specs.Field.{sub_byte}
use Rattle.aes128.specs.Words.{word_of}
use Rattle.aes128.proofs.Words.{bytes_of}
use Rattle.aes128.proofs.rounds.sub_column.Goals as goal

pub returns : goal.returns
returns c =
    let a = sub_byte (get_or c.args.column 0 0) in
    let b = sub_byte (get_or c.args.column 1 0) in
    let d = sub_byte (get_or c.args.column 2 0) in
    let e = sub_byte (get_or c.args.column 3 0) in
    let v : c.from_be_bytes.result ≡ word_of a b d e = omega arith in
    record { value = v; bytes = bytes_of c.from_be_bytes.result a b d e v (omega arith) (omega arith) (omega arith) (omega arith) }
