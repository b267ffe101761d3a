use Rattle.std.proofs.Common.{rules, ◌≡◌, ℕ, ◌/◌, ◌%◌, ◌+◌, ◌<◌, List, length, get_or, ap, ◌∙◌, sym, arith}
use Rattle.aes128.specs.Keys.{words_of}
use Rattle.aes128.specs.Cipher.{cipher_with}
use Rattle.suite.specs.Numbers.{role_byte}
use Rattle.suite_of.proofs.StreamTurns.{turn, end}
use Rattle.keyed_suite.specs.Keyed.{counter_block, keystream_byte}
use Rattle.keyed_suite.proofs.stream.add_stream.Goals as goal
use Rattle.keyed_suite.proofs.stream.add_stream.Goals.{then-i-eq0, else-i-eq0}

pub loop-i-preserved : goal.loop-i-preserved
loop-i-preserved c =
    let i = c.loop-i.i in
    let block_of : ℕ → List ℕ = λ j. cipher_with (words_of c.args.cipher.now) (counter_block (role_byte c.args.role) c.args.number j) in
    let block : c.if-i-eq0.block ≡ block_of (i / 16) = elim c.if-i-eq0.branch [ then-i-eq0 w ↦ search rules | else-i-eq0 w ↦ search rules ] in
    let h : i < length c.args.bytes.now = omega arith in (
      turn (keystream_byte (words_of c.args.cipher.now) (role_byte c.args.role) c.args.number) c.args.bytes.now i c.loop-i.bytes _ h (ap (λ z. get_or z (i % 16) 0) block) c.loop-i.invariant.0,
      λ past. let same : (i + 1) / 16 ≡ i / 16 = omega arith in block ∙ ap block_of (sym same),
    )

pub returns : goal.returns
returns c = end (keystream_byte (words_of c.args.cipher.now) (role_byte c.args.role) c.args.number) c.args.bytes.now c.loop-i.i c.loop-i.bytes (omega arith) c.loop-i.invariant.0
