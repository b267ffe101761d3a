use Rattle.std.proofs.Common.{rules, ◌≡◌, ◌+◌, ◌-◌, ◌∷◌, length, ◌∙◌, ap, arith}
use borrow.Rule.Slice.PartMut.{put_mid}
use Rattle.buffers.specs.Buffers.{with_front}
use Rattle.buffers.proofs.FrontLaws.{over_then}
use Rattle.suite.specs.Numbers.{role_byte}
use Rattle.suite_of.specs.Payloads.{four_bytes}
use Rattle.suite_of.specs.Streams.{xor_stream}
use Rattle.suite_of.specs.StreamProofs.{xor_stream-length}
use Rattle.suite_of.proofs.payload.write_body.Goals as goal

-- the head and the data, one after the other
pub returns-clause-buffer : goal.returns-clause-buffer
returns-clause-buffer g c =
    let role = role_byte c.args.role in
    let head = role ∷ four_bytes c.args.number in
    let plain = c.args.plain.now in
    let inner = xor_stream (g.K.Kind.functions.stream_of c.args.value.now role c.args.number) 0 plain in
    let n = c.unwrap-head.result in
    let k = (n + length plain) - n in
    let five : n ≡ 5 = search rules in
    let first : c.write_front.new.out ≡ with_front head c.args.out.now = search rules in
    let middle : c.stream.new.bytes ≡ inner = search rules in
    let long = xor_stream-length (g.K.Kind.functions.stream_of c.args.value.now role c.args.number) 0 plain in
    ap (λ z. put_mid n k z c.stream.new.bytes) first ∙ ap (put_mid n k (with_front head c.args.out.now)) middle ∙ over_then head inner c.args.out.now n k five (omega arith)
