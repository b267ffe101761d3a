use Rattle.std.proofs.Common.{rules, ◌≡◌, ◌+◌, ◌-◌, ◌++◌, length, take, drop, ◌∙◌, sym, refl, ap, arith, length-append}
use borrow.Rule.Slice.PartMut.{put_mid}
use Rattle.buffers.specs.Buffers.{with_front}
use Rattle.buffers.proofs.FrontLaws.{take-over}
use Rattle.suite.specs.Numbers.{role_byte}
use Rattle.suite_of.specs.Payloads.{payload_body}
use Rattle.suite_of.specs.PayloadProofs.{body-length}
use Rattle.buffers.proofs.FrontLaws.{over_rest}
use Rattle.suite_of.proofs.payload.write_payload.Goals as goal

pub returns : goal.returns
returns g c =
    let f = g.K.Kind.functions in
    let v = c.args.value.now in
    let out = c.args.out.now in
    let stream = f.stream_of v (role_byte c.args.role) c.args.number in
    let body = payload_body stream (role_byte c.args.role) c.args.number c.args.plain.now in
    let long = body-length stream (role_byte c.args.role) c.args.number c.args.plain.now in
    let end : c.write_body-end.result ≡ length body = c.write_body-end.ensures.answer ∙ sym long in
    let first : c.write_body-end.new.out ≡ with_front body out = c.write_body-end.ensures.buffer in
    let front : take c.write_body-end.result c.write_body-end.new.out ≡ body = ap (take c.write_body-end.result) first ∙ take-over body out _ end in
    let field : take c.field_length.result c.field-field.result ≡ f.field_of v body = search rules in
    let e = c.write_body-end.result in
    let tag = f.field_of v body in
    let w : c.unwrap.result ≡ length tag = search rules in
    let n : length (body ++ tag) ≡ length body + length tag = length-append body tag in
    let last : c.write_front.new.out ≡ with_front tag (take (length (with_front body out) - e) (drop e (with_front body out))) = search rules in
    record {
      answer = omega arith;
      buffer = ap (λ z. put_mid e (length z - e) z c.write_front.new.out) first ∙ over_rest body tag out c.write_front.new.out e (length (with_front body out) - e) end (omega (arith, c.requires)) refl last;
    }
