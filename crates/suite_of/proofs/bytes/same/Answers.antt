use Rattle.std.proofs.Common.{◌≡◌, ◌<◌, length, take, sym, ◌∙◌, arith}
use Rattle.std.proofs.lemmas.List.{take_all}
use Rattle.std.proofs.lemmas.Bool.Decides.{Decides-eqb, same_from_decides}
use Rattle.std.proofs.lemmas.Slice.Eq.{bytes_eq-Decides}
use Rattle.suite_of.proofs.Differences.{equal_more, no_more}
use Rattle.suite_of.proofs.bytes.same.Goals as goal

pub loop-i-preserved : goal.loop-i-preserved
loop-i-preserved c =
    let a = c.args.a.now in
    let b = c.args.b.now in
    let i = c.loop-i.i in
    let ha : i < length a = omega arith in
    let hb : i < length b = omega arith in
    (equal_more a b i c.loop-i.difference ha hb c.loop-i.invariant.0, no_more a b i c.loop-i.difference ha hb c.loop-i.invariant.1)

pub returns : goal.returns
returns c =
    let a = c.args.a.now in
    let b = c.args.b.now in
    let i = c.loop-i.i in
    let wa : take i a ≡ a = take_all i a (omega arith) in
    let wb : take i b ≡ b = take_all i b (omega arith) in
    let t = Decides-eqb c.loop-i.difference 0 in
    same_from_decides _ _
    (λ e. sym wa ∙ c.loop-i.invariant.0 (t.0 e) ∙ wb, λ e. t.1 (c.loop-i.invariant.1 (wa ∙ e ∙ sym wb)))
    (bytes_eq-Decides a b)
