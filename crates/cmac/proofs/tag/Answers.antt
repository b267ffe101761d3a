use Rattle.std.proofs.Common.{◌≡◌, ℕ, List, ◌+◌, ◌-◌, ◌*◌, ◌/◌, ◌<◌, ◌≤◌, length, drop, ap, ◌∙◌, arith, rules}
use Rattle.std.proofs.lemmas.List.{drop-drop}
use Rattle.aes128.specs.Keys.{words_of}
use Rattle.aes128.specs.Cipher.{cipher_with}
use Rattle.cmac.specs.Cmac.{cmac_with, chain_value, blocks_before_last, last_block, xor_block}
use Rattle.cmac.proofs.BlockLaws.{more, last_block-drop}
use Rattle.cmac.proofs.tag.Goals as goal

pub loop-block-preserved : goal.loop-block-preserved
loop-block-preserved c =
    let ws = words_of c.args.cipher.now in
    let m = c.args.text.now in
    let rest = c.loop-block.rest.now in
    let after = c.in-Some.after.now in
    let h = c.in-Some.ensures.cases in
    let i = c.loop-block.invariant in
    let len : length after + 16 ≡ length rest = h.2 in
    let some : 0 < length after = search rules in
    let done : length m - length rest + 16 ≡ length m - length after = omega arith in
    record {
      shorter = omega arith;
      whole = omega arith;
      rest = h.1 ∙ (ap (drop 16) i.rest ∙ (drop-drop 16 (length m - length rest) m ∙ ap (λ (n : ℕ). drop n m) done));
      last = omega arith;
      chained = more ws m rest c.in-Some.block.now c.loop-block.x c.encrypt-x.result (length m - length rest) (length m - length after) i.whole (omega arith) (omega arith) i.rest h.0 i.chained
          (c.encrypt-x.ensures ∙ ap (cipher_with ws) c.xor_block.ensures);
    }

pub returns : goal.returns
unfolding cmac_with
returns c =
    let ws = words_of c.args.cipher.now in
    let m = c.args.text.now in
    let rest = c.loop-block.rest.now in
    let x = c.loop-block.x in
    let i = c.loop-block.invariant in
    let small : length rest ≤ 16 = search rules in
    let place : length m - length rest ≡ 16 * blocks_before_last m = omega arith in
    let count : (length m - length rest) / 16 ≡ blocks_before_last m = omega arith in
    let at : rest ≡ drop (16 * blocks_before_last m) m = i.rest ∙ ap (λ (n : ℕ). drop n m) place in
    let last : c.last_block.result ≡ last_block ws m = c.last_block.ensures ∙ (ap (last_block ws) at ∙ last_block-drop ws m) in
    let chained : x ≡ chain_value ws m (blocks_before_last m) = i.chained ∙ ap (chain_value ws m) count in
    c.encrypt.ensures ∙ ap (cipher_with ws) (c.xor_block-2.ensures ∙ (ap (λ (b : List ℕ). xor_block b x) last ∙ ap (xor_block (last_block ws m)) chained))
