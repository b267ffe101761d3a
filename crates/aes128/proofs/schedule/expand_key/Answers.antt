use Rattle.std.proofs.Common.{◌≡◌, ℕ, ◌+◌, ◌*◌, List, [], ◌∷◌, get_or, refl, ap, ◌∙◌, subst, arith, length-set}
use Rattle.aes128.specs.Cipher.{key_words, schedule}
use Rattle.aes128.specs.Fours.{key_after, words_of_round_keys}
use Rattle.aes128.proofs.KeySteps.{front, next_key, rcon_at}
use Rattle.aes128.proofs.schedule.expand_key.Goals as goal

pub loop-i-init : goal.loop-i-init
loop-i-init c = record { long = refl; words = ap (λ (l : List ℕ). get_or l 0 0 ∷ get_or l 1 0 ∷ get_or l 2 0 ∷ get_or l 3 0 ∷ []) c.words-keys.ensures.value }

pub loop-i-preserved : goal.loop-i-preserved
loop-i-preserved c =
    let keys = c.loop-i.keys in
    let i = c.loop-i.i in
    record {
      long = simp length-set c.loop-i.invariant.long;
      words = next_key keys c.args.key.now i c.next_key.result (omega arith) (c.next_key.ensures ∙ ap (key_after (get_or keys i [])) (rcon_at i (omega arith))) c.loop-i.invariant.words;
    }

pub returns : goal.returns
unfolding words_of_round_keys schedule
returns c =
    let i : c.loop-i.i ≡ 10 = omega arith in
    subst (λ (n : ℕ). front c.loop-i.keys (4 * n + 4) ≡ key_words c.args.key.now (4 * n)) i c.loop-i.invariant.words
