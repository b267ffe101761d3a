use Rattle.std.proofs.Common.{◌≡◌, ℕ, ◌+◌, ◌<◌, List, [], get_or, refl, ap, ◌∙◌, subst, add-one, arith}
use Rattle.std.proofs.lemmas.List.{get_or-take}
use Rattle.aes128.specs.Cipher.{rounds, cipher_with, sub_bytes, shift_rows, mix_columns, add_round_key, state_of}
use Rattle.aes128.specs.Fours.{words_of_round_keys}
use Rattle.aes128.proofs.RoundKeys.{add_key, sub-shift}
use Rattle.aes128.proofs.rounds.encrypt_with.Goals as goal

-- the state under its key n, put through ShiftRows and SubBytes, where it was s before and is t under that key
subbed : (keys : List (List ℕ)) (n : ℕ) (key s t added columns : List ℕ) → n < 11 → added ≡ add_round_key key 0 s → key ≡ get_or keys n []
    → columns ≡ shift_rows added → add_round_key (words_of_round_keys keys) n s ≡ t → sub_bytes columns ≡ shift_rows (sub_bytes t)
subbed keys n key s t added columns h e k f g =
    let add = add_key keys n s h in
    let order = sub-shift t in
    cc

-- one round more
more : (keys : List (List ℕ)) (n : ℕ) (key s t added columns x : List ℕ) → x ≡ mix_columns (sub_bytes columns) → columns ≡ shift_rows added → added ≡ add_round_key key 0 s
    → key ≡ get_or keys n [] → n < 11 → add_round_key (words_of_round_keys keys) n s ≡ rounds (words_of_round_keys keys) n t → add_round_key (words_of_round_keys keys) (n + 1) x ≡ rounds (words_of_round_keys keys) (n + 1) t
more keys n key s t added columns x i f e k h g =
    let before = rounds (words_of_round_keys keys) n t in
    let sub = subbed keys n key s before added columns h e k f g in
    let step : add_round_key (words_of_round_keys keys) (n + 1) x ≡ add_round_key (words_of_round_keys keys) (n + 1) (mix_columns (shift_rows (sub_bytes before))) = cc in
    rw add-one (rw add-one at step)

pub loop-key-init : goal.loop-key-init
unfolding add_round_key
loop-key-init c = ap (add_round_key (words_of_round_keys c.args.keys.now) 0) c.words-s.ensures.bytes

pub loop-key-preserved : goal.loop-key-preserved
loop-key-preserved c = more c.args.keys.now c.loop-key.key-index _ _ _ _ _ _ c.mixed_columns-s.ensures c.shifted.ensures c.add_round_key.ensures (search (arith, get_or-take)) (omega arith) c.loop-key.invariant

pub returns : goal.returns
unfolding cipher_with
returns c =
    let keys = c.args.keys.now in
    let ws = words_of_round_keys keys in
    let first = add_round_key ws 0 c.args.input.now in
    let before = rounds ws 9 first in
    let i : c.loop-key.key-index ≡ 9 = omega arith in
    let nine : add_round_key ws 9 (state_of c.loop-key.s) ≡ before = subst (λ (n : ℕ). add_round_key ws n (state_of c.loop-key.s) ≡ rounds ws n first) i c.loop-key.invariant in
    let sub = subbed keys 9 (get_or keys 9 []) (state_of c.loop-key.s) before _ _ (omega arith) c.add_round_key-2.ensures refl c.shifted-2.ensures nine in
    c.state_bytes.ensures
    ∙ (c.add_round_key-3.ensures
    ∙ (ap (add_round_key (get_or keys 10 []) 0) (c.sub_columns-s.ensures ∙ sub)
    ∙ add_key keys 10 (shift_rows (sub_bytes before)) (omega arith)))
