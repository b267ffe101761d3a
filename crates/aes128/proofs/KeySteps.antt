-- Laws of the key schedule's step.
use Rattle.std.proofs.Common.{◌≡◌, ℕ, ◌+◌, ◌-◌, ◌*◌, ◌/◌, ◌%◌, ◌<◌, Bool, true, false, cond, eqb, List, [], ◌∷◌, ◌++◌, length, get_or, set, map, refl, sym, ap, ◌∙◌, subst, add-one, arith, eq-eqb, ne_eqb}
use lib.Bits.{bit_xor}
use Rattle.std.specs.List.{range_with_len}
use Rattle.std.proofs.lemmas.List.{get_or-set_other, get_or-set_same}
use Rattle.std.proofs.lemmas.List.FromFn.{get_or-map-range_with_len, length-map-range_with_len, map-range_with_len_more, fill_by_all}
use Rattle.aes128.specs.declared.schedule.TheConstants.{RCON}
use Rattle.aes128.specs.Field.{mul, power_low, sub_byte}
use Rattle.aes128.specs.Words.{byte_of, word_bytes, word_of}
use Rattle.aes128.specs.Cipher.{sub_word, rot_word, rcon, next_word, key_words}
use Rattle.aes128.specs.Fours.{key_after, number_in_fours}
use Rattle.aes128.proofs.RoundKeys.{in_fours_at}
use Rattle.aes128.proofs.TableRules.{entries}
use Rattle.aes128.proofs.Words.{bytes_of_word, byte_at}

pub rcon_at : (i : ℕ) → i < 10 → get_or RCON i 0 ≡ rcon (i + 1)
unfolding rcon mul power_low
rcon_at i h = entries (λ k. rcon (k + 1)) RCON i h refl

sub-rot : (t : ℕ) → sub_word (rot_word t) ≡ word_of (sub_byte (byte_of t 1)) (sub_byte (byte_of t 2)) (sub_byte (byte_of t 3)) (sub_byte (byte_of t 0))
unfolding sub_word rot_word
sub-rot t =
    let w = word_of (byte_of t 1) (byte_of t 2) (byte_of t 3) (byte_of t 0) in
    let e = byte_at w (byte_of t 1) (byte_of t 2) (byte_of t 3) (byte_of t 0) (bytes_of_word (byte_of t 1) (byte_of t 2) (byte_of t 3) (byte_of t 0) (omega arith) (omega arith) (omega arith) (omega arith)) in
    let e0 = e.0 in
    let e1 = e.1 in
    let e2 = e.2 in
    let e3 = e.3 in
    cc

-- the bytes that `to_be_bytes` gives, rotated and put through the S-box
pub rotated : (r : List ℕ) (t x : ℕ) → get_or r 0 0 ∷ get_or r 1 0 ∷ get_or r 2 0 ∷ get_or r 3 0 ∷ [] ≡ word_bytes t
    → x ≡ word_of (sub_byte (get_or r 1 0)) (sub_byte (get_or r 2 0)) (sub_byte (get_or r 3 0)) (sub_byte (get_or r 0 0)) → x ≡ sub_word (rot_word t)
rotated r t x e v =
    let e0 : get_or r 0 0 ≡ byte_of t 0 = cc in
    let e1 : get_or r 1 0 ≡ byte_of t 1 = cc in
    let e2 : get_or r 2 0 ≡ byte_of t 2 = cc in
    let e3 : get_or r 3 0 ≡ byte_of t 3 = cc in
    let s = sub-rot t in
    cc

-- the first n words of round keys
abbrev pub front : List (List ℕ) → ℕ → List ℕ
front keys n = map (number_in_fours keys) (range_with_len 0 n)

-- the word i of the schedule, from those before it, by its place among four
abbrev step : ℕ → ℕ → ℕ → Bool → ℕ
step i far near first = bit_xor far (cond first (bit_xor (sub_word (rot_word near)) (rcon (i / 4))) near)

-- one word more
more : (keys : List (List ℕ)) (key : List ℕ) (n : ℕ) (first : Bool) → eqb ((n + 4) % 4) 0 ≡ first → number_in_fours keys (n + 4) ≡ step (n + 4) (number_in_fours keys n) (number_in_fours keys (n + 3)) first
    → front keys (n + 4) ≡ key_words key n → front keys (n + 1 + 4) ≡ key_words key (n + 1)
unfolding next_word
more keys key n first b w e =
    let place : n + 1 + 4 ≡ n + 4 + 1 = omega arith in
    let far : get_or (front keys (n + 4)) (n + 4 - 4) 0 ≡ number_in_fours keys n = get_or-map-range_with_len (number_in_fours keys) 0 (n + 4) (n + 4 - 4) n 0 (omega arith) (omega arith) in
    let near : get_or (front keys (n + 4)) (n + 4 - 1) 0 ≡ number_in_fours keys (n + 3) = get_or-map-range_with_len (number_in_fours keys) 0 (n + 4) (n + 4 - 1) (n + 3) 0 (omega arith) (omega arith) in
    let next : number_in_fours keys (n + 4) ≡ next_word (n + 4) (front keys (n + 4)) = cc in
    ap (front keys) place
    ∙ (map-range_with_len_more (number_in_fours keys) 0 (n + 4) (n + 4) (omega arith)
    ∙ (ap (λ (x : ℕ). front keys (n + 4) ++ (x ∷ [])) next
    ∙ (ap (λ (ws : List ℕ). ws ++ (next_word (n + 4) ws ∷ [])) e
    ∙ ap (key_words key) (sym (add-one n)))))

-- the words before a round key that is written
before : (keys : List (List ℕ)) (i : ℕ) (k : List ℕ) → front (set keys (i + 1) k) (4 * i + 4) ≡ front keys (4 * i + 4)
before keys i k =
    let ks = set keys (i + 1) k in
    let same : (j : ℕ) → j < 4 * i + 4 → number_in_fours ks j ≡ number_in_fours keys j = λ j h. ap (λ (xs : List ℕ). get_or xs (j % 4) 0) (get_or-set_other keys (i + 1) (j / 4) k [] (λ e. omega arith)) in
    fill_by_all (number_in_fours keys) (front ks (4 * i + 4)) (4 * i + 4) 0 (length-map-range_with_len (number_in_fours ks) 0 (4 * i + 4))
    (λ j h. get_or-map-range_with_len (number_in_fours ks) 0 (4 * i + 4) j j 0 h (omega arith) ∙ same j h)

-- the number m, where it lies in the list xs
placed : (xss : List (List ℕ)) (n j m : ℕ) (xs : List ℕ) → j < 4 → m ≡ 4 * n + j → get_or xss n [] ≡ xs → number_in_fours xss m ≡ get_or xs j 0
placed xss n j m xs h e f = ap (number_in_fours xss) e ∙ (in_fours_at xss n j h ∙ ap (λ (ys : List ℕ). get_or ys j 0) f)

-- one round key more
pub next_key : (keys : List (List ℕ)) (key : List ℕ) (i : ℕ) (k : List ℕ) → i + 1 < length keys → k ≡ key_after (get_or keys i []) (rcon (i + 1))
    → front keys (4 * i + 4) ≡ key_words key (4 * i) → front (set keys (i + 1) k) (4 * (i + 1) + 4) ≡ key_words key (4 * (i + 1))
next_key keys key i k h e f =
    let ks = set keys (i + 1) k in
    let a = get_or keys i [] in
    let old : get_or ks i [] ≡ a = get_or-set_other keys (i + 1) i k [] (λ x. omega arith) in
    let new : get_or ks (i + 1) [] ≡ k = get_or-set_same keys (i + 1) k [] h in
    let at0 = placed ks i 0 (4 * i) a (omega arith) (omega arith) old in
    let at1 = placed ks i 1 (4 * i + 1) a (omega arith) (omega arith) old in
    let at2 = placed ks i 2 (4 * i + 1 + 1) a (omega arith) (omega arith) old in
    let at3 = placed ks i 3 (4 * i + 1 + 1 + 1) a (omega arith) (omega arith) old in
    let near0 = placed ks i 3 (4 * i + 3) a (omega arith) (omega arith) old in
    let near1 = placed ks (i + 1) 0 (4 * i + 1 + 3) k (omega arith) (omega arith) new in
    let near2 = placed ks (i + 1) 1 (4 * i + 1 + 1 + 3) k (omega arith) (omega arith) new in
    let near3 = placed ks (i + 1) 2 (4 * i + 1 + 1 + 1 + 3) k (omega arith) (omega arith) new in
    let k0 = placed ks (i + 1) 0 (4 * i + 4) k (omega arith) (omega arith) new in
    let k1 = placed ks (i + 1) 1 (4 * i + 1 + 4) k (omega arith) (omega arith) new in
    let k2 = placed ks (i + 1) 2 (4 * i + 1 + 1 + 4) k (omega arith) (omega arith) new in
    let k3 = placed ks (i + 1) 3 (4 * i + 1 + 1 + 1 + 4) k (omega arith) (omega arith) new in
    let w0 : get_or k 0 0 ≡ bit_xor (get_or a 0 0) (bit_xor (sub_word (rot_word (get_or a 3 0))) (rcon (i + 1))) = ap (λ (l : List ℕ). get_or l 0 0) e in
    let w1 : get_or k 1 0 ≡ bit_xor (get_or a 1 0) (get_or k 0 0) = ap (λ (l : List ℕ). get_or l 1 0) e ∙ ap (bit_xor (get_or a 1 0)) (sym w0) in
    let w2 : get_or k 2 0 ≡ bit_xor (get_or a 2 0) (get_or k 1 0) = ap (λ (l : List ℕ). get_or l 2 0) e ∙ ap (bit_xor (get_or a 2 0)) (sym (ap (λ (l : List ℕ). get_or l 1 0) e)) in
    let w3 : get_or k 3 0 ≡ bit_xor (get_or a 3 0) (get_or k 2 0) = ap (λ (l : List ℕ). get_or l 3 0) e ∙ ap (bit_xor (get_or a 3 0)) (sym (ap (λ (l : List ℕ). get_or l 2 0) e)) in
    let round : (4 * i + 4) / 4 ≡ i + 1 = omega arith in
    let s0 : number_in_fours ks (4 * i + 4) ≡ step (4 * i + 4) (number_in_fours ks (4 * i)) (number_in_fours ks (4 * i + 3)) true = cc in
    let s1 : number_in_fours ks (4 * i + 1 + 4) ≡ step (4 * i + 1 + 4) (number_in_fours ks (4 * i + 1)) (number_in_fours ks (4 * i + 1 + 3)) false = cc in
    let s2 : number_in_fours ks (4 * i + 1 + 1 + 4) ≡ step (4 * i + 1 + 1 + 4) (number_in_fours ks (4 * i + 1 + 1)) (number_in_fours ks (4 * i + 1 + 1 + 3)) false = cc in
    let s3 : number_in_fours ks (4 * i + 1 + 1 + 1 + 4) ≡ step (4 * i + 1 + 1 + 1 + 4) (number_in_fours ks (4 * i + 1 + 1 + 1)) (number_in_fours ks (4 * i + 1 + 1 + 1 + 3)) false = cc in
    let f0 = before keys i k ∙ f in
    let f1 = more ks key (4 * i) true (eq-eqb ((4 * i + 4) % 4) 0 (omega arith)) s0 f0 in
    let f2 = more ks key (4 * i + 1) false (ne_eqb ((4 * i + 1 + 4) % 4) 0 (λ x. omega arith)) s1 f1 in
    let f3 = more ks key (4 * i + 1 + 1) false (ne_eqb ((4 * i + 1 + 1 + 4) % 4) 0 (λ x. omega arith)) s2 f2 in
    let f4 = more ks key (4 * i + 1 + 1 + 1) false (ne_eqb ((4 * i + 1 + 1 + 1 + 4) % 4) 0 (λ x. omega arith)) s3 f3 in
    let place : 4 * i + 1 + 1 + 1 + 1 ≡ 4 * (i + 1) = omega arith in
    subst (λ (n : ℕ). front ks (n + 4) ≡ key_words key n) place f4
