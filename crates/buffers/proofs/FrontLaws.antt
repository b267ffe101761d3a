-- Bytes written over the front of a buffer: what a loop or a second write adds, and what then stands in front.
use Rattle.std.proofs.Common.{◌≡◌, ℕ, ◌+◌, ◌-◌, ◌<◌, ◌≤◌, List, [], ◌∷◌, ◌++◌, length, get_or, take, drop, set, sym, ap, ◌∙◌, append_assoc, append-nil, arith, length-append, length-drop, length-take}
use native.Mathlib.Nat.{sub_self}
use borrow.Rule.Slice.PartMut.{put_mid}
use Rattle.std.proofs.lemmas.List.{take_more, drop_more, drop_all, take_all, take_at, drop_at, drop-drop, set-append_right}
use Rattle.buffers.specs.Buffers.{with_front}

-- a loop: one more byte of new
pub over_more : (new old : List ℕ) (i v : ℕ) → i < length new → i < length old → v ≡ get_or new i 0 → set (take i new ++ drop i old) i v ≡ take (i + 1) new ++ drop (i + 1) old
over_more new old i v h k e =
    let t : length (take i new) ≡ i = simp length-take (omega arith) in
    let a = set-append_right (take i new) (drop i old) i i v t (omega arith) in
    let d = drop_more old i 0 k in
    let s : set (drop i old) (i - i) v ≡ v ∷ drop (i + 1) old = rw (sub_self i, d) in
    let m = take_more new i 0 h in
    let p = append_assoc (take i new) (get_or new i 0 ∷ []) (drop (i + 1) old) in
    a ∙ ap (λ z. take i new ++ z) s ∙ ap (λ z. take i new ++ (z ∷ drop (i + 1) old)) e ∙ sym (ap (λ z. z ++ drop (i + 1) old) m ∙ p)

-- a buffer keeps its length
pub length_over : (new old : List ℕ) → length new ≤ length old → length (with_front new old) ≡ length old
length_over new old h = simp (length-append, length-drop) (omega arith)

-- a second write, right after the first
pub over_then : (new more old : List ℕ) (a k : ℕ) → a ≡ length new → k ≡ length more → put_mid a k (with_front new old) more ≡ with_front (new ++ more) old
over_then new more old a k e f =
    let t = take_at new (drop (length new) old) a (sym e) in
    let d = drop_at new (drop (length new) old) a (sym e) in
    let n : length new + k ≡ length (new ++ more) = simp length-append (omega arith) in
    let r : drop k (drop a (with_front new old)) ≡ drop (length (new ++ more)) old = ap (drop k) d ∙ drop-drop k (length new) old ∙ ap (λ i. drop i old) n in
    ap (λ z. z ++ (more ++ drop k (drop a (with_front new old)))) t ∙ ap (λ z. new ++ (more ++ z)) r ∙ sym (append_assoc new more (drop (length (new ++ more)) old))

-- what was written stands in front
pub take-over : (new old : List ℕ) (n : ℕ) → n ≡ length new → take n (with_front new old) ≡ new
take-over new old n e = take_at new (drop (length new) old) n (sym e)

-- a second write, to all that is left behind the first
pub over_rest : (new f out last : List ℕ) (e r : ℕ) → e ≡ length new → length new ≤ length out → r ≡ length (with_front new out) - e → last ≡ with_front f (take r (drop e (with_front new out))) → put_mid e r (with_front new out) last ≡ with_front (new ++ f) out
over_rest new f out last e r he h hr hl =
    let x = with_front new out in
    let xl = length_over new out h in
    let t = take-over new out e he in
    let d : drop e x ≡ drop (length new) out = drop_at new (drop (length new) out) e (sym he) in
    let l : length (drop e x) ≡ r = simp length-drop (omega arith) in
    let a : take r (drop e x) ≡ drop (length new) out = take_all r (drop e x) (omega arith) ∙ d in
    let z : drop r (drop e x) ≡ [] = drop_all r (drop e x) (omega arith) in
    let m : length new + length f ≡ length (new ++ f) = sym (length-append new f) in
    ap (λ y. y ++ (last ++ drop r (drop e x))) t
    ∙ ap (λ y. new ++ (last ++ y)) z
    ∙ ap (λ y. new ++ y) (append-nil last ∙ hl ∙ ap (with_front f) a)
    ∙ ap (λ y. new ++ (f ++ y)) (drop-drop (length f) (length new) out ∙ ap (λ i. drop i out) m)
    ∙ sym (append_assoc new f (drop (length (new ++ f)) out))
