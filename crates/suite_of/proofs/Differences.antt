-- Bytes that are compared by what is left of their XORs.
use Rattle.std.proofs.Common.{◌≡◌, ℕ, ◌+◌, ◌<◌, List, [], ◌∷◌, ◌++◌, length, get_or, take, sym, ap, ◌∙◌, arith}
use Rattle.std.specs.Int.Bits.{bit_or, bit_xor, xor_assoc, xor_self, xor_zero_l, xor_zero_r, or_zero_l}
use Rattle.std.proofs.lemmas.Nat.{le_or_l, le_or_r}
use Rattle.std.proofs.lemmas.List.{take_more, get_or-take, take-take}

same_from_xor : (x y : ℕ) → bit_xor x y ≡ 0 → x ≡ y
same_from_xor x y e = sym (xor_zero_r x) ∙ ap (bit_xor x) (sym (xor_self y)) ∙ sym (xor_assoc x y y) ∙ ap (λ z. bit_xor z y) e ∙ xor_zero_l y

none_before : (d e : ℕ) → bit_or d e ≡ 0 → d ≡ 0
none_before d e h = let l = le_or_l d e in omega arith

none_here : (d e : ℕ) → bit_or d e ≡ 0 → e ≡ 0
none_here d e h = let l = le_or_r d e in omega arith

module _ (a b : List ℕ) (i d : ℕ) (ha : i < length a) (hb : i < length b) where
  pub equal_more : (d ≡ 0 → take i a ≡ take i b) → bit_or d (bit_xor (get_or a i 0) (get_or b i 0)) ≡ 0 → take (i + 1) a ≡ take (i + 1) b
  equal_more so h =
      let x = same_from_xor (get_or a i 0) (get_or b i 0) (none_here d _ h) in
      let t = so (none_before d _ h) in
      take_more a i 0 ha ∙ ap (λ z. z ++ (get_or a i 0 ∷ [])) t ∙ ap (λ z. take i b ++ (z ∷ [])) x ∙ sym (take_more b i 0 hb)

  pub no_more : (take i a ≡ take i b → d ≡ 0) → take (i + 1) a ≡ take (i + 1) b → bit_or d (bit_xor (get_or a i 0) (get_or b i 0)) ≡ 0
  no_more so e =
      let here : get_or a i 0 ≡ get_or b i 0 = sym (get_or-take (i + 1) a i 0 (omega arith)) ∙ ap (λ z. get_or z i 0) e ∙ get_or-take (i + 1) b i 0 (omega arith) in
      let before : take i a ≡ take i b = sym (take-take i (i + 1) a (omega arith)) ∙ ap (take i) e ∙ take-take i (i + 1) b (omega arith) in
      ap (λ z. bit_or z (bit_xor (get_or a i 0) (get_or b i 0))) (so before) ∙ or_zero_l _ ∙ ap (λ z. bit_xor z (get_or b i 0)) here ∙ xor_self (get_or b i 0)
