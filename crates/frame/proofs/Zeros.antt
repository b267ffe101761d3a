-- Where the first zero of a list stands.
use Rattle.std.proofs.Common.{Option, Some, None, position, ◌≡◌, ◌≢◌, ◌∙◌, ℕ, ◌+◌, ◌<◌, ◌≤◌, Bool, true, false, cond, ltb, eqb, List, [], ◌∷◌, ◌++◌, length, get_or, take, drop, sym, refl, ap, subst, inl, inr, arith}
use Rattle.std.proofs.lemmas.Bool.{ltb-true, ltb-false}
use Rattle.std.proofs.lemmas.Bool.Decides.{nat_tests}
use Rattle.std.proofs.lemmas.List.{take-append-drop, drop_more, get_or-take}
use Rattle.std.proofs.lemmas.List.Sums.{prefix_len_passes, prefix_len_stops}
use Rattle.std.proofs.lemmas.List.Folds.{length-prefix_len}
use Rattle.std.proofs.ByRecursion.{All-from_get_or}
use Rattle.frame.specs.Frames.{Contents, error}
use Rattle.frame.specs.Details.{is_not_zero, zero_place, part_before_zero, detail, HasNoZero, EndsAtZero}

-- The first zero in other words.

not_zero : (b : ℕ) → is_not_zero b ≡ true → b ≢ 0
not_zero b h e = grind (arith, nat_tests)

no_zero : (p : List ℕ) → length p ≤ zero_place p → HasNoZero p
no_zero p h = All-from_get_or (λ b. b ≢ 0) p 0 (λ k lt. not_zero (get_or p k 0) (prefix_len_passes is_not_zero p k 0 (omega arith)))

no_zero_before : (p : List ℕ) → HasNoZero (take (zero_place p) p)
no_zero_before p = All-from_get_or (λ b. b ≢ 0) (take (zero_place p) p) 0 at
  where
    at : (k : ℕ) → k < length (take (zero_place p) p) → get_or (take (zero_place p) p) k 0 ≢ 0
    at k h =
        let l : k < zero_place p = omega (arith, length-prefix_len is_not_zero p) in
        subst (λ b. b ≢ 0) (sym (get_or-take (zero_place p) p k 0 l)) (not_zero (get_or p k 0) (prefix_len_passes is_not_zero p k 0 l))

zero_here : (p : List ℕ) → zero_place p < length p → get_or p (zero_place p) 0 ≡ 0
zero_here p h = let e = prefix_len_stops is_not_zero p 0 h in grind (arith, nat_tests)

whole : (p : List ℕ) → zero_place p < length p → p ≡ take (zero_place p) p ++ (0 ∷ drop (zero_place p + 1) p)
whole p h =
    let z = zero_place p in
    sym (take-append-drop z p) ∙ ap (λ y. take z p ++ y) (drop_more p z 0 h ∙ ap (λ b. b ∷ drop (z + 1) p) (zero_here p h))

ends_at : (p : List ℕ) (t : Bool) → ltb (zero_place p) (length p) ≡ t → EndsAtZero p (cond t (take (zero_place p) p) [])
ends_at p true q = inl (no_zero_before p, (drop (zero_place p + 1) p, whole p (ltb-true (zero_place p) (length p) q)))
ends_at p false q = inr (no_zero p (ltb-false (zero_place p) (length p) q), refl)

pub detail_ends : (x : Contents) (p : List ℕ) → x ≡ error p → EndsAtZero p (detail x)
detail_ends x p e = subst (λ y. EndsAtZero p (detail y)) (sym e) (ends_at p (ltb (zero_place p) (length p)) refl)

-- what stands before a place that a search found
abbrev pub before : List ℕ → Option ℕ → List ℕ
before p (Some n) = take n p
before p None = []

pub before_zero_found : (p : List ℕ) (r : Option ℕ) → r ≡ position (λ b. eqb b 0) p → part_before_zero p ≡ before p r
before_zero_found p r e =
    let z = zero_place p in
    let s = elim (ltb z (length p)) as (λ t. cond t (take z p) [] ≡ before p (cond t (Some z) None)) [ true ↦ refl | false ↦ refl ] in
    s ∙ ap (before p) (sym e)
