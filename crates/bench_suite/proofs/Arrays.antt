-- What an array holds that a closure made, element by element.
use Rattle.std.proofs.Common.{◌≡◌, ℕ, zero, suc, ◌+◌, ◌<◌, List, length, get_or, map, subst, sym, ◌∙◌, arith}
use Rattle.std.specs.Fn.{Called, Mut}
use Rattle.std.specs.Array.{IsMapOf, IsFromFnResultFrom}
use Rattle.std.proofs.lemmas.Grind.{same_number_lists}
use Rattle.std.proofs.lemmas.List.{length-map, get_or-map}

module _ {F : Type 0} (g : Mut F (ℕ × Unit {0}) ℕ) (h : ℕ → ℕ) where
  -- made from another array, by a closure that computes h
  pub mapped : (f : F) (xs ys : List ℕ) (n : ℕ) → length xs ≡ n → ((p : F) (x y : ℕ) (q : F) → Called g p (x, tt) y q → y ≡ h x) → IsMapOf g f xs ys n → ys ≡ map h xs
  mapped f xs ys n long call made =
      let same : length ys ≡ length (map h xs) = made.long ∙ sym (length-map xs h ∙ long) in
      same_number_lists ys (map h xs) same (λ k low.
      let at : k < length xs = omega (arith, length-map xs h) in
      let one = made.at k 0 0 (omega arith) in
      call one.0 _ _ one.1 one.2 ∙ sym (get_or-map h xs k 0 0 at))

  -- made from the places, by a closure that computes h and stays as it is
  pub made_at : (f : F) (ys : List ℕ) → ((i y : ℕ) (q : F) → Called g f (i, tt) y q → (y ≡ h i) × (q ≡ f)) → (i n k j : ℕ) → i + k ≡ j → k < n → IsFromFnResultFrom g f ys i n → get_or ys j 0 ≡ h j
  made_at f ys call i zero k j e low made = absurd (omega arith)
  made_at f ys call i (suc n) zero j e low made =
      let here : i ≡ j = omega arith in
      let P : ℕ → Type 0 = λ z. get_or ys z 0 ≡ h z in
      subst P here (made.2.1 0 ∙ (call i made.1 made.0 made.3).0)
  made_at f ys call i (suc n) (suc k) j e low made =
      let P : F → Type 0 = λ p. IsFromFnResultFrom g p ys (i + 1) n in
      made_at f ys call (i + 1) n k j (omega arith) (omega arith) (subst P (call i made.1 made.0 made.3).1 made.4)
