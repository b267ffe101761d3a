-- Serials made, destroyed and live.
use Rattle.std.proofs.Common.{◌≡◌, ℕ, ◌+◌, ◌<◌, ◌≤◌, Bool, true, false, cond, ◌||◌, eqb, List, [], ◌∷◌, ◌++◌, sym, refl, ap, ◌∙◌, subst, inl, inr, append_assoc, append-nil, arith}
use Rattle.std.proofs.lemmas.Bool.{ne_eqb, eq-eqb, eqb-true, eqb-false, cases_Bool, or_parts, or_cases, or_from, or_right, or_left, cond-true, cond-false}
use Rattle.histories.specs.Histories.{is_member, difference, IsDistinct}
use Rattle.promises.proofs.Cases.{both}

-- no number is above n
abbrev pub UpTo : ℕ → List ℕ → Type 0
UpTo n [] = Unit {0}
UpTo n (x ∷ xs) = (x ≤ n) × UpTo n xs

-- every number of the first list stands in the second
abbrev pub Within : List ℕ → List ℕ → Type 0
Within [] ys = Unit {0}
Within (x ∷ xs) ys = (is_member x ys ≡ true) × Within xs ys

or_assoc : (a b c : Bool) → ((a || b) || c) ≡ (a || (b || c))
or_assoc true b c = refl
or_assoc false b c = refl

pub member_append : (x : ℕ) (a b : List ℕ) → is_member x (a ++ b) ≡ (is_member x a || is_member x b)
member_append x [] b = refl
member_append x (y ∷ a) b = ap (λ z. eqb x y || z) (member_append x a b) ∙ sym (or_assoc (eqb x y) (is_member x a) (is_member x b))

difference_append : (a b g : List ℕ) → difference (a ++ b) g ≡ difference a g ++ difference b g
difference_append [] b g = refl
difference_append (x ∷ a) b g =
    let ih = difference_append a b g in
    elim (is_member x g) as (λ t. cond t (difference (a ++ b) g) (x ∷ difference (a ++ b) g) ≡ cond t (difference a g) (x ∷ difference a g) ++ difference b g) [ true ↦ ih | false ↦ ap (λ z. x ∷ z) ih ]

difference_difference : (a g k : List ℕ) → difference a (g ++ k) ≡ difference (difference a g) k
difference_difference [] g k = refl
difference_difference (x ∷ a) g k =
    let ih = difference_difference a g k in
    let e : cond (is_member x (g ++ k)) (difference a (g ++ k)) (x ∷ difference a (g ++ k)) ≡ cond (is_member x g || is_member x k) (difference (difference a g) k) (x ∷ difference (difference a g) k) = rw (member_append x g k, ih) in
    e ∙ elim (is_member x g) as (λ t. cond (t || is_member x k) (difference (difference a g) k) (x ∷ difference (difference a g) k) ≡ difference (cond t (difference a g) (x ∷ difference a g)) k) [ true ↦ refl | false ↦ refl ]

up_to_append : (n : ℕ) (a b : List ℕ) → UpTo n a → UpTo n b → UpTo n (a ++ b)
up_to_append n [] b p q = q
up_to_append n (x ∷ a) b p q = (p.0, up_to_append n a b p.1 q)

up_to_more : (n k : ℕ) (a : List ℕ) → n ≤ k → UpTo n a → UpTo k a
up_to_more n k [] h p = tt
up_to_more n k (x ∷ a) h p = let q : x ≤ n = p.0 in ((omega arith), up_to_more n k a h p.1)

above_none : (n x : ℕ) (a : List ℕ) → n < x → UpTo n a → is_member x a ≡ false
above_none n x [] h p = refl
above_none n x (y ∷ a) h p =
    let q : y ≤ n = p.0 in
    or_from (eqb x y) (is_member x a) (ne_eqb x y (λ e. omega arith)) (above_none n x a h p.1)

member_up_to : (n x : ℕ) (a : List ℕ) → UpTo n a → is_member x a ≡ true → x ≤ n
member_up_to n x [] p e = absurd (cc)
member_up_to n x (y ∷ a) p e =
    let q : y ≤ n = p.0 in
    elim (cases_Bool (eqb x y)) [ inl t ↦ (let z = eqb-true x y t in omega arith) | inr f ↦ member_up_to n x a p.1 (sym (ap (λ b. b || is_member x a) f) ∙ e) ]

distinct_snoc : (a : List ℕ) (x : ℕ) → IsDistinct a → is_member x a ≡ false → IsDistinct (a ++ (x ∷ []))
distinct_snoc [] x d h = (refl, tt)
distinct_snoc (y ∷ a) x d h =
    let parts = or_parts (eqb x y) (is_member x a) h in
    let ne : eqb y x ≡ false = ne_eqb y x (λ e. eqb-false x y parts.0 (sym e)) in (
      member_append y a (x ∷ []) ∙ or_from (is_member y a) (eqb y x || false) d.0 (or_from (eqb y x) false ne refl),
      distinct_snoc a x d.1 parts.1,
    )

within_append : (a b m : List ℕ) → Within a m → Within b m → Within (a ++ b) m
within_append [] b m p q = q
within_append (x ∷ a) b m p q = (p.0, within_append a b m p.1 q)

within_more : (a m k : List ℕ) → Within a m → Within a (m ++ k)
within_more [] m k p = tt
within_more (x ∷ a) m k p = (member_append x m k ∙ or_left (is_member x m) (is_member x k) p.0, within_more a m k p.1)

pub within_difference : (a m : List ℕ) → Within a m → difference a m ≡ []
within_difference [] m p = refl
within_difference (x ∷ a) m p = cond-true (is_member x m) (difference a m) (x ∷ difference a m) p.0 ∙ within_difference a m p.1

-- what is left of a stands in a, and not in g
left : (x : ℕ) (a g : List ℕ) → is_member x (difference a g) ≡ true → (is_member x a ≡ true) × (is_member x g ≡ false)
left x [] g e = absurd (cc)
left x (y ∷ a) g e =
    let more : is_member x (difference a g) ≡ true → (is_member x (y ∷ a) ≡ true) × (is_member x g ≡ false) = λ q. (or_right (eqb x y) (is_member x a) (left x a g q).0, (left x a g q).1) in
    both (is_member y g) (λ z. is_member x z ≡ true → (is_member x (y ∷ a) ≡ true) × (is_member x g ≡ false))
    (λ _ q. more q)
    (λ f q.
    elim (or_cases (eqb x y) (is_member x (difference a g)) q) [
      | inl t ↦ (or_left (eqb x y) (is_member x a) t, ap (λ z. is_member z g) (eqb-true x y t) ∙ f)
      | inr r ↦ more r
    ])
    e

-- the serials live, made and destroyed of a suite whose newest serial is n
pub record Books (n : ℕ) (live made gone : List ℕ) : Type 0 where
  pub exact : difference made gone ≡ live
  pub anew : IsDistinct made
  pub once : IsDistinct gone
  pub real : Within gone made
  pub up_to : UpTo n made

pub no_books : (n : ℕ) → Books n [] [] []
no_books n = record { exact = refl; anew = tt; once = tt; real = tt; up_to = tt }

gone_up_to : (n : ℕ) (gone made : List ℕ) → Within gone made → UpTo n made → UpTo n gone
gone_up_to n [] made w u = tt
gone_up_to n (x ∷ gone) made w u = (member_up_to n x made u w.0, gone_up_to n gone made w.1 u)

pub books_made : (n : ℕ) (live made gone : List ℕ) → Books n live made gone → Books (n + 1) (live ++ ((n + 1) ∷ [])) (made ++ ((n + 1) ∷ [])) (gone ++ [])
books_made n live made gone b =
    let lt : n < n + 1 = omega arith in
    let le : n ≤ n + 1 = omega arith in
    let self : n + 1 ≤ n + 1 = omega arith in
    let new : is_member (n + 1) gone ≡ false = above_none n (n + 1) gone lt (gone_up_to n gone made b.real b.up_to) in
    let left : difference (made ++ ((n + 1) ∷ [])) gone ≡ live ++ ((n + 1) ∷ []) = difference_append made ((n + 1) ∷ []) gone ∙ ap (λ z. difference made gone ++ z) (cond-false (is_member (n + 1) gone) [] ((n + 1) ∷ []) new) ∙ ap (λ z. z ++ ((n + 1) ∷ [])) b.exact in
    rw (append-nil gone) (record {
      exact = left;
      anew = distinct_snoc made (n + 1) b.anew (above_none n (n + 1) made lt b.up_to);
      once = b.once;
      real = within_more gone made ((n + 1) ∷ []) b.real;
      up_to = up_to_append (n + 1) made ((n + 1) ∷ []) (up_to_more n (n + 1) made le b.up_to) (self, tt);
    })

pub books_same : (n : ℕ) (live made gone : List ℕ) → Books n live made gone → Books n live (made ++ []) (gone ++ [])
books_same n live made gone b = rw (append-nil made, append-nil gone) b

-- one live serial destroyed
books_gone : (n x : ℕ) (live made gone : List ℕ) → is_member x live ≡ true → Books n live made gone → Books n (difference live (x ∷ [])) made (gone ++ (x ∷ []))
books_gone n x live made gone h b =
    let here : is_member x (difference made gone) ≡ true = ap (is_member x) b.exact ∙ h in
    record {
      exact = difference_difference made gone (x ∷ []) ∙ ap (λ z. difference z (x ∷ [])) b.exact;
      anew = b.anew;
      once = distinct_snoc gone x b.once (left x made gone here).1;
      real = within_append gone (x ∷ []) made b.real ((left x made gone here).0, tt);
      up_to = b.up_to;
    }

-- all live serials are destroyed, the newest first
pub data Clears : List ℕ → List ℕ → Type 0 where
  none : Clears [] []
  one : {a : ℕ} → Clears (a ∷ []) (a ∷ [])
  two : {a b : ℕ} → (a ≡ b → ⊥) → Clears (a ∷ b ∷ []) (b ∷ a ∷ [])

pub books_cleared : (n : ℕ) {live dead : List ℕ} (made gone : List ℕ) → Clears live dead → Books n live made gone → Books n [] (made ++ []) (gone ++ dead)
books_cleared n made gone none b = books_same n [] made gone b
books_cleared n made gone (one {a}) b =
    let self : eqb a a ≡ true = eq-eqb a a refl in
    let h : is_member a (a ∷ []) ≡ true = or_left (eqb a a) false self in
    let e : difference (a ∷ []) (a ∷ []) ≡ [] = cond-true (is_member a (a ∷ [])) [] (a ∷ []) h in
    rw (append-nil made) (subst (λ z. Books n z made (gone ++ (a ∷ []))) e (books_gone n a (a ∷ []) made gone h b))
books_cleared n made gone (two {a} {b = c} ne) b =
    let sa : eqb a a ≡ true = eq-eqb a a refl in
    let sc : eqb c c ≡ true = eq-eqb c c refl in
    let ac : eqb a c ≡ false = ne_eqb a c ne in
    let hc : is_member c (a ∷ c ∷ []) ≡ true = or_right (eqb c a) (eqb c c || false) (or_left (eqb c c) false sc) in
    let e : difference (a ∷ c ∷ []) (c ∷ []) ≡ a ∷ [] = rw (ac, sc) in
    let first : Books n (a ∷ []) made (gone ++ (c ∷ [])) = subst (λ z. Books n z made (gone ++ (c ∷ []))) e (books_gone n c (a ∷ c ∷ []) made gone hc b) in
    let ha : is_member a (a ∷ []) ≡ true = or_left (eqb a a) false sa in
    let e2 : difference (a ∷ []) (a ∷ []) ≡ [] = cond-true (is_member a (a ∷ [])) [] (a ∷ []) ha in
    let second : Books n [] made ((gone ++ (c ∷ [])) ++ (a ∷ [])) = subst (λ z. Books n z made ((gone ++ (c ∷ [])) ++ (a ∷ []))) e2 (books_gone n a (a ∷ []) made (gone ++ (c ∷ [])) ha first) in
    rw (append-nil made) (subst (λ z. Books n [] made z) (append_assoc gone (c ∷ []) (a ∷ [])) second)
