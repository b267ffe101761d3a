-- Numbered records, the newest first.
use Rattle.std.proofs.Common.{◌≡◌, ℕ, ◌+◌, ◌<◌, ◌≤◌, ◌⊎◌, List, [], ◌∷◌, ◌++◌, sym, refl, ap, ◌∙◌, subst, inl, inr, append_assoc, append-nil, arith}
use Rattle.std.proofs.lemmas.Bool.{cases_lt}
use Rattle.histories.specs.Sessions.{IsSubsequence, done, skip, use', IsPrefix}

-- a record by its number and its data
pub record Rec : Type 0 where
  pub num : ℕ
  pub bytes : List ℕ

-- the data, the oldest first
abbrev pub to_data : List Rec → List (List ℕ)
to_data [] = []
to_data (r ∷ X) = to_data X ++ (r.bytes ∷ [])

-- the record of that number and data is among these
abbrev pub Has : ℕ → List ℕ → List Rec → Type 0
Has n d [] = ⊥
Has n d (r ∷ X) = ((n ≡ r.num) × (d ≡ r.bytes)) ⊎ Has n d X

-- numbers fall, from below b
abbrev pub Desc : ℕ → List Rec → Type 0
Desc b [] = Unit {0}
Desc b (r ∷ X) = (r.num < b) × Desc r.num X

-- each record of the first list is in the second
abbrev pub Sub : List Rec → List Rec → Type 0
Sub X Y = (n : ℕ) (d : List ℕ) → Has n d X → Has n d Y

pub desc_more : (b c : ℕ) (X : List Rec) → b ≤ c → Desc b X → Desc c X
desc_more b c [] h d = tt
desc_more b c (r ∷ X) h d = let q : r.num < b = d.0 in ((omega arith), d.1)

has_below : (b n : ℕ) (d : List ℕ) (X : List Rec) → Desc b X → Has n d X → n < b
has_below b n d [] p h = absurd h
has_below b n d (r ∷ X) p h =
    let q : r.num < b = p.0 in
    elim h [ inl e ↦ (let e₀ : n ≡ r.num = e.0 in omega arith) | inr k ↦ (let l : n < r.num = has_below r.num n d X p.1 k in omega arith) ]

-- one number, one record
pub has_same : (b n : ℕ) (d e : List ℕ) (X : List Rec) → Desc b X → Has n d X → Has n e X → d ≡ e
has_same b n d e [] p h k = absurd h
has_same b n d e (r ∷ X) p h k =
    elim h [
      | inl q ↦ elim k [
        | inl u ↦ q.1 ∙ sym u.1
        | inr v ↦ (let l : n < r.num = has_below r.num n e X p.1 v in let z : n ≡ r.num = q.0 in absurd (omega arith))
      ]
      | inr g ↦ elim k [
        | inl u ↦ (let l : n < r.num = has_below r.num n d X p.1 g in let z : n ≡ r.num = u.0 in absurd (omega arith))
        | inr v ↦ has_same r.num n d e X p.1 g v
      ]
    ]

subsequence_more : {xs ys : List (List ℕ)} (zs : List (List ℕ)) → IsSubsequence xs ys → IsSubsequence xs (ys ++ zs)
subsequence_more zs done = done
subsequence_more zs (skip p) = skip (subsequence_more zs p)
subsequence_more zs (use' p) = use' (subsequence_more zs p)

subsequence_end : (x : List ℕ) (ys : List (List ℕ)) → IsSubsequence (x ∷ []) (ys ++ (x ∷ []))
subsequence_end x [] = use' done
subsequence_end x (y ∷ ys) = skip (subsequence_end x ys)

subsequence_both : {xs ys : List (List ℕ)} (x : List ℕ) → IsSubsequence xs ys → IsSubsequence (xs ++ (x ∷ [])) (ys ++ (x ∷ []))
subsequence_both x (done {ys}) = subsequence_end x ys
subsequence_both x (skip p) = skip (subsequence_both x p)
subsequence_both x (use' p) = use' (subsequence_both x p)

pub subsequence_front : {ws ys : List (List ℕ)} → IsSubsequence ws ys → (xs zs : List (List ℕ)) → ws ≡ xs ++ zs → IsSubsequence xs ys
subsequence_front done [] zs e = done
subsequence_front done (x ∷ xs) zs e = absurd (cc)
subsequence_front (skip p) xs zs e = skip (subsequence_front p xs zs e)
subsequence_front (use' p) [] zs e = done
subsequence_front (use' {x = w} {xs = ws} {ys} p) (x ∷ xs) zs e =
    let h : w ≡ x = cc in
    let t : ws ≡ xs ++ zs = cc in
    subst (λ z. IsSubsequence (z ∷ xs) (w ∷ ys)) h (use' (subsequence_front p xs zs t))

-- the same head taken off both
tails : (x y : Rec) (X Y : List Rec) (n : ℕ) (d : List ℕ) → x.num ≡ y.num → Desc x.num X → Has n d X → Has n d (y ∷ Y) → Has n d Y
tails x y X Y n d e p h (inl q) =
    let l : n < x.num = has_below x.num n d X p h in
    let z : n ≡ y.num = q.0 in
    absurd (omega arith)
tails x y X Y n d e p h (inr k) = k

-- a head above all taken off the second
above : (y : Rec) (b : ℕ) (X Y : List Rec) (n : ℕ) (d : List ℕ) → b ≤ y.num → Desc b X → Has n d X → Has n d (y ∷ Y) → Has n d Y
above y b X Y n d e p h (inl q) =
    let l : n < b = has_below b n d X p h in
    let z : n ≡ y.num = q.0 in
    absurd (omega arith)
above y b X Y n d e p h (inr k) = k

pub sub_subsequence : (b c : ℕ) (X Y : List Rec) → Desc b X → Desc c Y → Sub X Y → IsSubsequence (to_data X) (to_data Y)
sub_subsequence b c [] [] p q f = done
sub_subsequence b c (x ∷ X) [] p q f = absurd (f x.num x.bytes (inl (refl, refl)))
sub_subsequence b c [] (y ∷ Y) p q f = done
sub_subsequence b c (x ∷ X) (y ∷ Y) p q f =
    elim (f x.num x.bytes (inl (refl, refl))) [
      | inl e ↦
          let rest : IsSubsequence (to_data X) (to_data Y) = sub_subsequence x.num y.num X Y p.1 q.1 (λ n d h. tails x y X Y n d e.0 p.1 h (f n d (inr h))) in
          subst (λ z. IsSubsequence (to_data X ++ (x.bytes ∷ [])) (to_data Y ++ (z ∷ []))) e.1 (subsequence_both x.bytes rest)
      | inr h ↦
          let l : x.num < y.num = has_below y.num x.num x.bytes Y q.1 h in
          let low : Desc (x.num + 1) (x ∷ X) = ((omega arith), p.1) in
          let le : x.num + 1 ≤ y.num = omega arith in
          subsequence_more (y.bytes ∷ []) (sub_subsequence (x.num + 1) y.num (x ∷ X) Y low q.1 (λ n d k. above y (x.num + 1) (x ∷ X) Y n d le low k (f n d k)))
    ]

sub_same : (b c : ℕ) (X Y : List Rec) → Desc b X → Desc c Y → Sub X Y → Sub Y X → to_data X ≡ to_data Y
sub_same b c [] [] p q f g = refl
sub_same b c (x ∷ X) [] p q f g = absurd (f x.num x.bytes (inl (refl, refl)))
sub_same b c [] (y ∷ Y) p q f g = absurd (g y.num y.bytes (inl (refl, refl)))
sub_same b c (x ∷ X) (y ∷ Y) p q f g =
    let heads : (x.num ≡ y.num) × (x.bytes ≡ y.bytes) =
    elim (f x.num x.bytes (inl (refl, refl))) [
      | inl e ↦ e
      | inr h ↦
          let l : x.num < y.num = has_below y.num x.num x.bytes Y q.1 h in
          let low : Desc (x.num + 1) (x ∷ X) = ((omega arith), p.1) in
          let k : y.num < x.num + 1 = has_below (x.num + 1) y.num y.bytes (x ∷ X) low (g y.num y.bytes (inl (refl, refl))) in
          absurd (omega arith)
    ] in
    let rest = sub_same x.num y.num X Y p.1 q.1 (λ n d h. tails x y X Y n d heads.0 p.1 h (f n d (inr h))) (λ n d h. tails y x Y X n d (sym heads.0) q.1 h (g n d (inr h))) in
    ap (λ z. z ++ (x.bytes ∷ [])) rest ∙ ap (λ z. to_data Y ++ (z ∷ [])) heads.1

-- all of Y up to m stands in X, and X goes no further
pub sub_begins : (m c : ℕ) (X Y : List Rec) → Desc (m + 1) X → Desc c Y → Sub X Y → ((n : ℕ) (d : List ℕ) → Has n d Y → n ≤ m → Has n d X) → IsPrefix (to_data X) (to_data Y)
sub_begins m c [] [] p q f g = ([], refl)
sub_begins m c (x ∷ X) [] p q f g = absurd (f x.num x.bytes (inl (refl, refl)))
sub_begins m c [] (y ∷ Y) p q f g = (to_data Y ++ (y.bytes ∷ []), refl)
sub_begins m c (x ∷ X) (y ∷ Y) p q f g =
    elim (cases_lt m y.num) [
      | inl l ↦
          let le : m + 1 ≤ y.num = omega arith in
          let rest = sub_begins m y.num (x ∷ X) Y p q.1 (λ n d h. above y (m + 1) (x ∷ X) Y n d le p h (f n d h)) (λ n d h. g n d (inr h)) in
          (rest.0 ++ (y.bytes ∷ []), ap (λ z. z ++ (y.bytes ∷ [])) rest.1 ∙ append_assoc (to_data X ++ (x.bytes ∷ [])) rest.0 (y.bytes ∷ []))
      | inr l ↦
          let top : Desc (y.num + 1) (y ∷ Y) = ((omega arith), q.1) in
          let back : Sub (y ∷ Y) (x ∷ X) = λ n d h. g n d h (let k : n < y.num + 1 = has_below (y.num + 1) n d (y ∷ Y) top h in omega arith) in
          ([], sym (sub_same (m + 1) c (x ∷ X) (y ∷ Y) p q f back) ∙ sym (append-nil (to_data X ++ (x.bytes ∷ []))))
    ]
