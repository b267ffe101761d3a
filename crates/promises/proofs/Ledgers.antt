-- What the calls of one link session sent, took in and handed out.
use Rattle.std.proofs.Common.{◌≡◌, ℕ, ◌+◌, ◌<◌, ◌≤◌, true, false, cond, ◌||◌, eqb, ◌⊎◌, List, [], ◌∷◌, ◌++◌, Some, Option, sym, refl, ap, ◌∙◌, subst, inl, inr, append_assoc, append-nil, arith}
use Rattle.std.proofs.lemmas.Bool.{cases_lt, eq-eqb, or_left, or_right}
use Rattle.suite.specs.Meanings.{Keyring, IsFormed, IsBytes16}
use Rattle.suite.specs.Schemes.{Scheme, IsLawful, IsSealable, is_role}
use Rattle.protocol.specs.Steps.{is_empty}
use Rattle.histories.specs.Histories.{Entry, History, is_member, data_sent, data_sent_in, data_handed, is_retrieval}
use Rattle.histories.specs.Sessions.{encs_sent, encs_sent_in, enc_numbers, enc_number, opened_number, IsMember, GetsCopy, GetsOnlyCopies}
use Rattle.promises.proofs.Books.{member_append}
use Rattle.promises.proofs.Orders.{Rec, to_data, Has, Desc, desc_more}

-- an end of a link session: the keyring of its suite, the serial of its link key, and its role
pub record End : Type 0 where
  pub keyring : Keyring
  pub serial : ℕ
  pub role : ℕ

-- what it seals and opens, by the value of its link key
abbrev pub seal : Scheme → List ℕ → End → ℕ → List ℕ → List ℕ
seal s value z n plain = s.seal_of z.keyring z.serial value z.role n plain

abbrev pub unseal : Scheme → List ℕ → End → List ℕ → Option (ℕ × ℕ × List ℕ)
unseal s value z payload = s.open_of z.keyring z.serial value payload

-- what one call in a session does: the number and the held data before and after
pub data Act (s : Scheme) (value : List ℕ) (z : End) (e : Entry) : ℕ → List ℕ → ℕ → List ℕ → Type 0 where
  sends : {n : ℕ} {held : List ℕ} (plain : List ℕ) → data_sent_in e ≡ plain ∷ [] → encs_sent_in e ≡ (0x14 ∷ seal s value z (n + 1) plain) ∷ [] → is_retrieval e ≡ false → IsSealable s (n + 1) plain → Act s value z e n held (n + 1) held
  takes : {n : ℕ} (who : ℕ) (payload plain : List ℕ) → data_sent_in e ≡ [] → encs_sent_in e ≡ [] → is_retrieval e ≡ false → ((copies : List (List ℕ)) → GetsCopy copies e.call → IsMember (0x14 ∷ payload) copies) → unseal s value z payload ≡ Some (who, n + 1, plain) → eqb who z.role ≡ false → is_empty plain ≡ false → Act s value z e n [] (n + 1) plain
  gives : {n : ℕ} {held : List ℕ} → data_sent_in e ≡ [] → encs_sent_in e ≡ [] → is_retrieval e ≡ true → e.written ≡ held → is_empty held ≡ false → Act s value z e n held n []
  other : {n : ℕ} {held : List ℕ} → data_sent_in e ≡ [] → encs_sent_in e ≡ [] → is_retrieval e ≡ false → Act s value z e n held n held

-- the acts of a session from its start
pub data Ledger (s : Scheme) (value : List ℕ) (z : End) : History → ℕ → List ℕ → Type 0 where
  start : Ledger s value z [] s.first []
  more : {since : History} {e : Entry} {n n' : ℕ} {held held' : List ℕ} → Ledger s value z since n held → Act s value z e n held n' held' → Ledger s value z (e ∷ since) n' held'

-- the data that is held and not yet handed out
abbrev pub waiting : List ℕ → List (List ℕ)
waiting [] = []
waiting (x ∷ xs) = (x ∷ xs) ∷ []

one_waiting : (plain : List ℕ) → is_empty plain ≡ false → waiting plain ≡ plain ∷ []
one_waiting [] e = absurd (cc)
one_waiting (x ∷ xs) e = refl

none_handed : (e : Entry) (since : History) → is_retrieval e ≡ false → data_handed (e ∷ since) ≡ data_handed since
none_handed e since h = ap (λ b. data_handed since ++ cond b (e.written ∷ []) []) h ∙ append-nil (data_handed since)

unsent : (e : Entry) (since : History) → encs_sent_in e ≡ [] → encs_sent (e ∷ since) ≡ encs_sent since
unsent e since h = ap (λ z. encs_sent since ++ z) h ∙ append-nil (encs_sent since)

pub in_append : (x : List ℕ) (xs ys : List (List ℕ)) → IsMember x (xs ++ ys) → IsMember x xs ⊎ IsMember x ys
in_append x [] ys h = inr h
in_append x (y ∷ xs) ys h = elim h [ inl e ↦ inl (inl e) | inr k ↦ elim (in_append x xs ys k) [ inl a ↦ inl (inr a) | inr b ↦ inr b ] ]

module _ (s : Scheme) (value : List ℕ) (z : End) where
  -- the records sent and taken in

  abbrev pub add_sent : {e : Entry} {n n' : ℕ} {held held' : List ℕ} → List Rec → Act s value z e n held n' held' → List Rec
  add_sent X (sends {n} plain a b c d) = record { num = n + 1; bytes = plain } ∷ X
  add_sent X (takes who payload plain a b c d f g h) = X
  add_sent X (gives a b c d f) = X
  add_sent X (other a b c) = X

  abbrev pub add_received : {e : Entry} {n n' : ℕ} {held held' : List ℕ} → List Rec → Act s value z e n held n' held' → List Rec
  add_received X (sends plain a b c d) = X
  add_received X (takes {n} who payload plain a b c d f g h) = record { num = n + 1; bytes = plain } ∷ X
  add_received X (gives a b c d f) = X
  add_received X (other a b c) = X

  abbrev pub sent_of : {since : History} {n : ℕ} {held : List ℕ} → Ledger s value z since n held → List Rec
  sent_of start = []
  sent_of (more L a) = add_sent (sent_of L) a

  abbrev pub received_of : {since : History} {n : ℕ} {held : List ℕ} → Ledger s value z since n held → List Rec
  received_of start = []
  received_of (more L a) = add_received (received_of L) a

  pub sent_is : {since : History} {n : ℕ} {held : List ℕ} (L : Ledger s value z since n held) → data_sent since ≡ to_data (sent_of L)
  sent_is start = refl
  sent_is (more {since} L (sends plain a b c d)) = ap (λ y. data_sent since ++ y) a ∙ ap (λ y. y ++ (plain ∷ [])) (sent_is L)
  sent_is (more {since} L (takes who payload plain a b c d f g h)) = ap (λ y. data_sent since ++ y) a ∙ append-nil (data_sent since) ∙ sent_is L
  sent_is (more {since} L (gives a b c d f)) = ap (λ y. data_sent since ++ y) a ∙ append-nil (data_sent since) ∙ sent_is L
  sent_is (more {since} L (other a b c)) = ap (λ y. data_sent since ++ y) a ∙ append-nil (data_sent since) ∙ sent_is L

  pub received_is : {since : History} {n : ℕ} {held : List ℕ} (L : Ledger s value z since n held) → to_data (received_of L) ≡ data_handed since ++ waiting held
  received_is start = refl
  received_is (more {since} {e} {held} L (sends plain a b c d)) = received_is L ∙ ap (λ y. y ++ waiting held) (sym (none_handed e since c))
  received_is (more {since} {e} L (takes who payload plain a b c d f g h)) =
      let was : to_data (received_of L) ≡ data_handed since = received_is L ∙ append-nil (data_handed since) in
      ap (λ y. y ++ (plain ∷ [])) (was ∙ sym (none_handed e since c)) ∙ ap (λ y. data_handed (e ∷ since) ++ y) (sym (one_waiting plain h))
  received_is (more {since} {e} {held} L (gives a b c d f)) =
      let out : data_handed (e ∷ since) ≡ data_handed since ++ (held ∷ []) = ap (λ t. data_handed since ++ cond t (e.written ∷ []) []) c ∙ ap (λ y. data_handed since ++ (y ∷ [])) d in
      received_is L ∙ ap (λ y. data_handed since ++ y) (one_waiting held f) ∙ sym out ∙ sym (append-nil (data_handed (e ∷ since)))
  received_is (more {since} {e} {held} L (other a b c)) = received_is L ∙ ap (λ y. y ++ waiting held) (sym (none_handed e since c))

  -- their numbers fall from the newest

  pub sent_desc : {since : History} {n : ℕ} {held : List ℕ} (L : Ledger s value z since n held) → Desc (n + 1) (sent_of L)
  sent_desc start = tt
  sent_desc (more {n} L (sends plain a b c d)) = ((omega arith), sent_desc L)
  sent_desc (more {n} L (takes who payload plain a b c d f g h)) = desc_more (n + 1) (n + 1 + 1) _ (omega arith) (sent_desc L)
  sent_desc (more L (gives a b c d f)) = sent_desc L
  sent_desc (more L (other a b c)) = sent_desc L

  pub received_desc : {since : History} {n : ℕ} {held : List ℕ} (L : Ledger s value z since n held) → Desc (n + 1) (received_of L)
  received_desc start = tt
  received_desc (more {n} L (sends plain a b c d)) = desc_more (n + 1) (n + 1 + 1) _ (omega arith) (received_desc L)
  received_desc (more {n} L (takes who payload plain a b c d f g h)) = ((omega arith), received_desc L)
  received_desc (more L (gives a b c d f)) = received_desc L
  received_desc (more L (other a b c)) = received_desc L

  first_le : {since : History} {n : ℕ} {held : List ℕ} → Ledger s value z since n held → s.first ≤ n
  first_le start = omega arith
  first_le (more {n} L (sends plain a b c d)) = let y : s.first ≤ n = first_le L in omega arith
  first_le (more {n} L (takes who payload plain a b c d f g h)) = let y : s.first ≤ n = first_le L in omega arith
  first_le (more L (gives a b c d f)) = first_le L
  first_le (more L (other a b c)) = first_le L

  -- a record sent: its number lies above the first, and it can be sealed
  pub record Good (k : ℕ) (x : List ℕ) : Type 0 where
    pub above : s.first < k
    pub fit : IsSealable s k x

  pub sent_good : {since : History} {n : ℕ} {held : List ℕ} (L : Ledger s value z since n held) (k : ℕ) (x : List ℕ) → Has k x (sent_of L) → Good k x
  sent_good start k x h = absurd h
  sent_good (more {n} L (sends plain a b c d)) k x h =
      elim h [
        | inl q ↦
            (let low : s.first ≤ n = first_le L in
            let new : Good (n + 1) plain = record { above = omega arith; fit = d } in
            subst (λ y. Good k y) (sym q.1) (subst (λ y. Good y plain) (sym q.0) new))
        | inr r ↦ sent_good L k x r
      ]
  sent_good (more L (takes who payload plain a b c d f g h)) k x i = sent_good L k x i
  sent_good (more L (gives a b c d f)) k x h = sent_good L k x h
  sent_good (more L (other a b c)) k x h = sent_good L k x h

  -- every number up to the newest was sent or taken in
  abbrev pub Either : List Rec → List Rec → ℕ → Type 0
  Either X Y k = ((d : List ℕ) × Has k d X) ⊎ ((d : List ℕ) × Has k d Y)

  pub complete : {since : History} {n : ℕ} {held : List ℕ} (L : Ledger s value z since n held) (k : ℕ) → s.first < k → k ≤ n → Either (sent_of L) (received_of L) k
  complete start k lo hi = absurd (omega arith)
  complete (more {n} L (sends plain a b c d)) k lo hi =
      elim (cases_lt n k) [
        | inl l ↦ inl (plain, inl ((omega arith), refl))
        | inr l ↦ elim (complete L k lo l) [ inl (x, h) ↦ inl (x, inr h) | inr y ↦ inr y ]
      ]
  complete (more {n} L (takes who payload plain a b c d f g h)) k lo hi =
      elim (cases_lt n k) [
        | inl l ↦ inr (plain, inl ((omega arith), refl))
        | inr l ↦ elim (complete L k lo l) [ inl y ↦ inl y | inr (x, i) ↦ inr (x, inr i) ]
      ]
  complete (more L (gives a b c d f)) k lo hi = complete L k lo hi
  complete (more L (other a b c)) k lo hi = complete L k lo hi

  -- a record taken in: a copy that opens to it, under another role
  pub record Copied (copies : List (List ℕ)) (k : ℕ) (x : List ℕ) : Type 0 where
    pub who : ℕ
    pub payload : List ℕ
    pub copy : IsMember (0x14 ∷ payload) copies
    pub opens : unseal s value z payload ≡ Some (who, k, x)
    pub theirs : eqb who z.role ≡ false

  pub received_copied : {since : History} {n : ℕ} {held : List ℕ} (L : Ledger s value z since n held) (copies : List (List ℕ)) → GetsOnlyCopies copies since → (k : ℕ) (x : List ℕ) → Has k x (received_of L) → Copied copies k x
  received_copied start copies o k x h = absurd h
  received_copied (more L (sends plain a b c d)) copies o k x h = received_copied L copies o.1 k x h
  received_copied (more {n} L (takes who payload plain a b c d f g h)) copies o k x i =
      elim i [
        | inl q ↦ record { who = who; payload = payload; copy = d copies o.0; opens = f ∙ ap (λ y. Some (who, y, plain)) (sym q.0) ∙ ap (λ y. Some (who, k, y)) (sym q.1); theirs = g }
        | inr r ↦ received_copied L copies o.1 k x r
      ]
  received_copied (more L (gives a b c d f)) copies o k x h = received_copied L copies o.1 k x h
  received_copied (more L (other a b c)) copies o k x h = received_copied L copies o.1 k x h

  -- an ENC of the session: which record it seals
  pub record Sealed (X : List Rec) (enc : List ℕ) : Type 0 where
    pub num : ℕ
    pub plain : List ℕ
    pub has : Has num plain X
    pub is : enc ≡ 0x14 ∷ seal s value z num plain

  pub enc_sealed : {since : History} {n : ℕ} {held : List ℕ} (L : Ledger s value z since n held) (x : List ℕ) → IsMember x (encs_sent since) → Sealed (sent_of L) x
  enc_sealed start x h = absurd h
  enc_sealed (more {since} {e} {n} L (sends plain a b c d)) x h =
      elim (in_append x (encs_sent since) ((0x14 ∷ seal s value z (n + 1) plain) ∷ []) (subst (λ y. IsMember x (encs_sent since ++ y)) b h)) [
        | inl i ↦ (let r = enc_sealed L x i in record { num = r.num; plain = r.plain; has = inr r.has; is = r.is })
        | inr i ↦ elim i [ inl q ↦ record { num = n + 1; plain = plain; has = inl (refl, refl); is = q } | inr y ↦ absurd y ]
      ]
  enc_sealed (more {since} {e} L (takes who payload plain a b c d f g h)) x i = enc_sealed L x (subst (λ y. IsMember x y) (unsent e since b) i)
  enc_sealed (more {since} {e} L (gives a b c d f)) x h = enc_sealed L x (subst (λ y. IsMember x y) (unsent e since b) h)
  enc_sealed (more {since} {e} L (other a b c)) x h = enc_sealed L x (subst (λ y. IsMember x y) (unsent e since b) h)

  -- the numbers that ENCs open to
  abbrev pub told : List (List ℕ) → List ℕ
  told xs = enc_numbers s z.keyring z.serial value xs

  told_append : (xs ys : List (List ℕ)) → told (xs ++ ys) ≡ told xs ++ told ys
  told_append [] ys = refl
  told_append (x ∷ xs) ys = ap (λ y. enc_number s z.keyring z.serial value x ++ y) (told_append xs ys) ∙ sym (append_assoc (enc_number s z.keyring z.serial value x) (told xs) (told ys))

  -- the number of each record sent is among those that the session's ENCs open to
  module _ (law : IsLawful s) (ok : is_role z.role ≡ true) (f : IsFormed z.keyring) (v16 : IsBytes16 value) where
    pub number_told : {since : History} {n : ℕ} {held : List ℕ} (L : Ledger s value z since n held) (k : ℕ) (x : List ℕ) → Has k x (sent_of L) → is_member k (told (encs_sent since)) ≡ true
    number_told start k x h = absurd h
    number_told (more {since} {e} {n} L (sends plain a b c d)) k x h =
        let opens : unseal s value z (seal s value z (n + 1) plain) ≡ Some (z.role, n + 1, plain) = law.opens z.keyring z.keyring value plain z.serial z.serial z.role (n + 1) f f v16 ok d in
        let new : told (encs_sent_in e) ≡ (n + 1) ∷ [] = ap told b ∙ ap (λ y. opened_number y ++ []) opens in
        let all : told (encs_sent (e ∷ since)) ≡ told (encs_sent since) ++ ((n + 1) ∷ []) = told_append (encs_sent since) (encs_sent_in e) ∙ ap (λ y. told (encs_sent since) ++ y) new in
        ap (is_member k) all ∙ member_append k (told (encs_sent since)) ((n + 1) ∷ []) ∙
        elim h [
          | inl q ↦ or_right (is_member k (told (encs_sent since))) (eqb k (n + 1) || false) (or_left (eqb k (n + 1)) false (eq-eqb k (n + 1) q.0))
          | inr r ↦ or_left (is_member k (told (encs_sent since))) (eqb k (n + 1) || false) (number_told L k x r)
        ]
    number_told (more {since} {e} L (takes who payload plain a b c d f g h)) k x i = ap (λ y. is_member k (told y)) (unsent e since b) ∙ number_told L k x i
    number_told (more {since} {e} L (gives a b c d f)) k x h = ap (λ y. is_member k (told y)) (unsent e since b) ∙ number_told L k x h
    number_told (more {since} {e} L (other a b c)) k x h = ap (λ y. is_member k (told y)) (unsent e since b) ∙ number_told L k x h
