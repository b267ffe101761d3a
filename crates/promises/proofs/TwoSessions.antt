-- Two sessions under one link key's value.
use Rattle.std.proofs.Common.{◌≡◌, ℕ, ◌+◌, ◌<◌, ◌≤◌, true, false, eqb, List, [], ◌∷◌, ◌++◌, Some, None, Option, sym, ap, ◌∙◌, subst, inl, inr, append_assoc, arith}
use Rattle.std.proofs.lemmas.Bool.{eq-eqb}
use Rattle.suite.specs.Meanings.{IsFormed, IsBytes, IsBytes16}
use Rattle.suite.specs.Schemes.{Scheme, IsLawful, is_role}
use Rattle.histories.specs.Histories.{History, data_sent, data_handed}
use Rattle.histories.specs.Sessions.{encs_sent, GetsOnlyCopies, IsSubsequence, IsPrefix, IsDisjoint}
use Rattle.promises.specs.Promises.{OpensAlike}
use Rattle.promises.proofs.Cases.{clash}
use Rattle.promises.proofs.Orders.{to_data, Has, Sub, has_same, subsequence_front, sub_subsequence, sub_begins}
use Rattle.promises.proofs.Ledgers.{End, seal, unseal, Ledger, sent_of, received_of, waiting, told, sent_is, received_is, sent_desc, received_desc, sent_good, complete, received_copied, Sealed, in_append, enc_sealed, number_told}

abbrev who_in : Option (ℕ × ℕ × List ℕ) → ℕ
who_in None = 0
who_in (Some t) = t.0

abbrev num_in : Option (ℕ × ℕ × List ℕ) → ℕ
num_in None = 0
num_in (Some t) = t.1

abbrev plain_in : Option (ℕ × ℕ × List ℕ) → List ℕ
plain_in None = []
plain_in (Some t) = t.2

module _ (s t : Scheme) (law : IsLawful s) (law' : IsLawful t) (alike : OpensAlike s t) (value : List ℕ) (z z' : End) (ok : is_role z.role ≡ true) (ok' : is_role z'.role ≡ true) (f : IsFormed z.keyring) (f' : IsFormed z'.keyring) (v16 : IsBytes16 value) {mine theirs : History} {n n' : ℕ} {held held' : List ℕ} (L : Ledger s value z mine n held) (L' : Ledger t value z' theirs n' held') (only : GetsOnlyCopies (encs_sent mine ++ encs_sent theirs) mine) where
  -- a copy of one's own record is not taken in
  not_own : (who k : ℕ) (payload x : List ℕ) → unseal s value z payload ≡ Some (who, k, x) → eqb who z.role ≡ false → Sealed s value z (sent_of s value z L) (0x14 ∷ payload) → ⊥
  not_own who k payload x opens theirs' r =
      let e = r.is in
      let p : payload ≡ seal s value z r.num r.plain = cc in
      let fit = (sent_good s value z L r.num r.plain r.has).fit in
      let back = law.opens z.keyring z.keyring value r.plain z.serial z.serial z.role r.num f f v16 ok fit in
      let same : Some (who, k, x) ≡ Some (z.role, r.num, r.plain) = sym opens ∙ ap (unseal s value z) p ∙ back in
      clash (eqb who z.role) theirs' (eq-eqb who z.role (ap who_in same))

  -- a copy of the other end's record is the record that was sent there
  sent_there : (who k : ℕ) (payload x : List ℕ) → unseal s value z payload ≡ Some (who, k, x) → Sealed t value z' (sent_of t value z' L') (0x14 ∷ payload) → Has k x (sent_of t value z' L')
  sent_there who k payload x opens r =
      let e = r.is in
      let p : payload ≡ seal t value z' r.num r.plain = cc in
      let fit = (sent_good t value z' L' r.num r.plain r.has).fit in
      let back = law'.opens z'.keyring z.keyring value r.plain z'.serial z.serial z'.role r.num f' f v16 ok' fit in
      let bytes : IsBytes payload = subst (λ y. IsBytes y) (sym p) (law'.seal_bytes z'.keyring value r.plain z'.serial z'.role r.num f' v16 ok' fit) in
      let same : Some (who, k, x) ≡ Some (z'.role, r.num, r.plain) = sym opens ∙ alike.opens z.keyring value payload z.serial f v16 bytes ∙ ap (unseal t value z) p ∙ back in
      subst (λ y. Has y x (sent_of t value z' L')) (sym (ap num_in same)) (subst (λ y. Has r.num y (sent_of t value z' L')) (sym (ap plain_in same)) r.has)

  received_sent : Sub (received_of s value z L) (sent_of t value z' L')
  received_sent k x h =
      let c = received_copied s value z L (encs_sent mine ++ encs_sent theirs) only k x h in
      elim (in_append (0x14 ∷ c.payload) (encs_sent mine) (encs_sent theirs) c.copy) [
        | inl i ↦ absurd (not_own c.who k c.payload x c.opens c.theirs (enc_sealed s value z L (0x14 ∷ c.payload) i))
        | inr i ↦ sent_there c.who k c.payload x c.opens (enc_sealed t value z' L' (0x14 ∷ c.payload) i)
      ]

  pub in_order : IsSubsequence (data_handed mine) (data_sent theirs)
  in_order =
      let all : IsSubsequence (to_data (received_of s value z L)) (to_data (sent_of t value z' L')) = sub_subsequence (n + 1) (n' + 1) _ _ (received_desc s value z L) (sent_desc t value z' L') received_sent in
      let front = subsequence_front all (data_handed mine) (waiting held) (received_is s value z L) in
      subst (λ y. IsSubsequence (data_handed mine) y) (sym (sent_is t value z' L')) front

  module _ (apart : IsDisjoint (told s value z (encs_sent mine)) (told t value z' (encs_sent theirs))) where
    closed : (k : ℕ) (x : List ℕ) → Has k x (sent_of t value z' L') → k ≤ n → Has k x (received_of s value z L)
    closed k x h le =
        let g = sent_good t value z' L' k x h in
        let lo : s.first < k = (let a = g.above in let same = alike.firsts in omega arith) in
        elim (complete s value z L k lo le) [
          | inl (y, i) ↦ absurd (apart k (number_told s value z law ok f v16 L k y i) (number_told t value z' law' ok' f' v16 L' k x h))
          | inr (y, i) ↦ subst (λ q. Has k q (received_of s value z L)) (has_same (n' + 1) k y x _ (sent_desc t value z' L') (received_sent k y i) h) i
        ]

    pub no_gap : IsPrefix (data_handed mine) (data_sent theirs)
    no_gap =
        let b = sub_begins n (n' + 1) _ _ (received_desc s value z L) (sent_desc t value z' L') received_sent closed in
        (waiting held ++ b.0, sent_is t value z' L' ∙ b.1 ∙ ap (λ y. y ++ b.0) (received_is s value z L) ∙ append_assoc (data_handed mine) (waiting held) b.0)
