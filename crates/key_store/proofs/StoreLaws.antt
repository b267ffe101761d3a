-- What a suite means that keeps its keys in a store is well formed.
use Rattle.std.proofs.Common.{◌≡◌, ℕ, ◌<◌, ◌≤◌, true, false, eqb, List, ◌++◌, Some, None, Option, refl, arith, lit<}
use Rattle.std.specs.List.{AllByRecursion}
use Rattle.std.proofs.ByRecursion.{All-append}
use Rattle.std.proofs.lemmas.Bool.{eq-eqb, ne_eqb, or_left, or_from}
use Rattle.suite.specs.Meanings.{IsBytes16, IsWellFormed, HasDistinctSerials, is_live}
use Rattle.suite.proofs.ByteLaws.{bytes16_from}
use Rattle.key_store.specs.declared.place.Label.{Label}
use Rattle.key_store.specs.declared.place.Place.{Place}
use Rattle.key_store.specs.declared.store.KeyStore.{KeyStore}
use Rattle.key_store.specs.Places.{labelled_key, key_in}
use Rattle.key_store.specs.Stores.{meaning_of_store}

-- the serial that a label names is live
own_serial : (l : Label) (value : List ℕ) → is_live (labelled_key (Some l) value) l.serial ≡ true
own_serial l value = or_left (eqb l.serial l.serial) false (eq-eqb l.serial l.serial refl)

-- a fact of the value
values_of : (label : Option Label) (value : List ℕ) → IsBytes16 value → AllByRecursion (λ k. IsBytes16 k.value) (labelled_key label value)
values_of None value h = tt
values_of (Some l) value h = (h, tt)

-- a fact of all live serials
serials_of : (P : ℕ → Type 0) (label : Option Label) (value : List ℕ) → ((s : ℕ) → is_live (labelled_key label value) s ≡ true → P s) → AllByRecursion (λ k. P k.serial) (labelled_key label value)
serials_of P None value h = tt
serials_of P (Some l) value h = (h l.serial (own_serial l value), tt)

-- two keys, the older first, are apart
apart_from : (a b : Option Label) (v w : List ℕ) → ((s t : ℕ) → is_live (labelled_key a v) s ≡ true → is_live (labelled_key b w) t ≡ true → s < t) → HasDistinctSerials (labelled_key a v ++ labelled_key b w)
apart_from None None v w older = tt
apart_from None (Some l) v w older = (refl, tt)
apart_from (Some k) None v w older = (refl, tt)
apart_from (Some k) (Some l) v w older =
    let low : k.serial < l.serial = older k.serial l.serial (own_serial k v) (own_serial l w) in
    (or_from (eqb l.serial k.serial) false (ne_eqb l.serial k.serial (λ e. omega arith)) refl, (refl, tt))

-- the value in a place has sixteen bytes
value_of : (p : Place) → AllByRecursion (λ k. IsBytes16 k.value) (key_in p)
value_of p = values_of p.label p.value (bytes16_from p.value p.long p.bytes)

-- what every suite owes
pub kept_formed : (root : List ℕ) (s : KeyStore) → IsBytes16 root → IsWellFormed (meaning_of_store root s)
kept_formed root s h =
    let P : ℕ → Type 0 = λ n. (1 ≤ n) × (n ≤ s.newest) in
    let a = s.first in
    let b = s.second in
    record {
      keyring = record {
        root = h;
        values = All-append (λ k. IsBytes16 k.value) (key_in a) (key_in b) (value_of a) (value_of b);
        serials = All-append (λ k. P k.serial) (key_in a) (key_in b) (serials_of P a.label a.value s.firsts) (serials_of P b.label b.value s.seconds);
        apart = apart_from a.label b.label a.value b.value s.ordered;
      };
      newest = omega (arith, s.fits);
      last = lit< tt;
    }
