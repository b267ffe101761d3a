-- Looking up the value of a live key: what is found, and what a new key changes.
use Rattle.std.proofs.Common.{◌≡◌, ℕ, ◌<◌, ◌≤◌, Bool, true, false, cond, ◌&&◌, eqb, List, [], ◌∷◌, ◌++◌, Some, Option, refl, ap, subst, arith}
use Rattle.std.specs.Prelude.{unwrap_or}
use Rattle.std.specs.List.{AllByRecursion}
use Rattle.std.proofs.lemmas.Bool.{ne_eqb, eq-eqb, or_from}
use Rattle.std.proofs.lemmas.Grind.{common_steps}
use Rattle.suite.specs.declared.types.KeyKind.{KeyKind}
use Rattle.suite.specs.declared.types.KeyKind.TheVariants.{SharedSecret, LinkKey}
use Rattle.suite.specs.Meanings.{IsBytes16, Key, Keyring, IsFormed, HasDistinctSerials, is_same_kind, value_in, value_of, is_live, keys_without}
use Rattle.suite.specs.Schemes.{Scheme, IsOneKind}

-- of two values, the one that a test picks
picked : (P : List ℕ → Type 0) (b : Bool) (one v : List ℕ) (rest : Option (List ℕ)) → P one → (rest ≡ Some v → P v) → cond b (Some one) rest ≡ Some v → P v
picked P true one v rest h k e = let same : one ≡ v = cc in subst P same h
picked P false one v rest h k e = k e

-- what holds of every live key's value holds of a value that is found
pub found : (P : List ℕ → Type 0) (ks : List Key) (kind : KeyKind) (n : ℕ) (v : List ℕ) → AllByRecursion (λ k. P k.value) ks → value_in ks kind n ≡ Some v → P v
found P [] kind n v all e = absurd (cc)
found P (k ∷ ks) kind n v all e = picked P (eqb k.serial n && is_same_kind k.kind kind) k.value v (value_in ks kind n) all.0 (found P ks kind n v all.1) e

-- the value of a live key has sixteen bytes
pub value_formed : (k : Keyring) (kind : KeyKind) (n : ℕ) (v : List ℕ) → IsFormed k → value_in k.live kind n ≡ Some v → IsBytes16 v
value_formed k kind n v f e = found IsBytes16 k.live kind n v f.values e

pub value_is : (ks : List Key) (kind : KeyKind) (n : ℕ) (v : List ℕ) → value_in ks kind n ≡ Some v → value_of ks kind n ≡ v
value_is ks kind n v e = ap (λ o. unwrap_or o []) e

is_same_kind-refl : (kind : KeyKind) → is_same_kind kind kind ≡ true
is_same_kind-refl SharedSecret = refl
is_same_kind-refl LinkKey = refl

-- no live key has a serial above the newest
pub above_newest : (ks : List Key) (newest n : ℕ) → AllByRecursion (λ j. (1 ≤ j.serial) × (j.serial ≤ newest)) ks → newest < n → is_live ks n ≡ false
above_newest [] newest n all h = refl
above_newest (k ∷ ks) newest n all h =
    let low : k.serial ≤ newest = all.0.1 in
    or_from (eqb k.serial n) (is_live ks n) (ne_eqb k.serial n (λ e. omega arith)) (above_newest ks newest n all.1 h)

-- a key that is added under a serial that no live key has is found, and those that were found stay so
pub value_added : (ks : List Key) (k : Key) → is_live ks k.serial ≡ false → value_in (ks ++ (k ∷ [])) k.kind k.serial ≡ Some k.value
value_added [] k h = let self = eq-eqb k.serial k.serial refl in let kind = is_same_kind-refl k.kind in rw (self, kind)
value_added (j ∷ ks) k h = grind (arith, common_steps, value_added ks k)

pub value_stays : (ks : List Key) (k : Key) (kind : KeyKind) (n : ℕ) (v : List ℕ) → value_in ks kind n ≡ Some v → value_in (ks ++ (k ∷ [])) kind n ≡ Some v
value_stays [] k kind n v e = absurd (cc)
value_stays (j ∷ ks) k kind n v e = grind (arith, common_steps, value_stays ks k kind n v)

-- After a key is taken away: it is not live, none becomes live, and no two have one serial.

pub taken_away : (ks : List Key) (n : ℕ) → HasDistinctSerials ks → is_live (keys_without ks n) n ≡ false
taken_away [] n a = refl
taken_away (k ∷ ks) n a = grind (arith, common_steps, taken_away ks n)

pub live-keys_without : (ks : List Key) (d n : ℕ) → is_live ks n ≡ false → is_live (keys_without ks d) n ≡ false
live-keys_without [] d n h = refl
live-keys_without (k ∷ ks) d n h = grind (arith, common_steps, live-keys_without ks d n)

pub apart-keys_without : (ks : List Key) (d : ℕ) → HasDistinctSerials ks → HasDistinctSerials (keys_without ks d)
apart-keys_without [] d a = tt
apart-keys_without (k ∷ ks) d a = grind (arith, common_steps, apart-keys_without ks d, live-keys_without ks d k.serial)

-- no key has the serial 0
pub none_zero : (ks : List Key) (newest : ℕ) → AllByRecursion (λ j. (1 ≤ j.serial) × (j.serial ≤ newest)) ks → is_live ks 0 ≡ false
none_zero [] newest all = refl
none_zero (k ∷ ks) newest all =
    let low : 1 ≤ k.serial = all.0.0 in
    or_from (eqb k.serial 0) (is_live ks 0) (ne_eqb k.serial 0 (λ e. omega arith)) (none_zero ks newest all.1)

-- being of one kind goes both ways
pub one_kind-sym : (s t : Scheme) → IsOneKind s t → IsOneKind t s
one_kind-sym s t o = record {
  firsts = let e = o.firsts in cc;
  seals = λ k value plain serial role n f v ok can can'. (let e = o.seals k value plain serial role n f v ok can' can in cc);
  opens = λ k value payload serial f v b. (let e = o.opens k value payload serial f v b in cc);
}
