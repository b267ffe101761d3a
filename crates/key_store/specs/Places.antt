-- The keys that lie in places.
use Rattle.std.specs.Prelude.{◌≡◌, ℕ, ◌<◌, ◌≤◌, true, List, [], ◌∷◌, Some, None, Option}
use Rattle.suite.specs.Meanings.{Key, is_live}
use Rattle.key_store.specs.declared.place.Label.{Label}
use Rattle.key_store.specs.declared.place.Place.{Place}

-- the key of a label and a value; none without a label
abbrev pub labelled_key : Option Label → List ℕ → List Key
labelled_key None value = []
labelled_key (Some l) value = record { serial = l.serial; kind = l.kind; value = value } ∷ []

-- the key that lies in a place: none or one
abbrev pub key_in : Place → List Key
key_in p = labelled_key p.label p.value

-- a key in the place has a serial from 1 to the newest
abbrev pub HasSerialsTo : ℕ → Place → Type 0
HasSerialsTo newest p = (s : ℕ) → is_live (key_in p) s ≡ true → (1 ≤ s) × (s ≤ newest)

-- a key in the one place has a lower serial than one in the other
abbrev pub IsOlder : Place → Place → Type 0
IsOlder p q = (s t : ℕ) → is_live (key_in p) s ≡ true → is_live (key_in q) t ≡ true → s < t
