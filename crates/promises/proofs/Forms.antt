-- Well-formed suites with no key, with a shared secret, and with a link key too.
use Rattle.std.proofs.Common.{◌≡◌, ℕ, ◌+◌, ◌^◌, ◌<◌, ◌≤◌, Bool, true, false, cond, eqb, List, [], ◌∷◌, Some, Ok, Err, Result, refl, arith}
use Rattle.std.proofs.lemmas.Bool.{ne_eqb, eq-eqb, eqb-false, or_from}
use Rattle.suite.specs.declared.types.KeyKind.TheVariants.{SharedSecret, LinkKey}
use Rattle.suite.specs.Meanings.{Key, Meaning, IsBytes, IsBytes16, IsWellFormed, keyring_of, value_in}
use Rattle.suite.specs.Schemes.{Scheme, IsLawful, is_role}
use Rattle.suite.specs.Calls.{is_spent}

-- keys by serial and value

abbrev pub secret_key : ℕ → List ℕ → Key
secret_key n v = record { serial = n; kind = SharedSecret; value = v }

abbrev pub link_key : ℕ → List ℕ → Key
link_key n v = record { serial = n; kind = LinkKey; value = v }

-- root and serials of a well-formed suite
pub record Base (root : List ℕ) (last newest : ℕ) : Type 0 where
  pub root16 : IsBytes16 root
  pub below : newest ≤ last
  pub word : last < 2 ^ 32

-- with a shared secret
pub record One (root : List ℕ) (last n : ℕ) (v : List ℕ) : Type 0 where
  pub base : Base root last n
  pub pos : 0 < n
  pub value : IsBytes16 v

-- with a link key too
pub record Two (root : List ℕ) (last n : ℕ) (v w : List ℕ) : Type 0 where
  pub base : Base root last (n + 1)
  pub pos : 0 < n
  pub value : IsBytes16 v
  pub link : IsBytes16 w

-- suites with no key, with a shared secret, and with a link key made next

abbrev pub none_live : List ℕ → ℕ → ℕ → Meaning
none_live root last n = record { root = root; last = last; newest = n; live = [] }

abbrev pub one_live : List ℕ → ℕ → ℕ → List ℕ → Meaning
one_live root last n v = record { root = root; last = last; newest = n; live = secret_key n v ∷ [] }

abbrev pub two_live : List ℕ → ℕ → ℕ → List ℕ → List ℕ → Meaning
two_live root last n v w = record { root = root; last = last; newest = n + 1; live = secret_key n v ∷ link_key (n + 1) w ∷ [] }

pub base_of : {m : Meaning} → IsWellFormed m → Base m.root m.last m.newest
base_of f = record { root16 = f.keyring.root; below = f.newest; word = f.last }

pub none_formed : (root : List ℕ) (last n : ℕ) → Base root last n → IsWellFormed (none_live root last n)
none_formed root last n b = record { keyring = record { root = b.root16; values = tt; serials = tt; apart = tt }; newest = b.below; last = b.word }

pub one_formed : (root : List ℕ) (last n : ℕ) (v : List ℕ) → One root last n v → IsWellFormed (one_live root last n v)
one_formed root last n v o =
    let pos : 1 ≤ n = o.pos in
    let self : n ≤ n = omega arith in
    record { keyring = record { root = o.base.root16; values = (o.value, tt); serials = ((pos, self), tt); apart = (refl, tt) }; newest = o.base.below; last = o.base.word }

-- two serials in a row differ
next_differs : (n : ℕ) → eqb (n + 1) n ≡ false
next_differs n = ne_eqb (n + 1) n (λ e. omega arith)

pub two_formed : (root : List ℕ) (last n : ℕ) (v w : List ℕ) → Two root last n v w → IsWellFormed (two_live root last n v w)
two_formed root last n v w o =
    let pos : 1 ≤ n = o.pos in
    let le : n ≤ n + 1 = omega arith in
    let pos' : 1 ≤ n + 1 = omega arith in
    let self : n + 1 ≤ n + 1 = omega arith in
    record {
      keyring = record { root = o.base.root16; values = (o.value, (o.link, tt)); serials = ((pos, le), ((pos', self), tt)); apart = (or_from (eqb (n + 1) n) false (next_differs n) refl, (refl, tt)) };
      newest = o.base.below;
      last = o.base.word;
    }

-- an answer under a test is given where the test fails
pub passes : {A E : Type 0} (b : Bool) (e : E) (x : Result A E) (v : A) → cond b (Err e) x ≡ Ok v → (b ≡ false) × (x ≡ Ok v)
passes true e x v q = absurd (cc)
passes false e x v q = (refl, q)

more_left : (n last : ℕ) → n ≤ last → eqb n last ≡ false → n + 1 ≤ last
more_left n last h e = let d : n ≡ last → ⊥ = eqb-false n last e in omega arith

-- an agreement leaves a suite with a shared secret
pub made_one : (s : Scheme) → IsLawful s → (root : List ℕ) (last n : ℕ) (seed offer : List ℕ) (role : ℕ) → Base root last n → IsBytes16 seed → IsBytes offer → is_role role ≡ true
    → let k = keyring_of (none_live root last n) in
    s.fit_of k offer ≡ true → is_spent (none_live root last n) ≡ false → One root last (n + 1) (s.secret_of k role seed offer)
made_one s law root last n seed offer role base sb ob ok fit free =
    let f = (none_formed root last n base).keyring in
    let left : n + 1 ≤ last = more_left n last base.below free in
    let pos : 0 < n + 1 = omega arith in
    record { base = record { root16 = base.root16; below = left; word = base.word }; pos = pos; value = law.secret_is (keyring_of (none_live root last n)) seed offer role f sb ob ok fit }

-- the shared secret of a suite that has no other key, or a link key too
pub secret_there : (n : ℕ) (v : List ℕ) (ks : List Key) → value_in (secret_key n v ∷ ks) SharedSecret n ≡ Some v
secret_there n v ks = let self = eq-eqb n n refl in rw self

pub link_there : (n : ℕ) (v w : List ℕ) → value_in (secret_key n v ∷ link_key (n + 1) w ∷ []) LinkKey (n + 1) ≡ Some w
link_there n v w =
    let apart : eqb n (n + 1) ≡ false = ne_eqb n (n + 1) (λ x. omega arith) in
    let self = eq-eqb (n + 1) (n + 1) refl in
    rw (apart, self)

-- a derivation leaves a suite with a link key too
pub made_two : (s : Scheme) → IsLawful s → (root : List ℕ) (last n : ℕ) (v : List ℕ) → One root last n v → is_spent (one_live root last n v) ≡ false
    → Two root last n v (s.link_of (keyring_of (one_live root last n v)) n v)
made_two s law root last n v o free =
    let f = (one_formed root last n v o).keyring in
    let left : n + 1 ≤ last = more_left n last o.base.below free in
    record { base = record { root16 = o.base.root16; below = left; word = o.base.word }; pos = o.pos; value = o.value; link = law.link_is (keyring_of (one_live root last n v)) v n f o.value }
