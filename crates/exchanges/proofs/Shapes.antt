-- What two entities are between the calls of an exchange.
use Rattle.std.proofs.Common.{◌≡◌, ℕ, ◌+◌, ◌^◌, ◌<◌, ◌≤◌, true, false, eqb, List, [], ◌∷◌, Some, refl, arith}
use Rattle.std.proofs.lemmas.Bool.{ne_eqb, eq-eqb, or_from}
use Rattle.frame.specs.declared.types.Service.{Service}
use Rattle.frame.specs.declared.types.Service.TheVariants.{Sch}
use Rattle.suite.specs.declared.types.Role.{Role}
use Rattle.suite.specs.declared.types.Role.TheVariants.{Sender}
use Rattle.suite.specs.declared.types.KeyKind.TheVariants.{SharedSecret, LinkKey}
use Rattle.suite.specs.Meanings.{Key, Meaning, IsBytes16, IsWellFormed, keyring_of, value_in, value_of}
use Rattle.suite.proofs.KeyLaws.{value_is, value_added}
use Rattle.suite.specs.Schemes.{IsFormedUnder}
use Rattle.protocol.specs.declared.states.State.{State}
use Rattle.protocol.specs.declared.states.State.TheVariants.{Select, ConfirmedSch}
use Rattle.exchanges.specs.Exchanges.{IsInLink}
use Rattle.protocol.specs.Models.{Model, new_model, idle_model, without_key}

-- Suites.

-- without a key
abbrev pub bare : List ℕ → ℕ → ℕ → Meaning
bare root last newest = record { root = root; last = last; newest = newest; live = [] }

-- the key of a shared secret, and of a link
abbrev pub secret_key : ℕ → List ℕ → Key
secret_key serial value = record { serial = serial; kind = SharedSecret; value = value }

abbrev pub link_key : ℕ → List ℕ → Key
link_key serial value = record { serial = serial; kind = LinkKey; value = value }

-- with a shared secret
abbrev pub agreed_suite : List ℕ → ℕ → ℕ → List ℕ → Meaning
agreed_suite root last serial value = record { root = root; last = last; newest = serial; live = secret_key serial value ∷ [] }

-- with a link key too, under the next serial
abbrev pub linked_suite : List ℕ → ℕ → ℕ → List ℕ → List ℕ → Meaning
linked_suite root last serial value link = record {
  root = root;
  last = last;
  newest = serial + 1;
  live = secret_key serial value ∷ link_key (serial + 1) link ∷ [];
}

-- what two entities that meet have in their suites
pub record Base (root : List ℕ) (last newest : ℕ) : Type 0 where
  pub root_is : IsBytes16 root
  pub below : newest ≤ last
  pub word : last < 2 ^ 32

-- a well-formed suite has it
pub base_of : {means : Meaning} → IsWellFormed means → Base means.root means.last means.newest
base_of f = record { root_is = f.keyring.root; below = f.newest; word = f.last }

-- keyrings under that root: of a suite without a key, and of one with a shared secret

pub bare_under : (root : List ℕ) (last newest : ℕ) → IsBytes16 root → IsFormedUnder root (keyring_of (bare root last newest))
bare_under root last newest root_is = record { formed = record { root = root_is; values = tt; serials = tt; apart = tt }; same = refl }

pub agreed_under : (root : List ℕ) (last serial : ℕ) (value : List ℕ) → IsBytes16 root → 0 < serial → IsBytes16 value
    → IsFormedUnder root (keyring_of (agreed_suite root last serial value))
agreed_under root last serial value root_is some v =
    let low : 1 ≤ serial = some in
    let self : serial ≤ serial = omega arith in
    record { formed = record { root = root_is; values = (v, tt); serials = ((low, self), tt); apart = (refl, tt) }; same = refl }

-- a suite with the two keys is well formed
linked_formed : (root : List ℕ) (last serial : ℕ) (value link : List ℕ) → Base root last (serial + 1) → 0 < serial
    → IsBytes16 value → IsBytes16 link → IsWellFormed (linked_suite root last serial value link)
linked_formed root last serial value link base some v l =
    let low : 1 ≤ serial = some in
    let next : 1 ≤ serial + 1 = omega arith in
    let below : serial ≤ serial + 1 = omega arith in
    let self : serial + 1 ≤ serial + 1 = omega arith in
    let differ : eqb (serial + 1) serial ≡ false = ne_eqb (serial + 1) serial (λ e. omega arith) in
    record {
      keyring = record {
        root = base.root_is;
        values = (v, (l, tt));
        serials = ((low, below), ((next, self), tt));
        apart = (or_from (eqb (serial + 1) serial) false differ refl, (refl, tt));
      };
      newest = base.below;
      last = base.word;
    }

-- the shared secret's value is found under its serial, with no other key
pub secret_is : (serial : ℕ) (value : List ℕ) → value_of (secret_key serial value ∷ []) SharedSecret serial ≡ value
secret_is serial value = value_is (secret_key serial value ∷ []) SharedSecret serial value (value_added [] (secret_key serial value) refl)

-- the link key is found under its serial
link_found : (root : List ℕ) (last serial : ℕ) (value link : List ℕ)
    → value_in (linked_suite root last serial value link).live LinkKey (serial + 1) ≡ Some link
link_found root last serial value link =
    let apart : eqb serial (serial + 1) ≡ false = ne_eqb serial (serial + 1) (λ e. omega arith) in
    value_added (secret_key serial value ∷ []) (link_key (serial + 1) link) (or_from (eqb serial (serial + 1)) false apart refl)

-- without its shared secret nothing is left
pub one_gone : (root : List ℕ) (last serial : ℕ) (value : List ℕ) → 0 < serial
    → (without_key (without_key (agreed_suite root last serial value) 0) serial).live ≡ []
one_gone root last serial value some =
    let self : eqb serial serial ≡ true = eq-eqb _ _ refl in
    let some' : eqb serial 0 ≡ false = ne_eqb serial 0 (λ e. omega arith) in
    rw (some', self)

-- nor without the two keys
pub both_gone : (root : List ℕ) (last serial : ℕ) (value link : List ℕ) → 0 < serial
    → (without_key (without_key (linked_suite root last serial value link) (serial + 1)) serial).live ≡ []
both_gone root last serial value link some =
    let apart : eqb serial (serial + 1) ≡ false = ne_eqb serial (serial + 1) (λ e. omega arith) in
    let next : eqb (serial + 1) (serial + 1) ≡ true = eq-eqb _ _ refl in
    let self : eqb serial serial ≡ true = eq-eqb _ _ refl in
    let more : eqb (serial + 1) 0 ≡ false = ne_eqb (serial + 1) 0 (λ e. omega arith) in
    let some' : eqb serial 0 ≡ false = ne_eqb serial 0 (λ e. omega arith) in
    rw (more, apart, next, some', self)

-- Entities.

-- the Sender before the shared secret
abbrev pub selecting : Meaning → Service → List ℕ → Model
selecting means service seed = record (new_model means) { state = Select; service = service; role = Sender; seed = seed }

-- with a shared secret under this serial
abbrev pub sharing : List ℕ → ℕ → ℕ → List ℕ → State → Service → Role → List ℕ → Model
sharing root last serial value state service role seed = record (new_model (agreed_suite root last serial value)) {
  state = state;
  service = service;
  role = role;
  seed = seed;
  secret = serial;
}

-- in a link session, with the link key under the next serial
abbrev pub linking : List ℕ → ℕ → ℕ → List ℕ → List ℕ → Role → List ℕ → ℕ → Model
linking root last serial value link role seed number = record (new_model (linked_suite root last serial value link)) {
  state = ConfirmedSch;
  service = Sch;
  role = role;
  seed = seed;
  number = number;
  secret = serial;
  link = serial + 1;
}

-- once Idle is entered no key is left
abbrev pub Clears : Model → Type 0
Clears m = (idle_model m).means.live ≡ []

-- so it is in a link session whose key has that value
pub linked_in : (root : List ℕ) (last serial : ℕ) (value link : List ℕ) (role : Role) (seed : List ℕ) (number : ℕ)
    → Base root last (serial + 1) → 0 < serial → IsBytes16 value → IsBytes16 link
    → IsInLink link (linking root last serial value link role seed number)
linked_in root last serial value link role seed number base some v l = record {
  formed = linked_formed root last serial value link base some v l;
  confirmed = record { state = refl; service = refl };
  none_held = refl;
  key = link_found root last serial value link;
}
