-- What an entity is at one moment.
use Rattle.std.specs.Prelude.{◌≡◌, ℕ, Bool, true, false, cond, List, [], replicate, is_some, ◌==◌}
use Rattle.frame.specs.declared.types.Service.{Service}
use Rattle.frame.specs.declared.types.Service.TheVariants.{Sse}
use Rattle.suite.specs.declared.types.Role.{Role}
use Rattle.suite.specs.declared.types.Role.TheVariants.{Sender}
use Rattle.suite.specs.declared.types.KeyKind.TheVariants.{SharedSecret, LinkKey}
use Rattle.suite.specs.Meanings.{Meaning, value_in, value_of}
use Rattle.suite.specs.Calls.{after_destroy}
use Rattle.protocol.specs.declared.states.State.{State}
use Rattle.protocol.specs.declared.states.State.TheVariants.{Idle, Select, EstablishedSender, EstablishedRecipient, ConfirmedSse, ConfirmedSch}
use Rattle.protocol.specs.declared.outcomes.Destroyed.{Destroyed}

-- secret and link are the serials of its shared secret and of its link key, 0 for none; no data is held where held is empty
pub record Model : Type 0 where
  -- what its suite means
  pub means : Meaning
  pub state : State
  -- the session's; in Idle, that of the last session
  pub service : Service
  pub role : Role
  -- kept from the invocation on, zeros in Idle
  pub seed : List ℕ
  -- the number of the newest record of the session
  pub number : ℕ
  pub held : List ℕ
  pub secret : ℕ
  pub link : ℕ

-- what a call with a frame brings beside it: the seed for an agreement
pub record Ancillary : Type 0 where
  pub seed : List ℕ

-- the values of its two keys
abbrev pub secret_value : Model → List ℕ
secret_value m = value_of m.means.live SharedSecret m.secret

-- no bytes where there is no such key
abbrev pub link_value : Model → List ℕ
link_value m = value_of m.means.live LinkKey m.link

-- the states from the agreement on
abbrev pub has_secret : State → Bool
has_secret Idle = false
has_secret Select = false
has_secret EstablishedSender = true
has_secret EstablishedRecipient = true
has_secret ConfirmedSse = true
has_secret ConfirmedSch = true

-- the state in which records are sent and received
abbrev pub has_link : State → Bool
has_link Idle = false
has_link Select = false
has_link EstablishedSender = false
has_link EstablishedRecipient = false
has_link ConfirmedSse = false
has_link ConfirmedSch = true

-- the keys that an entity works with in its state, by their serials, are live in its suite
pub record HasLiveKeys (means : Meaning) (state : State) (secret link : ℕ) : Type 0 where
  pub secret_live : has_secret state ≡ true → is_some (value_in means.live SharedSecret secret) ≡ true
  pub link_live : has_link state ≡ true → is_some (value_in means.live LinkKey link) ≡ true

-- sixteen zeros
abbrev pub no_seed : List ℕ
no_seed = replicate 16 0

-- a new entity over a suite
abbrev pub new_model : Meaning → Model
new_model means = record {
  means = means;
  state = Idle;
  service = Sse;
  role = Sender;
  seed = no_seed;
  number = 0;
  held = [];
  secret = 0;
  link = 0;
}

-- the suite without one key; nothing changes for the serial 0, which no key has
abbrev pub without_key : Meaning → ℕ → Meaning
without_key means key = cond (key == 0) means (after_destroy means key)

-- Idle is entered: the link key goes, then the shared secret, and seed, number and held data are zeros.
abbrev pub idle_model : Model → Model
idle_model m = record {
  means = without_key (without_key m.means m.link) m.secret;
  state = Idle;
  service = m.service;
  role = m.role;
  seed = no_seed;
  number = 0;
  held = [];
  secret = 0;
  link = 0;
}

-- the keys that go when Idle is entered
abbrev pub session_keys : Model → Destroyed
session_keys m = record { link = m.link; secret = m.secret }
