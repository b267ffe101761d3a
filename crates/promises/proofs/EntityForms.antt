-- What an entity may be between two calls, and what one call may do.
use Rattle.std.proofs.Common.{◌≡◌, ℕ, ◌+◌, ◌≤◌, Bool, true, false, List, [], ◌∷◌, ◌++◌, length, Some, Result}
use Rattle.frame.specs.declared.types.Service.{Service}
use Rattle.frame.specs.declared.types.Service.TheVariants.{Sch}
use Rattle.suite.specs.declared.types.Role.{Role}
use Rattle.suite.specs.declared.types.KeyKind.TheVariants.{LinkKey}
use Rattle.suite.specs.Numbers.{role_byte}
use Rattle.suite.specs.Meanings.{Meaning, keyring_of, IsBytes16, value_in}
use Rattle.suite.specs.Schemes.{Scheme}
use Rattle.protocol.specs.declared.states.State.{State}
use Rattle.protocol.specs.declared.states.State.TheVariants.{Idle, Select, ConfirmedSch}
use Rattle.protocol.specs.declared.refusals.Refusal.{Refusal}
use Rattle.protocol.specs.declared.outcomes.Outcome.{Outcome}
use Rattle.protocol.specs.Numbers.{state_mark}
use Rattle.protocol.specs.Models.{Model}
use Rattle.protocol.specs.Calls.{CallEffect, Call, is_in_state}
use Rattle.histories.specs.Histories.{entry_of, serials_made_in, serials_destroyed_in, session_started, data_sent_in, frames_received_in, is_member}
use Rattle.promises.specs.Promises.{live_serials}
use Rattle.promises.proofs.Books.{Clears}
use Rattle.promises.proofs.Ledgers.{End, Act}
use Rattle.promises.proofs.Forms.{Base, One, Two, none_live, one_live, two_live}

-- an entity outside a link session
abbrev pub unlinked : Meaning → State → Service → Role → List ℕ → ℕ → ℕ → Model
unlinked means state service role seed number secret = record { means = means; state = state; service = service; role = role; seed = seed; number = number; held = []; secret = secret; link = 0 }

-- an entity in a link session; its shared secret has the serial n, its link key the next
abbrev pub in_link : Meaning → Role → List ℕ → ℕ → List ℕ → ℕ → Model
in_link means role seed number held n = record { means = means; state = ConfirmedSch; service = Sch; role = role; seed = seed; number = number; held = held; secret = n; link = n + 1 }

-- a state with a shared secret and no link key: Established or Confirmed_SSE
pub record SecretOnly (state : State) : Type 0 where
  pub low : 2 ≤ state_mark state
  pub high : state_mark state ≤ 4

-- an entity between two calls
pub data HasForm (s : Scheme) : Model → Type 0 where
  at_idle : {root : List ℕ} {last newest : ℕ} {service : Service} {role : Role} {seed : List ℕ} {number : ℕ} → Base root last newest → HasForm s (unlinked (none_live root last newest) Idle service role seed number 0)
  at_select : {root : List ℕ} {last newest : ℕ} {service : Service} {role : Role} {seed : List ℕ} {number : ℕ} → Base root last newest → IsBytes16 seed → HasForm s (unlinked (none_live root last newest) Select service role seed number 0)
  at_secret : {root : List ℕ} {last n : ℕ} {v : List ℕ} {service : Service} {role : Role} {seed : List ℕ} {number : ℕ} (state : State) → SecretOnly state → One root last n v → HasForm s (unlinked (one_live root last n v) state service role seed number n)
  at_sch : {root : List ℕ} {last n : ℕ} {v w : List ℕ} {role : Role} {seed : List ℕ} {number : ℕ} {held : List ℕ} → Two root last n v w → s.first ≤ number → number ≤ s.final → HasForm s (in_link (two_live root last n v w) role seed number held n)

-- it is in Confirmed_SCH, and so has a link key
abbrev pub in_sch : Model → Bool
in_sch m = is_in_state m ConfirmedSch

-- its end of the link session
abbrev pub end_of : Model → End
end_of m = record { keyring = keyring_of m.means; serial = m.link; role = role_byte m.role }

-- an answer that reports no key and starts no session
pub record Silent (a : Result Outcome Refusal) : Type 0 where
  pub makes : serials_made_in a ≡ []
  pub destroys : serials_destroyed_in a ≡ []
  pub begins : session_started a ≡ 0

-- an answer that reports one new key, and the suite after it
pub record MakesNext (m m' : Meaning) (a : Result Outcome Refusal) : Type 0 where
  pub newest : m'.newest ≡ m.newest + 1
  pub live : live_serials m' ≡ live_serials m ++ ((m.newest + 1) ∷ [])
  pub makes : serials_made_in a ≡ (m.newest + 1) ∷ []
  pub destroys : serials_destroyed_in a ≡ []

-- what one call does to an entity
pub data Did (s : Scheme) (c : Call) (m : Model) (t : CallEffect) : Type 0 where
  -- outside a session, no key touched
  outside : HasForm s t.model → t.model.means ≡ m.means → in_sch m ≡ false → in_sch t.model ≡ false → Silent t.answer → Did s c m t
  -- in a session, no key touched
  inside : HasForm s t.model → t.model.means ≡ m.means → in_sch m ≡ true → in_sch t.model ≡ true → t.model.link ≡ m.link → end_of t.model ≡ end_of m → Silent t.answer
      → t.model.number ≡ (m.number + length (data_sent_in (entry_of c t))) + length (frames_received_in (entry_of c t))
      → ((w : List ℕ) → value_in m.means.live LinkKey m.link ≡ Some w → Act s w (end_of m) (entry_of c t) m.number m.held t.model.number t.model.held)
      → Did s c m t
  -- a shared secret made
  agrees : HasForm s t.model → in_sch m ≡ false → in_sch t.model ≡ false → MakesNext m.means t.model.means t.answer → session_started t.answer ≡ 0 → Did s c m t
  -- a link key made: a session starts
  links : HasForm s t.model → in_sch m ≡ false → in_sch t.model ≡ true → MakesNext m.means t.model.means t.answer → session_started t.answer ≡ m.means.newest + 1 → t.model.link ≡ m.means.newest + 1 → t.model.number ≡ s.first → t.model.held ≡ [] → Did s c m t
  -- Idle entered, all keys destroyed
  ends : HasForm s t.model → in_sch t.model ≡ false → t.model.means.newest ≡ m.means.newest → live_serials t.model.means ≡ [] → serials_made_in t.answer ≡ [] → session_started t.answer ≡ 0 → Clears (live_serials m.means) (serials_destroyed_in t.answer) → (in_sch m ≡ true → is_member m.link (serials_destroyed_in t.answer) ≡ true) → Did s c m t
