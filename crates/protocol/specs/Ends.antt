-- How a call ends, whatever it is given: refused with nothing altered, or answered; with a fault, by an ERROR frame that tells it.
use Rattle.std.specs.Prelude.{◌≡◌, ℕ, false, List, [], length, Some, Ok, Err}
use Rattle.frame.specs.declared.types.Service.{Service}
use Rattle.frame.specs.Frames.{error}
use Rattle.suite.specs.Meanings.{IsFormed, keyring_of, is_live}
use Rattle.suite.specs.Schemes.{Scheme}
use Rattle.protocol.specs.declared.states.State.TheVariants.{Idle}
use Rattle.protocol.specs.declared.outcomes.Confirmation.TheVariants as conf
use Rattle.protocol.specs.declared.outcomes.Outcome.{Outcome}
use Rattle.protocol.specs.declared.refusals.Refusal.{Refusal}
use Rattle.protocol.specs.declared.faults.Fault.{Fault}
use Rattle.protocol.specs.Numbers.{cause_code}
use Rattle.protocol.specs.Models.{Model, no_seed, session_keys}
use Rattle.protocol.specs.Steps.{frame_bytes}
use Rattle.protocol.specs.Calls.{Call, CallEffect, error_payload, call_effect}

-- no key is named, and nothing of a session is left
pub record IsCleared (m : Model) : Type 0 where
  pub seed : m.seed ≡ no_seed
  pub number : m.number ≡ 0
  pub held : m.held ≡ []
  pub secret : m.secret ≡ 0
  pub link : m.link ≡ 0

-- the reply to a fault: an ERROR of some service, whose payload is the fault's letter, its digit and 00
abbrev pub TellsFault : Fault → List ℕ → Type 0
TellsFault f reply =
    (service : Service) × (reply ≡ frame_bytes service (error (error_payload (cause_code f.machine.cause))))

-- a fault ends the session: the keys that it had are reported destroyed, and are live no more
pub record EndsByFault (m : Model) (t : CallEffect) (o : Outcome) (f : Fault) : Type 0 where
  pub confirmation : o.confirmation ≡ conf.Error
  pub idle : t.model.state ≡ Idle
  pub cleared : IsCleared t.model
  pub destroyed : o.destroyed ≡ session_keys m
  pub gone : IsFormed (keyring_of m.means) →
      (is_live t.model.means.live m.link ≡ false) × (is_live t.model.means.live m.secret ≡ false)
  pub reply : TellsFault f t.reply

-- how one call ends
pub record CallEnds (m : Model) (t : CallEffect) : Type 0 where
  pub refused : (r : Refusal) → t.answer ≡ Err r → (t.model ≡ m) × (t.reply ≡ [])
  pub length : (o : Outcome) → t.answer ≡ Ok o → o.length ≡ length t.reply
  pub faulty : (o : Outcome) (f : Fault) → t.answer ≡ Ok o → o.fault ≡ Some f → EndsByFault m t o f

-- whatever an entity is, and whatever it is called with
abbrev pub EveryCallEnds : Scheme → Type 0
EveryCallEnds s = (m : Model) (c : Call) → CallEnds m (call_effect s m c)
