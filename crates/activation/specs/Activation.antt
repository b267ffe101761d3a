-- What the two bytes of the NFCIP-1 activation agree on.
use Rattle.std.specs.Prelude.{ℕ, ◌/◌, ◌%◌, Bool, cond, ◌&&◌, Ok, Err, Result, ◌==◌}
use Rattle.activation.specs.declared.states.Agreed.{Agreed}
use Rattle.activation.specs.declared.states.Refusal.{Refusal}
use Rattle.activation.specs.declared.states.Refusal.TheVariants.{NotSupported}
use Rattle.activation.specs.declared.states.Refused.{Refused}

-- the number of the refusal of an activation
abbrev pub refusal_number : Refusal → ℕ
refusal_number NotSupported = 11

-- SECi in the Initiator's PPi byte, SECt in the Target's PPt byte: bit 7, counted from 0, ONE where NFC-SEC is supported
abbrev pub sec_bit : ℕ → Bool
sec_bit pp = (pp / 128) % 2 == 1

-- an exchange ends agreed, with both bytes, or refused, with a number and the byte of the offer that is returned
pub data ExchangeAnswer : Type 0 where
  agreed : (own peer : ℕ) → ExchangeAnswer
  refused : (number own : ℕ) → ExchangeAnswer

-- the exchange of own byte and the peer's: agreed where both support NFC-SEC, else refused with number 11
abbrev pub exchange_answer : ℕ → ℕ → ExchangeAnswer
exchange_answer own peer = cond (sec_bit own && sec_bit peer) (agreed own peer) (refused 11 own)

-- the code's answer by its numbers
abbrev pub answer_of : Result Agreed Refused → ExchangeAnswer
answer_of (Ok a) = agreed a.offer.own a.peer
answer_of (Err r) = refused (refusal_number r.refusal) r.offer.own
