-- The parts of an outcome.
use Rattle.std.specs.Prelude.{ℕ, None}
use Rattle.protocol.specs.declared.outcomes.Confirmation.{Confirmation}
use Rattle.protocol.specs.declared.outcomes.Destroyed.{Destroyed}
use Rattle.protocol.specs.declared.outcomes.Outcome.{Outcome}

-- no key is destroyed
abbrev pub no_keys : Destroyed
no_keys = record { link = 0; secret = 0 }

-- of a step that meets no fault and destroys no key
abbrev pub ongoing_outcome : Confirmation → ℕ → ℕ → Outcome
ongoing_outcome confirmation length made = record {
  confirmation = confirmation;
  length = length;
  made = made;
  destroyed = no_keys;
  fault = None;
}
