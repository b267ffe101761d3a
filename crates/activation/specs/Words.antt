-- The words for a refusal.
use Rattle.std.specs.Prelude.{ℕ, List, codes}
use Rattle.activation.specs.declared.states.Refusal.{Refusal}
use Rattle.activation.specs.declared.states.Refusal.TheVariants.{NotSupported}

-- what is printed of a refusal
abbrev pub refusal_words : Refusal → List ℕ
refusal_words NotSupported = codes "one of the peers does not support NFC-SEC"
