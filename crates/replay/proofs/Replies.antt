-- What a call answers tells how much it wrote.
use Rattle.std.proofs.Common.{◌≡◌, ℕ, List, take, Ok, Err, Result, sym, ap, ◌∙◌}
use Rattle.buffers.specs.Buffers.{with_front}
use Rattle.buffers.proofs.FrontLaws.{take-over}
use Rattle.protocol.specs.declared.outcomes.Outcome.{Outcome}
use Rattle.protocol.specs.declared.refusals.Refusal.{Refusal}
use Rattle.protocol.specs.Models.{Model}
use Rattle.protocol.specs.Calls.{CallEffect}
use Rattle.protocol.specs.Ends.{CallEnds}
use Rattle.replay.specs.Entries.{bytes_of_answer}

pub reply_told : (m : Model) (t : CallEffect) (answer : Result Outcome Refusal) (buffer old : List ℕ) → CallEnds m t → answer ≡ t.answer → buffer ≡ with_front t.reply old → bytes_of_answer answer buffer ≡ t.reply
reply_told m t (Ok o) buffer old ends e f = ap (take o.length) f ∙ take-over t.reply old o.length (ends.length o (sym e))
reply_told m t (Err r) buffer old ends e f = sym (ends.refused r (sym e)).1
