use Rattle.std.proofs.Common.{ℕ, ◌<◌, ◌≤◌, slice_index_or}
use Rattle.replay.specs.declared.logged.LoggedCall.{LoggedCall}
use Rattle.replay.proofs.play.longest.Given as goal

abbrev pub invariant-loop-logged : goal.invariant-loop-logged
invariant-loop-logged l = (k : ℕ) (d : LoggedCall) → k < l.logged-index → (slice_index_or l.log k d).room ≤ l.most
