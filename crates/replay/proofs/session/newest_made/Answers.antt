use Rattle.std.proofs.Common.{◌∙◌}
use Rattle.std.proofs.lemmas.Bool.{ne_eqb}
use Rattle.replay.proofs.Readers.{made_now}
use Rattle.replay.proofs.session.newest_made.Goals as goal

pub returns-in-Ok : goal.returns-in-Ok
returns-in-Ok c h e same newest = made_now h e c.in-Ok.outcome (same ∙ c.in-Ok.is) (ne_eqb _ _ c.if-outcome-ne0.true)
