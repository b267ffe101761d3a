-- The secret has sixteen bytes.
use Rattle.std.proofs.Common.{rules, ap}
use Rattle.protocol.specs.Models.{has_secret}
use Rattle.entity.proofs.Lengths.{secret_long}
use Rattle.entity.proofs.entity.Entity.retrieve_secret.Goals as goal

pub returns-else-out-lt16 : goal.returns-else-out-lt16
returns-else-out-lt16 g c =
    let e = c.args.self.now in
    let long = secret_long (g.S.HasMeaning.meaning e.suite) e.secret (g.met.S.Suite.formed e.suite) (e.keys.secret_live (ap has_secret c.in-ConfirmedSse.is)) in
    record { model = search rules; answer = search rules; buffer = search rules; untouched = search rules; within = search rules; short = search rules }
