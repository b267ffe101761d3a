-- The link key that was made is live, and the shared secret still is.
use Rattle.std.proofs.Common.{rules}
use Rattle.entity.proofs.KeysKept.{derived_live}
use Rattle.protocol.specs.Steps.{derivation}
use Rattle.entity.proofs.entity.Entity.confirm.Goals as goal

pub invariant_of-self-in-Sch : goal.invariant_of-self-in-Sch
invariant_of-self-in-Sch g c =
    let e = c.args.self.now in
    let m = g.S.HasMeaning.meaning e.suite in
    record {
      long = e.long;
      bytes = e.bytes;
      keys = derived_live m (g.S.HasMeaning.meaning c.derive.new.suite) (derivation g.S.Suite.scheme m e.secret) c.in_ok-self-in-Sch.field-0 e.secret (g.met.S.Suite.formed e.suite) (e.keys.secret_live c.requires) (search rules) c.derive.ensures.after;
    }
