-- The shared secret that was made is live; a denied agreement made none.
use Rattle.std.proofs.Common.{rules}
use Rattle.entity.proofs.KeysKept.{agreed_live}
use Rattle.protocol.specs.Steps.{agreement}
use Rattle.suite.specs.declared.types.Role.TheVariants.{Recipient}
use Rattle.entity.proofs.entity.Entity.on_act_req.Goals as goal

pub returns-in_err-made : goal.returns-in_err-made
returns-in_err-made g c = record { model = search rules; answer = search rules; buffer = search rules; untouched = search rules; within = search rules; short = search rules }

pub invariant_of-self-2 : goal.invariant_of-self-2
invariant_of-self-2 g c =
    let e = c.args.self.now in
    let m = g.S.HasMeaning.meaning e.suite in
    record {
      long = e.long;
      bytes = e.bytes;
      keys = agreed_live m (g.S.HasMeaning.meaning c.agree.new.suite) (agreement g.S.Suite.scheme m c.args.seed.now c.args.offer.now Recipient) c.in_ok-made.made e.link _ (g.met.S.Suite.formed e.suite) (search rules) (search rules) c.agree.ensures.after;
    }
