-- The rows still tell of the keys, whose serials are apart.
use Rattle.std.proofs.Common.{rules, refl}
use Rattle.ledger.proofs.RowLaws.{mark_kept}
use Rattle.ledger.proofs.layer.LedgerLayer.destroy_through.Goals as goal

-- where the quota below denies the call, no key is destroyed
pub invariant_of-self : goal.invariant_of-self
invariant_of-self g c =
    let p = c.in_err-destroy.ensures in
    let a = (g.met.S.Suite.formed c.args.self.now.below.below).keyring.apart in
    record {
      unused = search rules;
      told = mark_kept _ _ c.args.key _ _ _ a p.answer p.after refl c.args.self.now.told;
    }

pub invariant_of-self-2-clause-told : goal.invariant_of-self-2-clause-told
invariant_of-self-2-clause-told g c =
    let p = c.in_ok-destroy.ensures in
    let t = c.args.self.now.told in
    let a = (g.met.S.Suite.formed c.args.self.now.below.below).keyring.apart in
    search (rules, mark_kept)
