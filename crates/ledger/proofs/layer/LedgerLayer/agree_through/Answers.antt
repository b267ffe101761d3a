-- The rows still tell of the keys: the lemma asks what the quota below and the table promise.
use Rattle.std.proofs.Common.{rules}
use Rattle.ledger.proofs.RowLaws.{made_kept}
use Rattle.ledger.proofs.layer.LedgerLayer.agree_through.Goals as goal

pub invariant_of-self-2-clause-told : goal.invariant_of-self-2-clause-told
invariant_of-self-2-clause-told g c = let p = c.in_ok-serial.ensures in let t = c.args.self.now.told in search (rules, made_kept)
