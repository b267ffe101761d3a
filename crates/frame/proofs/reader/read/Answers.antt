use Rattle.std.proofs.Common.{◌≡◌, arith}
use Rattle.std.proofs.lemmas.Grind.{common_steps}
use Rattle.frame.specs.Reading.{reading_of, reading}
use Rattle.frame.proofs.Trips.{writes_again}
use Rattle.frame.proofs.reader.read.Goals as goal

pub returns-in-len1-up-clause-again : goal.returns-in-len1-up-clause-again
returns-in-len1-up-clause-again c =
    let e : reading_of c.read_fields.result ≡ reading c.args.frame.now = grind (arith, common_steps) in
    writes_again c.args.frame.now _ e
