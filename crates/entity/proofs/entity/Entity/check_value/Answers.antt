-- A check value is short, by the suite's law.
use Rattle.std.proofs.Common.{rules, ◌≤◌, length, arith, length-take}
use Rattle.entity.proofs.Lengths.{check_short}
use Rattle.entity.proofs.entity.Entity.check_value.Goals as goal

pub returns-clause-short : goal.returns-clause-short
returns-clause-short g c =
    let e = c.args.self.now in
    let room = c.told-scratch in
    let short : c.unwrap-n.result ≤ 32 = check_short g.S.Suite.scheme (g.S.HasMeaning.meaning e.suite) e.secret c.args.role (length c.args.scratch.now) c.unwrap-n.result g.met.S.Suite.lawful (g.met.S.Suite.formed e.suite) (e.keys.secret_live c.requires) (omega arith) (search rules) in
    omega (arith, length-take c.unwrap-n.result c.check.new.out)
