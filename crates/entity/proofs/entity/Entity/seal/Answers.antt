-- A payload is short, by the suite's law.
use Rattle.std.proofs.Common.{rules, ◌+◌, ◌≤◌, length, arith, length-take}
use Rattle.suite.specs.declared.limits.TheConstants.{MAX_DATA}
use Rattle.entity.proofs.Lengths.{seal_short}
use Rattle.entity.proofs.entity.Entity.seal.Goals as goal

pub returns-clause-short : goal.returns-clause-short
returns-clause-short g c =
    let e = c.args.self.now in
    let room = c.told-scratch in
    let short : c.unwrap-n.result ≤ MAX_DATA + 32 = seal_short g.S.Suite.scheme (g.S.HasMeaning.meaning e.suite) e.link e.role c.args.number (length c.args.scratch.now) c.unwrap-n.result c.args.plain.now g.met.S.Suite.lawful (g.met.S.Suite.formed e.suite) (e.keys.link_live c.requires.state) c.requires.data (omega arith) (omega arith) (search rules) in
    omega (arith, length-take c.unwrap-n.result c.seal.new.out)
