use Rattle.std.proofs.Common.{arith}
use Rattle.aes128.specs.Keys.{words_of}
use Rattle.cmac.proofs.BlockLaws.{whole, short}
use Rattle.cmac.proofs.last_block.Goals as goal

pub returns-in-Some : goal.returns-in-Some
returns-in-Some c =
    let e = whole (words_of c.args.cipher.now) c.args.rest.now c.in-Some.ensures.cases.long in
    let same = c.in-Some.ensures.cases.same in
    cc

pub returns-in-None : goal.returns-in-None
returns-in-None c =
    let other = c.in-None.ensures.cases in
    let e = short (words_of c.args.cipher.now) c.args.rest.now (omega arith) in
    cc
