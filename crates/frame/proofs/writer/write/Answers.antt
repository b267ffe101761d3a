use Rattle.std.proofs.Common.{Ok, rules}
use Rattle.frame.specs.Frames.{parts_of}
use Rattle.frame.proofs.Trips.{reads_back}
use Rattle.frame.proofs.writer.write.Goals as goal

pub returns-clause-back : goal.returns-clause-back
returns-clause-back c = reads_back (parts_of c.args.message.now) (Ok c.put.result) c.args.out.now c.put.new.out (search rules) (search rules)
