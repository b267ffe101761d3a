use Rattle.protocol.proofs.CallEnds.{every_call_ends}
use Rattle.entity.proofs.entity.Entity.new.Goals as goal

pub returns-clause-ends : goal.returns-clause-ends
returns-clause-ends g c = every_call_ends g.S.Suite.scheme
