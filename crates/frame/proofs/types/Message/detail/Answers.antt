use Rattle.std.proofs.Common.{sym, subst}
use Rattle.frame.specs.Frames.{contents_of}
use Rattle.frame.specs.Details.{EndsAtZero}
use Rattle.frame.proofs.Zeros.{detail_ends}
use Rattle.frame.proofs.types.Message.detail.Goals as goal

pub returns-clause-ends : goal.returns-clause-ends
returns-clause-ends c p is = subst (EndsAtZero p) (sym c.detail_bytes.ensures) (detail_ends (contents_of c.args.self.now.body) p is)
