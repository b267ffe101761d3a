-- What the suite sealed lies in front of the buffer, and opens as itself.
use Rattle.std.proofs.Common.{◌∙◌, replicate, lit≤}
use Rattle.buffers.specs.declared.limits.TheConstants.{MAX_FRAME}
use Rattle.keyed_suite.specs.Keyed.{keyed_functions}
use Rattle.keyed_suite.specs.KeyedProofs.{half-length}
use Rattle.suite_of.specs.KindMeanings.{meaning_of}
use Rattle.measured.proofs.Crossings.{returns_itself}
use Rattle.measured.proofs.records.crosses.Goals as goal

pub returns-in-Ok : goal.returns-in-Ok
returns-in-Ok c =
    let s = c.in-Ok.ensures in
    c.opens.ensures ∙ returns_itself keyed_functions (λ value body. half-length _ body) (lit≤ tt) (meaning_of c.args.suite.now) c.args.link c.byte.result c.args.number c.in-Ok.length c.args.plain.now (replicate MAX_FRAME 0) c.seal.new.out c.requires c.byte.ensures s.answer s.buffer
