use Rattle.std.proofs.Common.{ℕ, List, ◌++◌, length, drop, set, ap, ◌∙◌, refl}
use Rattle.cmac.specs.Cmac.{zeros}
use Rattle.cmac.proofs.BlockLaws.{zero_at, padded}
use Rattle.cmac.proofs.blocks.pad.Goals as goal

pub returns : goal.returns
returns c =
    let m = c.args.m.now in
    ap (λ (front : List ℕ). set (front ++ drop (length m) zeros) (length m) 0x80) c.copy_from_slice.ensures.after ∙ padded m zeros c.requires refl (zero_at 16)
