use Rattle.aes128.proofs.KeySteps.{rotated}
use Rattle.aes128.proofs.Words.{to_bytes}
use Rattle.aes128.proofs.schedule.rotated.Goals as goal

pub returns : goal.returns
returns c =
    let r = c.to_be_bytes.result in
    rotated r c.args.w c.sub_column.result (to_bytes r c.args.w c.to_be_bytes.ensures) c.sub_column.ensures.value
