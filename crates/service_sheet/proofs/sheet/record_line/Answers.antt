use Rattle.std.proofs.Common.{◌≡◌, length, append_assoc, arith}
use Rattle.std.proofs.lemmas.Fmt.{length-decimal-le}
use Rattle.service_sheet.specs.Letters.{service_letters}
use Rattle.service_sheet.specs.Sheets.{right_aligned}
use Rattle.service_sheet.proofs.Ranges.{number-le}
use Rattle.service_sheet.proofs.Fields.{front_filled}
use Rattle.service_sheet.proofs.sheet.record_line.Goals as goal

pub right_align-requires : goal.right_align-requires
right_align-requires c = omega (arith, length-decimal-le 6 c.from.result, number-le c.args.session.now c.requires)

pub returns : goal.returns
returns c =
    let n : length c.right_align.new.field ≡ 6 = omega arith in
    let f = front_filled c.right_align.new.field c.copy_from_slice.new.self n in
    let number : c.right_align.new.field ≡ right_aligned 6 c.args.session.now.number = cc in
    let service : c.copy_from_slice.new.self ≡ service_letters c.args.session.now.service = cc in
    rw (c.line_of.ensures, f, number, service, c.letter.ensures) (simp append_assoc)
