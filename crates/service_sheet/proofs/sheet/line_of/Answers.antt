use Rattle.std.proofs.Common.{◌≡◌, ◌≤◌, [], ◌∷◌, ◌++◌, length, ap, ◌∙◌, arith}
use Rattle.std.proofs.lemmas.Fmt.{length-decimal-le}
use borrow.Rule.Slice.PartMut.{put_mid}
use Rattle.service_sheet.specs.Sheets.{blanks, right_aligned, line_feed}
use Rattle.service_sheet.proofs.Fields.{first_count, length_counted, second_count, line_filled}
use Rattle.service_sheet.proofs.sheet.line_of.Goals as goal

pub right_align-requires : goal.right_align-requires
right_align-requires c =
    let front = c.copy_from_slice.new.self in
    omega (arith, length-decimal-le 7 c.args.counts.sent, first_count front (omega arith))

pub slice_bounds-line-end-3 : goal.slice_bounds-line-end-3
slice_bounds-line-end-3 c =
    let front = c.copy_from_slice.new.self in
    let sent = c.right_align.new.field in
    let s : length sent ≡ 7 = omega (arith, first_count front (omega arith)) in
    let h : 26 ≤ length (put_mid 11 7 (front ++ blanks 18) sent) = omega (arith, length_counted front sent (omega arith) s) in
    h

pub right_align-requires-2 : goal.right_align-requires-2
right_align-requires-2 c =
    let front = c.copy_from_slice.new.self in
    let sent = c.right_align.new.field in
    let s : length sent ≡ 7 = omega (arith, first_count front (omega arith)) in
    omega (arith, length-decimal-le 7 c.args.counts.taken, second_count front sent (omega arith) s)

pub returns : goal.returns
returns c =
    let m = c.args.counts.sent in
    let n = c.args.counts.taken in
    let hm = length-decimal-le 7 m (omega arith) (omega arith) (omega arith) in
    let hn = length-decimal-le 7 n (omega arith) (omega arith) (omega arith) in
    line_filled c.copy_from_slice.new.self c.right_align.new.field c.right_align-2.new.field m n c.args.last (omega arith) hm hn c.right_align.ensures c.right_align-2.ensures
    ∙ ap (λ z. z ++ right_aligned 7 m ++ blanks 1 ++ right_aligned 7 n ++ blanks 1 ++ (c.args.last ∷ []) ++ line_feed) c.copy_from_slice.ensures.after
