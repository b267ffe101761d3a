-- A sheet as it is written, line by line, over the front of a buffer.
use Rattle.std.proofs.Common.{◌≡◌, ℕ, ◌+◌, ◌*◌, ◌-◌, ◌<◌, ◌≤◌, true, List, [], ◌++◌, length, get_or, take, sym, ap, ◌∙◌, arith, take_all}
use Rattle.std.proofs.lemmas.List.{take_more, flat_map_more, length-take-le}
use Rattle.buffers.specs.Buffers.{with_front}
use Rattle.buffers.proofs.FrontLaws.{over_then}
use Rattle.service_sheet.specs.declared.limits.TheConstants.{LINE, MAX_RECORDS}
use borrow.Rule.Slice.PartMut.{put_mid}
use Rattle.service_sheet.specs.declared.record.SheetRecord.{SheetRecord}
use Rattle.service_sheet.specs.Sheets.{line_feed, record_columns, record_lines, sheet, are_in_range}
use Rattle.service_sheet.proofs.Ranges.{in_range-take, in_range_at}
use Rattle.service_sheet.proofs.Lines.{last_columns, length-record_columns, length-last_columns, length-line, length-record_lines}

-- a line is written behind others
line_written : (lines line old now : List ℕ) (at : ℕ) → at ≡ length lines → length line ≡ LINE → now ≡ with_front lines old → put_mid at (at + LINE - at) now line ≡ with_front (lines ++ line) old
line_written lines line old now at e l w =
    ap (λ z. put_mid at (at + LINE - at) z line) w ∙ over_then lines line old at (at + LINE - at) e (omega arith)

-- the lines of the first records, and that of the next
record_lines_more : (records : List SheetRecord) (i : ℕ) (d : SheetRecord) → i < length records → record_lines (take i records) ++ (record_columns (get_or records i d) ++ line_feed) ≡ record_lines (take (i + 1) records)
record_lines_more records i d l =
    let f : SheetRecord → List ℕ = λ r. record_columns r ++ line_feed in
    flat_map_more f [] (take i records) (get_or records i d) ∙ ap record_lines (sym (take_more records i d l))

-- the line of the next record is written behind those of the first
pub record_written : (records : List SheetRecord) (i at : ℕ) (d : SheetRecord) (line old now : List ℕ) → are_in_range records ≡ true → i < length records → at ≡ LINE * i → now ≡ with_front (record_lines (take i records)) old → line ≡ record_columns (get_or records i d) ++ line_feed → put_mid at (at + LINE - at) now line ≡ with_front (record_lines (take (i + 1) records)) old
record_written records i at d line old now h l e w n =
    let r = get_or records i d in
    let first = record_lines (take i records) in
    let a : at ≡ length first = omega (arith, length-record_lines (take i records) (in_range-take records i h), length-take-le i records) in
    let k : length line ≡ LINE = ap length n ∙ length-line (record_columns r) (length-record_columns r (in_range_at records i d l h)) in
    line_written first line old now at a k w ∙ ap (λ z. with_front (first ++ z) old) n ∙ ap (λ z. with_front z old) (record_lines_more records i d l)

-- the last line is written behind those of all records
pub sheet_written : (records : List SheetRecord) (i at : ℕ) (line old now : List ℕ) → length records ≤ MAX_RECORDS → are_in_range records ≡ true → i ≡ length records → at ≡ LINE * i → now ≡ with_front (record_lines (take i records)) old → line ≡ last_columns records ++ line_feed → put_mid at (at + LINE - at) now line ≡ with_front (sheet records) old
sheet_written records i at line old now few h l e w n =
    let a : at ≡ length (record_lines records) = omega (arith, length-record_lines records h) in
    let k : length line ≡ LINE = ap length n ∙ length-line (last_columns records) (length-last_columns records few h) in
    let all : take i records ≡ records = take_all i records (omega arith) in
    line_written (record_lines records) line old now at a k (w ∙ ap (λ z. with_front (record_lines z) old) all)
    ∙ ap (λ z. with_front (record_lines records ++ z) old) n
