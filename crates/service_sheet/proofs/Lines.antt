-- The lines of a sheet: their parts, and how long they are.
use Rattle.std.proofs.Common.{◌≡◌, ℕ, ◌+◌, ◌*◌, ◌^◌, ◌<◌, ◌≤◌, true, List, [], ◌∷◌, ◌++◌, length, codes, Ok, refl, sym, ap, ◌∙◌, append_assoc, arith, length-append}
use Rattle.std.proofs.lemmas.Bool.{and_parts, le-ltb}
use Rattle.std.proofs.lemmas.Fmt.{length-decimal-le}
use Rattle.frame.specs.declared.types.Service.{Service}
use Rattle.frame.specs.declared.types.Service.TheVariants.{Sse, Sch}
use Rattle.buffers.specs.Buffers.{length_result}
use Rattle.service_sheet.specs.declared.limits.TheConstants.{LINE, MAX_RECORDS, MAX_SESSION}
use Rattle.service_sheet.specs.declared.record.SheetRecord.{SheetRecord}
use Rattle.service_sheet.specs.Letters.{service_letters, end_letter}
use Rattle.service_sheet.specs.Sheets.{blanks, right_aligned, line_feed, record_columns, total_columns, record_lines, total_sent, total_taken, sheet, sheet_result, is_in_range, are_in_range}
use Rattle.service_sheet.proofs.Fields.{length-right_aligned}
use Rattle.service_sheet.proofs.Ranges.{number-le, sent-le, taken-le, total_sent_below, total_taken_below}

-- a line without its line feed, by what stands in the columns of a record; between these is one blank
abbrev pub columns_of : List ℕ → List ℕ → List ℕ → List ℕ → List ℕ → List ℕ
columns_of number service sent taken end = number ++ (0x20 ∷ (service ++ (0x20 ∷ (sent ++ (0x20 ∷ (taken ++ (0x20 ∷ end)))))))

pub record_columns-parts : (r : SheetRecord) → record_columns r ≡ columns_of (right_aligned 6 r.number) (service_letters r.service) (right_aligned 7 r.sent) (right_aligned 7 r.taken) (end_letter r.end ∷ [])
record_columns-parts r = simp append_assoc

-- in the last line TOTAL stands there, and blanks
pub total_columns-parts : (sent taken : ℕ) → total_columns sent taken ≡ columns_of (codes "TOTAL ") (blanks 3) (right_aligned 7 sent) (right_aligned 7 taken) (0x20 ∷ [])
total_columns-parts sent taken = simp append_assoc

-- the last line of a sheet
abbrev pub last_columns : List SheetRecord → List ℕ
last_columns records = total_columns (total_sent records) (total_taken records)

-- The lengths of these parts.

pub length-number : (n : ℕ) → n ≤ MAX_SESSION → length (right_aligned 6 n) ≡ 6
length-number n h = length-right_aligned 6 n (length-decimal-le 6 n (omega arith) (omega arith) (omega arith))

pub length-letters : (service : Service) → length (service_letters service) ≡ 3
length-letters Sse = refl
length-letters Sch = refl

pub length-count : (n : ℕ) → n < 10 ^ 7 → length (right_aligned 7 n) ≡ 7
length-count n h = length-right_aligned 7 n (length-decimal-le 7 n (omega arith) h (omega arith))

-- The lengths of lines.

length-columns_of : (number service sent taken end : List ℕ) → length number ≡ 6 → length service ≡ 3 → length sent ≡ 7 → length taken ≡ 7 → length end ≡ 1 → length (columns_of number service sent taken end) ≡ 28
length-columns_of number service sent taken end n v s t e = simp length-append (omega arith)

pub length-record_columns : (r : SheetRecord) → is_in_range r ≡ true → length (record_columns r) ≡ 28
length-record_columns r h =
    ap length (record_columns-parts r)
    ∙ length-columns_of (right_aligned 6 r.number) (service_letters r.service) (right_aligned 7 r.sent) (right_aligned 7 r.taken) (end_letter r.end ∷ [])
    (length-number r.number (number-le r h)) (length-letters r.service) (length-count r.sent (omega (arith, sent-le r h))) (length-count r.taken (omega (arith, taken-le r h))) refl

pub length-last_columns : (records : List SheetRecord) → length records ≤ MAX_RECORDS → are_in_range records ≡ true → length (last_columns records) ≡ 28
length-last_columns records few h =
    ap length (total_columns-parts (total_sent records) (total_taken records))
    ∙ length-columns_of (codes "TOTAL ") (blanks 3) (right_aligned 7 (total_sent records)) (right_aligned 7 (total_taken records)) (0x20 ∷ [])
    refl refl (length-count (total_sent records) (total_sent_below records few h)) (length-count (total_taken records) (total_taken_below records few h)) refl

-- a line with its line feed
pub length-line : (columns : List ℕ) → length columns ≡ 28 → length (columns ++ line_feed) ≡ LINE
length-line columns e = simp length-append (omega arith)

-- The length of a sheet.

pub length-record_lines : (records : List SheetRecord) → are_in_range records ≡ true → length (record_lines records) ≡ LINE * length records
length-record_lines [] h = refl
length-record_lines (r ∷ records) h =
    let p = and_parts (is_in_range r) (are_in_range records) h in
    let line = length-line (record_columns r) (length-record_columns r p.0) in
    omega (arith, length-append (record_columns r ++ line_feed) (record_lines records), length-record_lines records p.1)

pub length-sheet : (records : List SheetRecord) → length records ≤ MAX_RECORDS → are_in_range records ≡ true → length (sheet records) ≡ LINE * (length records + 1)
length-sheet records few h =
    let line = length-line (last_columns records) (length-last_columns records few h) in
    omega (arith, length-append (record_lines records) (last_columns records ++ line_feed), length-record_lines records h)

-- What no test refuses is written.

pub result-written : (records : List SheetRecord) (room : ℕ) → length records ≤ MAX_RECORDS → are_in_range records ≡ true → LINE * (length records + 1) ≤ room → sheet_result records room ≡ Ok (sheet records)
result-written records room few h fits = rw (le-ltb MAX_RECORDS (length records) few, h, le-ltb room (LINE * (length records + 1)) fits)

pub length-written : (records : List SheetRecord) (room : ℕ) → length records ≤ MAX_RECORDS → are_in_range records ≡ true → LINE * (length records + 1) ≤ room → Ok (LINE * (length records + 1)) ≡ length_result (sheet_result records room)
length-written records room few h fits = ap Ok (sym (length-sheet records few h)) ∙ sym (ap length_result (result-written records room few h fits))
