-- The service sheet, byte for byte.
use Rattle.std.specs.Prelude.{ℕ, ◌+◌, ◌-◌, ◌*◌, Bool, true, cond, not, ◌&&◌, List, [], ◌∷◌, ◌++◌, length, map, replicate, flat_map, sum, codes, decimal, Ok, Err, Result, nat_le, nat_lt}
use Rattle.service_sheet.specs.declared.limits.TheConstants.{LINE, MAX_RECORDS, MAX_SESSION, MAX_COUNT}
use Rattle.service_sheet.specs.declared.record.SheetRecord.{SheetRecord}
use Rattle.service_sheet.specs.declared.refusal.Refusal.{Refusal}
use Rattle.service_sheet.specs.declared.refusal.Refusal.TheVariants.{TooManyRecords, NumberTooGreat, SmallBuffer}
use Rattle.service_sheet.specs.Letters.{service_letters, end_letter}

-- blank columns
abbrev pub blanks : ℕ → List ℕ
blanks width = replicate width 0x20

-- a number at the right of that many columns, without leading zeros
abbrev pub right_aligned : ℕ → ℕ → List ℕ
right_aligned width n = blanks (width - length (decimal n)) ++ decimal n

-- the end of a line
abbrev pub line_feed : List ℕ
line_feed = 0x0A ∷ []

-- the columns of a record: its number in 1 to 6, its service in 8 to 10, records sent in 12 to 18, taken in in 20 to 26, its end in 28
abbrev pub record_columns : SheetRecord → List ℕ
record_columns r =
    right_aligned 6 r.number ++ blanks 1 ++ service_letters r.service ++ blanks 1
    ++ right_aligned 7 r.sent ++ blanks 1 ++ right_aligned 7 r.taken ++ blanks 1 ++ (end_letter r.end ∷ [])

-- the columns of the last line: TOTAL in 1 to 5, and both totals in the columns of their counts
abbrev pub total_columns : ℕ → ℕ → List ℕ
total_columns sent taken =
    codes "TOTAL" ++ blanks 6 ++ right_aligned 7 sent ++ blanks 1 ++ right_aligned 7 taken ++ blanks 2

-- how many records were sent in all these sessions
abbrev pub total_sent : List SheetRecord → ℕ
total_sent records = sum (map (λ r. r.sent) records)

-- and how many were taken in
abbrev pub total_taken : List SheetRecord → ℕ
total_taken records = sum (map (λ r. r.taken) records)

-- a line for each record, in their order
abbrev pub record_lines : List SheetRecord → List ℕ
record_lines records = flat_map (λ r. record_columns r ++ line_feed) records

-- the sheet: these lines, and the line of the totals
abbrev pub sheet : List SheetRecord → List ℕ
sheet records = record_lines records ++ (total_columns (total_sent records) (total_taken records) ++ line_feed)

-- whether number and counts have room in their columns
abbrev pub is_in_range : SheetRecord → Bool
is_in_range r = nat_le r.number MAX_SESSION && nat_le r.sent MAX_COUNT && nat_le r.taken MAX_COUNT

-- whether it is so for all records
abbrev pub are_in_range : List SheetRecord → Bool
are_in_range [] = true
are_in_range (r ∷ rs) = is_in_range r && are_in_range rs

-- the sheet, for a buffer of that length, or why it is refused: refusals are tried in the order in which they stand
abbrev pub sheet_result : List SheetRecord → ℕ → Result (List ℕ) Refusal
sheet_result records room =
    cond (nat_lt MAX_RECORDS (length records)) (Err TooManyRecords)
    (cond (not (are_in_range records)) (Err NumberTooGreat)
    (cond (nat_lt room (LINE * (length records + 1))) (Err SmallBuffer)
    (Ok (sheet records))))
