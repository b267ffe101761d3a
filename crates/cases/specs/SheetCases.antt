-- Service sheets, byte for byte, and the order of their refusals.
use Rattle.std.specs.Prelude.{◌≡◌, ℕ, List, [], ◌∷◌, ◌++◌, codes, replicate, Ok, Err}
use Rattle.frame.specs.declared.types.Service.TheVariants.{Sch}
use Rattle.service_sheet.specs.declared.limits.TheConstants.{LINE, MAX_RECORDS, MAX_SHEET, MAX_SESSION, MAX_COUNT}
use Rattle.service_sheet.specs.declared.record.SheetRecord.{SheetRecord}
use Rattle.service_sheet.specs.declared.record.End.TheVariants.{Released}
use Rattle.service_sheet.specs.declared.refusal.Refusal.TheVariants.{TooManyRecords, NumberTooGreat, SmallBuffer}
use Rattle.service_sheet.specs.Sheets.{sheet_result}

-- a session of SCH that was released, with this number, five records sent and seven taken in
abbrev pub released : ℕ → SheetRecord
released number = record { number = number; service = Sch; sent = 5; taken = 7; end = Released }

-- what stands on its sheet, and on one of no session
abbrev pub lines : List ℕ
lines = codes "     2 SCH       5       7 R" ++ (10 ∷ []) ++ codes "TOTAL            5       7  " ++ (10 ∷ [])

abbrev pub total_line : List ℕ
total_line = codes "TOTAL            0       0  " ++ (10 ∷ [])

-- these sheets, and why others are refused
pub record SheetCases : Type 0 where
  -- the limits: the bytes of a line, the most session records, the bytes of the longest sheet, the highest session number and count
  pub limits : (LINE ≡ 29) × (MAX_RECORDS ≡ 200) × (MAX_SHEET ≡ 5829) × (MAX_SESSION ≡ 999999) × (MAX_COUNT ≡ 49999)
  pub one_session : sheet_result (released 2 ∷ []) 58 ≡ Ok lines
  pub no_session : sheet_result [] 29 ≡ Ok total_line
  -- 15 goes before 16, and 16 before 17
  pub too_many : sheet_result (replicate 201 (released 1000000)) 0 ≡ Err TooManyRecords
  pub too_great : sheet_result (released 1000000 ∷ []) 0 ≡ Err NumberTooGreat
  pub too_short : sheet_result (released 999999 ∷ []) 57 ≡ Err SmallBuffer
