-- What a reader can tell from a sheet alone.
use Rattle.std.specs.Prelude.{◌≡◌, ℕ, ◌+◌, ◌-◌, ◌*◌, cond, not, List, [], ◌∷◌, length, map, take, drop, filter, codes, Some, None, Option, All, ◌==◌}
use Rattle.std.specs.Str.{bytes_eq}
use Rattle.std.specs.Str.Parse.{digits_value}
use Rattle.frame.specs.declared.types.Service.{Service}
use Rattle.frame.specs.declared.types.Service.TheVariants.{Sse, Sch}
use Rattle.service_sheet.specs.declared.limits.TheConstants.{LINE}
use Rattle.service_sheet.specs.declared.record.SheetRecord.{SheetRecord}
use Rattle.service_sheet.specs.declared.record.End.{End}
use Rattle.service_sheet.specs.declared.record.End.TheVariants.{Terminated, Error, Released}
use Rattle.service_sheet.specs.Letters.{service_letters, end_letter}
use Rattle.service_sheet.specs.Sheets.{total_sent, total_taken}

-- a character before the first of these lines
abbrev pub before_first : ℕ → List (List ℕ) → List (List ℕ)
before_first c [] = (c ∷ []) ∷ []
before_first c (line ∷ lines) = (c ∷ line) ∷ lines

-- the lines of a text, each without the line feed that ends it; the last one may have none
abbrev pub lines_of : List ℕ → List (List ℕ)
lines_of [] = []
lines_of (c ∷ text) = cond (c == 0x0A) ([] ∷ lines_of text) (before_first c (lines_of text))

-- what stands in these columns, counted from 1
abbrev pub columns : ℕ → ℕ → List ℕ → List ℕ
columns from to line = take (to + 1 - from) (drop (from - 1) line)

-- the number that digits among blanks stand for
abbrev pub number_in : List ℕ → ℕ
number_in field = digits_value 10 (filter (λ c. not (c == 0x20)) field)

-- the service that letters stand for
abbrev pub service_in : List ℕ → Option Service
service_in letters =
    cond (bytes_eq letters (service_letters Sse)) (Some Sse)
    (cond (bytes_eq letters (service_letters Sch)) (Some Sch) None)

-- the end that a letter stands for
abbrev pub end_in : List ℕ → Option End
end_in letters =
    cond (bytes_eq letters (end_letter Terminated ∷ [])) (Some Terminated)
    (cond (bytes_eq letters (end_letter Error ∷ [])) (Some Error)
    (cond (bytes_eq letters (end_letter Released ∷ [])) (Some Released) None))

-- the record of these parts, if service and end are known
abbrev pub record_of_parts : ℕ → Option Service → ℕ → ℕ → Option End → Option SheetRecord
record_of_parts number None sent taken end = None
record_of_parts number (Some service) sent taken None = None
record_of_parts number (Some service) sent taken (Some end) =
    Some (record { number = number; service = service; sent = sent; taken = taken; end = end })

-- the session record that a line tells
abbrev pub record_in : List ℕ → Option SheetRecord
record_in line =
    record_of_parts (number_in (columns 1 6 line)) (service_in (columns 8 10 line))
    (number_in (columns 12 18 line)) (number_in (columns 20 26 line)) (end_in (columns 28 28 line))

-- the last of the lines; empty where there is none
abbrev pub last_line : List (List ℕ) → List ℕ
last_line [] = []
last_line (line ∷ []) = line
last_line (line ∷ next ∷ lines) = last_line (next ∷ lines)

-- A text that tells these session records, and their totals.
pub record TellsRecords (records : List SheetRecord) (text : List ℕ) : Type 0 where
  -- it has LINE bytes for each line
  pub size : length text ≡ LINE * (length records + 1)
  -- it has a line for each record, and one more
  pub count : length (lines_of text) ≡ length records + 1
  -- each of 28 columns
  pub width : All (λ line. length line ≡ 28) (lines_of text)
  -- each line but the last, read alone, tells the record in its place
  pub told : map record_in (take (length records) (lines_of text)) ≡ map Some records
  -- the last line has the sums over the records
  pub total : columns 1 5 (last_line (lines_of text)) ≡ codes "TOTAL"
  pub sent : number_in (columns 12 18 (last_line (lines_of text))) ≡ total_sent records
  pub taken : number_in (columns 20 26 (last_line (lines_of text))) ≡ total_taken records
