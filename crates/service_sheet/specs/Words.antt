-- The words for refusals.
use Rattle.std.specs.Prelude.{ℕ, List, codes}
use Rattle.service_sheet.specs.declared.refusal.Refusal.{Refusal}
use Rattle.service_sheet.specs.declared.refusal.Refusal.TheVariants.{TooManyRecords, NumberTooGreat, SmallBuffer}

-- what is printed of a refusal
abbrev pub refusal_words : Refusal → List ℕ
refusal_words TooManyRecords = codes "a sheet has at most 200 session records"
refusal_words NumberTooGreat = codes "a session number is above 999,999, or a count above 49,999"
refusal_words SmallBuffer = codes "the buffer has fewer than 29 bytes for each line of the sheet"
