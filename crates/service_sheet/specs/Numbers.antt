-- The numbers of the refusals.
use Rattle.std.specs.Prelude.{ℕ}
use Rattle.service_sheet.specs.declared.refusal.Refusal.{Refusal}
use Rattle.service_sheet.specs.declared.refusal.Refusal.TheVariants.{TooManyRecords, NumberTooGreat, SmallBuffer}

-- 15 to 17, in the order in which they are tried
abbrev pub refusal_number : Refusal → ℕ
refusal_number TooManyRecords = 15
refusal_number NumberTooGreat = 16
refusal_number SmallBuffer = 17
