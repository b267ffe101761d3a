-- Records whose number and counts are in range, and their totals.
use Rattle.std.proofs.Common.{◌≡◌, ◌&&◌, ℕ, zero, suc, ◌+◌, ◌*◌, ◌^◌, ◌<◌, ◌≤◌, true, List, [], ◌∷◌, length, get_or, take, map, sum, ap, ◌∙◌, refl, arith}
use Rattle.std.proofs.lemmas.Bool.{and_parts, and_from}
use Rattle.std.proofs.lemmas.Bool.Decides.{nat_tests}
use Rattle.std.proofs.lemmas.List.Sums.{sum-map, sum_by-cons, sum_by_more_le, AllPass-from_list_all}
use Rattle.std.specs.List.{list_all}
use Rattle.service_sheet.specs.declared.limits.TheConstants.{MAX_RECORDS, MAX_SESSION, MAX_COUNT}
use Rattle.service_sheet.specs.declared.record.SheetRecord.{SheetRecord}
use Rattle.service_sheet.specs.Sheets.{total_sent, total_taken, is_in_range, are_in_range}

-- `are_in_range` in std's word
pub all_in_range : (records : List SheetRecord) → list_all is_in_range records ≡ are_in_range records
all_in_range [] = refl
all_in_range (r ∷ records) = ap (λ b. is_in_range r && b) (all_in_range records)

-- the first records are in range where all are
pub in_range-take : (records : List SheetRecord) (i : ℕ) → are_in_range records ≡ true → are_in_range (take i records) ≡ true
in_range-take records zero h = refl
in_range-take [] (suc i) h = refl
in_range-take (r ∷ records) (suc i) h =
    let p = and_parts (is_in_range r) (are_in_range records) h in
    and_from (is_in_range r) (are_in_range (take i records)) p.0 (in_range-take records i p.1)

-- and each of them
pub in_range_at : (records : List SheetRecord) (i : ℕ) (d : SheetRecord) → i < length records → are_in_range records ≡ true → is_in_range (get_or records i d) ≡ true
in_range_at records i d l h = AllPass-from_list_all is_in_range records (all_in_range records ∙ h) i d l

-- the three limits of a record
pub number-le : (r : SheetRecord) → is_in_range r ≡ true → r.number ≤ MAX_SESSION
number-le r h = grind (arith, nat_tests)

pub sent-le : (r : SheetRecord) → is_in_range r ≡ true → r.sent ≤ MAX_COUNT
sent-le r h = grind (arith, nat_tests)

pub taken-le : (r : SheetRecord) → is_in_range r ≡ true → r.taken ≤ MAX_COUNT
taken-le r h = grind (arith, nat_tests)

-- the total of either count
total-le : (count : SheetRecord → ℕ) → ((r : SheetRecord) → is_in_range r ≡ true → count r ≤ MAX_COUNT) → (records : List SheetRecord) → are_in_range records ≡ true → sum (map count records) ≤ length records * MAX_COUNT
total-le count small [] h = omega arith
total-le count small (r ∷ records) h =
    let p = and_parts (is_in_range r) (are_in_range records) h in
    let rest = total-le count small records p.1 in
    omega (arith, sum-map count (r ∷ records), sum_by-cons count r records, sum-map count records, small r p.0)

-- the total of the first records and the next is within that of all
total_more-le : (count : SheetRecord → ℕ) (records : List SheetRecord) (i : ℕ) (d : SheetRecord) → i < length records → sum (map count (take i records)) + count (get_or records i d) ≤ sum (map count records)
total_more-le count records i d h = omega (arith, sum-map count (take i records), sum-map count records, sum_by_more_le count records i d h)

-- both totals have seven digits
pub total_sent_below : (records : List SheetRecord) → length records ≤ MAX_RECORDS → are_in_range records ≡ true → total_sent records < 10 ^ 7
total_sent_below records few h = omega (arith, total-le (λ r. r.sent) sent-le records h)

pub total_taken_below : (records : List SheetRecord) → length records ≤ MAX_RECORDS → are_in_range records ≡ true → total_taken records < 10 ^ 7
total_taken_below records few h = omega (arith, total-le (λ r. r.taken) taken-le records h)

-- and so have those of the first records and the next
pub sent_more_below : (records : List SheetRecord) (i : ℕ) (d : SheetRecord) → i < length records → length records ≤ MAX_RECORDS → are_in_range records ≡ true → total_sent (take i records) + (get_or records i d).sent < 10 ^ 7
sent_more_below records i d l few h = omega (arith, total_more-le (λ r. r.sent) records i d l, total_sent_below records few h)

pub taken_more_below : (records : List SheetRecord) (i : ℕ) (d : SheetRecord) → i < length records → length records ≤ MAX_RECORDS → are_in_range records ≡ true → total_taken (take i records) + (get_or records i d).taken < 10 ^ 7
taken_more_below records i d l few h = omega (arith, total_more-le (λ r. r.taken) records i d l, total_taken_below records few h)
