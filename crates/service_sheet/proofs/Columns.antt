-- What is read in the columns of a line.
use Rattle.std.proofs.Common.{◌≡◌, ◌≢◌, ℕ, suc, zero, ◌+◌, ◌-◌, ◌^◌, ◌<◌, true, not, eqb, List, [], ◌∷◌, ◌++◌, length, take, drop, decimal, codes, Some, take_all, refl, ap, ◌∙◌, arith}
use Rattle.std.specs.List.{All, filter}
use Rattle.std.specs.Str.Parse.{digits_value}
use Rattle.std.proofs.lemmas.Bool.{ne_eqb}
use Rattle.std.proofs.lemmas.List.{take_at}
use Rattle.std.proofs.lemmas.List.Elements.{All-head, All-tail, All-from_get_or, filter-append}
use Rattle.std.proofs.lemmas.Fmt.{decimal_is_IsNumeral}
use Rattle.std.proofs.lemmas.Str.Parse.{digit_at}
use Rattle.std.proofs.Math.Seq.{drop-append-add}
use Rattle.frame.specs.declared.types.Service.{Service}
use Rattle.frame.specs.declared.types.Service.TheVariants.{Sse, Sch}
use Rattle.service_sheet.specs.declared.record.SheetRecord.{SheetRecord}
use Rattle.service_sheet.specs.declared.record.End.{End}
use Rattle.service_sheet.specs.declared.record.End.TheVariants.{Terminated, Error, Released}
use Rattle.service_sheet.specs.Letters.{service_letters, end_letter}
use Rattle.service_sheet.specs.Sheets.{blanks, right_aligned, record_columns, total_columns, is_in_range}
use Rattle.service_sheet.specs.Readings.{columns, number_in, service_in, end_in, record_in, record_of_parts}
use Rattle.service_sheet.proofs.Ranges.{number-le, sent-le, taken-le}
use Rattle.service_sheet.proofs.Lines.{columns_of, record_columns-parts, total_columns-parts, length-number, length-count, length-letters}

-- Numbers.

-- digits stand above the blank
pub digits_above : (n : ℕ) → n < 2 ^ 64 → All (λ c. 0x20 < c) (decimal n)
digits_above n h =
    All-from_get_or (λ c. 0x20 < c) (decimal n) 0 (λ i l. omega (arith, digit_at (decimal n) i (decimal_is_IsNumeral n h).0.1 l))

-- so none of them is left out as a blank
filter-above : (text : List ℕ) → All (λ c. 0x20 < c) text → filter (λ c. not (eqb c 0x20)) text ≡ text
filter-above [] above = refl
filter-above (c ∷ text) above =
    let ne : c ≢ 0x20 = omega (arith, All-head (λ x. 0x20 < x) c text above) in
    rw (ne_eqb c 0x20 ne) (ap (λ z. c ∷ z) (filter-above text (All-tail (λ x. 0x20 < x) c text above)))

filter-blanks : (k : ℕ) → filter (λ c. not (eqb c 0x20)) (blanks k) ≡ []
filter-blanks zero = refl
filter-blanks (suc k) = filter-blanks k

number_in-right_aligned : (k n : ℕ) → n < 2 ^ 64 → number_in (right_aligned k n) ≡ n
number_in-right_aligned k n h =
    let before = k - length (decimal n) in
    ap (digits_value 10) (filter-append (λ c. not (eqb c 0x20)) (blanks before) (decimal n))
    ∙ ap (λ z. digits_value 10 (z ++ filter (λ c. not (eqb c 0x20)) (decimal n))) (filter-blanks before)
    ∙ ap (digits_value 10) (filter-above (decimal n) (digits_above n h))
    ∙ (decimal_is_IsNumeral n h).1

-- Letters.

service_in-letters : (service : Service) → service_in (service_letters service) ≡ Some service
service_in-letters Sse = refl
service_in-letters Sch = refl

end_in-letter : (end : End) → end_in (end_letter end ∷ []) ≡ Some end
end_in-letter Terminated = refl
end_in-letter Error = refl
end_in-letter Released = refl

-- Columns.

-- a field behind others
behind : (xs ys : List ℕ) (n a k : ℕ) → length xs ≡ n → take k (drop (n + a) (xs ++ ys)) ≡ take k (drop a ys)
behind xs ys n a k e = rw (← e) (ap (take k) (drop-append-add xs ys a))

-- what stands in the columns of a line
record HasColumns (line number service sent taken end : List ℕ) : Type 0 where
  at_number : columns 1 6 line ≡ number
  at_service : columns 8 10 line ≡ service
  at_sent : columns 12 18 line ≡ sent
  at_taken : columns 20 26 line ≡ taken
  at_end : columns 28 28 line ≡ end

has_columns : (number service sent taken end : List ℕ) → length number ≡ 6 → length service ≡ 3 → length sent ≡ 7 → length taken ≡ 7 → length end ≡ 1 → HasColumns (columns_of number service sent taken end) number service sent taken end
has_columns number service sent taken end n v s t e =
    let after_taken = 0x20 ∷ end in
    let after_sent = 0x20 ∷ (taken ++ after_taken) in
    let after_service = 0x20 ∷ (sent ++ after_sent) in
    let after_number = 0x20 ∷ (service ++ after_service) in
    record {
      at_number = take_at number after_number 6 n;
      at_service = behind number after_number 6 1 3 n ∙ take_at service after_service 3 v;
      at_sent = behind number after_number 6 5 7 n ∙ behind service after_service 3 1 7 v ∙ take_at sent after_sent 7 s;
      at_taken = behind number after_number 6 13 7 n ∙ behind service after_service 3 9 7 v ∙ behind sent after_sent 7 1 7 s ∙ take_at taken after_taken 7 t;
      at_end = behind number after_number 6 21 1 n ∙ behind service after_service 3 17 1 v ∙ behind sent after_sent 7 9 1 s ∙ behind taken after_taken 7 1 1 t ∙ take_all 1 end (omega arith);
    }

-- Lines.

record_of_known : (r : SheetRecord) (number sent taken : ℕ) → number ≡ r.number → sent ≡ r.sent → taken ≡ r.taken → record_of_parts number (Some r.service) sent taken (Some r.end) ≡ Some r
record_of_known r number sent taken n s t = rw (n, s, t)

-- a record's line tells the record
pub record_in-columns : (r : SheetRecord) → is_in_range r ≡ true → record_in (record_columns r) ≡ Some r
record_in-columns r h =
    let number = right_aligned 6 r.number in
    let sent = right_aligned 7 r.sent in
    let taken = right_aligned 7 r.taken in
    let c = has_columns number (service_letters r.service) sent taken (end_letter r.end ∷ []) (length-number r.number (number-le r h)) (length-letters r.service) (length-count r.sent (omega (arith, sent-le r h))) (length-count r.taken (omega (arith, taken-le r h))) refl in
    let n = number_in-right_aligned 6 r.number (omega (arith, number-le r h)) in
    let s = number_in-right_aligned 7 r.sent (omega (arith, sent-le r h)) in
    let t = number_in-right_aligned 7 r.taken (omega (arith, taken-le r h)) in
    ap record_in (record_columns-parts r)
    ∙ rw (c.at_number, c.at_service, c.at_sent, c.at_taken, c.at_end, service_in-letters r.service, end_in-letter r.end)
    (record_of_known r (number_in number) (number_in sent) (number_in taken) n s t)

-- the last line tells the totals
total_has_columns : (sent taken : ℕ) → sent < 10 ^ 7 → taken < 10 ^ 7 → HasColumns (total_columns sent taken) (codes "TOTAL ") (blanks 3) (right_aligned 7 sent) (right_aligned 7 taken) (0x20 ∷ [])
total_has_columns sent taken hs ht =
    rw total_columns-parts (has_columns (codes "TOTAL ") (blanks 3) (right_aligned 7 sent) (right_aligned 7 taken) (0x20 ∷ []) refl refl (length-count sent hs) (length-count taken ht) refl)

pub sent_in-total : (sent taken : ℕ) → sent < 10 ^ 7 → taken < 10 ^ 7 → number_in (columns 12 18 (total_columns sent taken)) ≡ sent
sent_in-total sent taken hs ht = ap number_in (total_has_columns sent taken hs ht).at_sent ∙ number_in-right_aligned 7 sent (omega arith)

pub taken_in-total : (sent taken : ℕ) → sent < 10 ^ 7 → taken < 10 ^ 7 → number_in (columns 20 26 (total_columns sent taken)) ≡ taken
taken_in-total sent taken hs ht = ap number_in (total_has_columns sent taken hs ht).at_taken ∙ number_in-right_aligned 7 taken (omega arith)
