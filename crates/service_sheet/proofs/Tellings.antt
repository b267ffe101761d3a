-- What a reader can tell from a sheet.
use Rattle.std.proofs.Common.{◌≡◌, ◌≢◌, ℕ, ◌+◌, ◌-◌, ◌*◌, ◌^◌, ◌<◌, ◌≤◌, true, List, [], ◌∷◌, ◌++◌, length, map, take, decimal, codes, Ok, Err, Some, Result, refl, sym, ap, subst, ◌∙◌, append_assoc, arith, length-append, lit≤, rules}
use Rattle.std.specs.List.{All}
use Rattle.std.proofs.lemmas.Bool.{and_parts, ne_eqb}
use Rattle.std.proofs.lemmas.List.{length-map, take_at}
use Rattle.std.proofs.lemmas.List.Elements.{All-append, All-cons, All-head, All-tail, All-nil, All-replicate, All-weaker, All-same, All-from_recursion}
use Rattle.std.proofs.lemmas.Grind.{pieces}
use Rattle.buffers.specs.Buffers.{with_front, length_result}
use Rattle.buffers.proofs.FrontLaws.{take-over}
use Rattle.frame.specs.declared.types.Service.{Service}
use Rattle.frame.specs.declared.types.Service.TheVariants.{Sse, Sch}
use Rattle.service_sheet.specs.declared.limits.TheConstants.{LINE, MAX_RECORDS}
use Rattle.service_sheet.specs.declared.record.SheetRecord.{SheetRecord}
use Rattle.service_sheet.specs.declared.record.End.{End}
use Rattle.service_sheet.specs.declared.record.End.TheVariants.{Terminated, Error, Released}
use Rattle.service_sheet.specs.declared.refusal.Refusal.{Refusal}
use Rattle.service_sheet.specs.Letters.{service_letters, end_letter}
use Rattle.service_sheet.specs.Sheets.{blanks, right_aligned, line_feed, record_columns, record_lines, total_sent, total_taken, sheet, is_in_range, are_in_range}
use Rattle.service_sheet.specs.Readings.{before_first, lines_of, columns, number_in, record_in, last_line, TellsRecords}
use Rattle.service_sheet.proofs.Ranges.{number-le, sent-le, taken-le, total_sent_below, total_taken_below}
use Rattle.service_sheet.proofs.Lines.{columns_of, record_columns-parts, total_columns-parts, length-record_columns, last_columns, length-last_columns, length-sheet}
use Rattle.service_sheet.proofs.Columns.{digits_above, record_in-columns, sent_in-total, taken_in-total}

-- Columns have no line feed: each character stands above it.

abbrev IsAbove : ℕ → Type 0
IsAbove c = 0x0A < c

above-right_aligned : (k n : ℕ) → n < 2 ^ 64 → All IsAbove (right_aligned k n)
above-right_aligned k n h =
    let before = k - length (decimal n) in
    All-append IsAbove (blanks before) (decimal n) (All-replicate IsAbove before 0x20 (lit≤ tt))
    (All-weaker (λ c. 0x20 < c) IsAbove (λ c a. omega arith) (decimal n) (digits_above n h))

above-letters : (service : Service) → All IsAbove (service_letters service)
above-letters Sse = All-from_recursion IsAbove (codes "SSE") (lit≤ tt, (lit≤ tt, (lit≤ tt, tt)))
above-letters Sch = All-from_recursion IsAbove (codes "SCH") (lit≤ tt, (lit≤ tt, (lit≤ tt, tt)))

above-end : (end : End) → All IsAbove (end_letter end ∷ [])
above-end Terminated = All-from_recursion IsAbove (0x54 ∷ []) (lit≤ tt, tt)
above-end Error = All-from_recursion IsAbove (0x45 ∷ []) (lit≤ tt, tt)
above-end Released = All-from_recursion IsAbove (0x52 ∷ []) (lit≤ tt, tt)

above_then : (xs ys : List ℕ) → All IsAbove xs → All IsAbove ys → All IsAbove (xs ++ (0x20 ∷ ys))
above_then xs ys a b = All-append IsAbove xs (0x20 ∷ ys) a (All-cons IsAbove 0x20 ys (lit≤ tt) b)

above-columns_of : (number service sent taken end : List ℕ) → All IsAbove number → All IsAbove service → All IsAbove sent → All IsAbove taken → All IsAbove end → All IsAbove (columns_of number service sent taken end)
above-columns_of number service sent taken end n v s t e =
    above_then number _ n (above_then service _ v (above_then sent _ s (above_then taken end t e)))

above-record_columns : (r : SheetRecord) → is_in_range r ≡ true → All IsAbove (record_columns r)
above-record_columns r h =
    let n = above-right_aligned 6 r.number (omega (arith, number-le r h)) in
    let s = above-right_aligned 7 r.sent (omega (arith, sent-le r h)) in
    let t = above-right_aligned 7 r.taken (omega (arith, taken-le r h)) in
    All-same IsAbove _ _ (record_columns-parts r) (above-columns_of _ _ _ _ _ n (above-letters r.service) s t (above-end r.end))

above-last_columns : (records : List SheetRecord) → length records ≤ MAX_RECORDS → are_in_range records ≡ true → All IsAbove (last_columns records)
above-last_columns records few h =
    let s = above-right_aligned 7 (total_sent records) (omega (arith, total_sent_below records few h)) in
    let t = above-right_aligned 7 (total_taken records) (omega (arith, total_taken_below records few h)) in
    All-same IsAbove _ _ (total_columns-parts (total_sent records) (total_taken records))
    (above-columns_of (codes "TOTAL ") (blanks 3) _ _ (0x20 ∷ []) (search (rules, pieces)) (search (rules, pieces)) s t (search (rules, pieces)))

-- The lines of a sheet.

-- columns and a line feed are one line
first_line : (line rest : List ℕ) → All IsAbove line → lines_of (line ++ (0x0A ∷ rest)) ≡ line ∷ lines_of rest
first_line [] rest a = refl
first_line (c ∷ line) rest a =
    let ne : c ≢ 0x0A = omega (arith, All-head IsAbove c line a) in
    rw (ne_eqb c 0x0A ne) (ap (before_first c) (first_line line rest (All-tail IsAbove c line a)))

lines_of-sheet : (records : List SheetRecord) (last : List ℕ) → are_in_range records ≡ true → All IsAbove last → lines_of (record_lines records ++ (last ++ line_feed)) ≡ map record_columns records ++ (last ∷ [])
lines_of-sheet [] last h a = first_line last [] a
lines_of-sheet (r ∷ records) last h a =
    let p = and_parts (is_in_range r) (are_in_range records) h in
    let rest = record_lines records ++ (last ++ line_feed) in
    ap lines_of (append_assoc (record_columns r ++ line_feed) (record_lines records) (last ++ line_feed) ∙ append_assoc (record_columns r) line_feed rest)
    ∙ first_line (record_columns r) rest (above-record_columns r p.0)
    ∙ ap (λ z. record_columns r ∷ z) (lines_of-sheet records last p.1 a)

last_line-append : (lines : List (List ℕ)) (line : List ℕ) → last_line (lines ++ (line ∷ [])) ≡ line
last_line-append [] line = refl
last_line-append (l ∷ []) line = refl
last_line-append (l ∷ next ∷ lines) line = last_line-append (next ∷ lines) line

-- What they tell.

abbrev IsWide : List ℕ → Type 0
IsWide line = length line ≡ 28

wide-records : (records : List SheetRecord) → are_in_range records ≡ true → All IsWide (map record_columns records)
wide-records [] h = All-nil IsWide
wide-records (r ∷ records) h =
    let p = and_parts (is_in_range r) (are_in_range records) h in
    All-cons IsWide (record_columns r) (map record_columns records) (length-record_columns r p.0) (wide-records records p.1)

told-records : (records : List SheetRecord) → are_in_range records ≡ true → map record_in (map record_columns records) ≡ map Some records
told-records [] h = refl
told-records (r ∷ records) h =
    let p = and_parts (is_in_range r) (are_in_range records) h in
    rw (record_in-columns r p.0, told-records records p.1)

-- a text with these lines tells the records
tells_by_lines : (records : List SheetRecord) (text : List ℕ) → length records ≤ MAX_RECORDS → are_in_range records ≡ true → length text ≡ LINE * (length records + 1) → lines_of text ≡ map record_columns records ++ (last_columns records ∷ []) → TellsRecords records text
tells_by_lines records text few h size e =
    let lines = map record_columns records in
    let end = last_columns records ∷ [] in
    let same : length lines ≡ length records = length-map records record_columns in
    let last : last_line (lines_of text) ≡ last_columns records = ap last_line e ∙ last_line-append lines (last_columns records) in
    let sent = total_sent_below records few h in
    let taken = total_taken_below records few h in
    record {
      size = size;
      count = ap length e ∙ length-append lines end ∙ ap (λ n. n + 1) same;
      width = All-same IsWide _ _ e (All-append IsWide lines end (wide-records records h) (All-cons IsWide (last_columns records) [] (length-last_columns records few h) (All-nil IsWide)));
      told = ap (λ z. map record_in (take (length records) z)) e ∙ ap (map record_in) (take_at lines end (length records) same) ∙ told-records records h;
      total = ap (columns 1 5) last;
      sent = ap (λ z. number_in (columns 12 18 z)) last ∙ sent_in-total (total_sent records) (total_taken records) sent taken;
      taken = ap (λ z. number_in (columns 20 26 z)) last ∙ taken_in-total (total_sent records) (total_taken records) sent taken;
    }

tells : (records : List SheetRecord) → length records ≤ MAX_RECORDS → are_in_range records ≡ true → TellsRecords records (sheet records)
tells records few h = tells_by_lines records (sheet records) few h (length-sheet records few h) (lines_of-sheet records (last_columns records) h (above-last_columns records few h))

-- A sheet at the front of a buffer.

length_of-result : (n : ℕ) (text : List ℕ) (result : Result (List ℕ) Refusal) → result ≡ Ok text → Ok n ≡ length_result result → n ≡ length text
length_of-result n text (Ok t) r e = cc
length_of-result n text (Err refusal) r e = cc

pub tells_front : (records : List SheetRecord) (result : Result (List ℕ) Refusal) (n : ℕ) (buffer old : List ℕ) → length records ≤ MAX_RECORDS → are_in_range records ≡ true → result ≡ Ok (sheet records) → Ok n ≡ length_result result → buffer ≡ with_front (sheet records) old → TellsRecords records (take n buffer)
tells_front records result n buffer old few h r e b =
    let front : take n buffer ≡ sheet records = ap (take n) b ∙ take-over (sheet records) old n (length_of-result n (sheet records) result r e) in
    subst (TellsRecords records) (sym front) (tells records few h)
