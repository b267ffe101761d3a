-- The fields of a line: their lengths, and where they stand.
use Rattle.std.proofs.Common.{◌≡◌, ℕ, ◌+◌, ◌≤◌, List, [], ◌∷◌, ◌++◌, length, take, drop, set, decimal, ap, ◌∙◌, append_assoc, arith, length-append, lit≤}
use Rattle.std.proofs.lemmas.List.{length-replicate, length-drop, length-take, set-append_right}
use Rattle.std.proofs.Math.Seq.{drop-append-add, take-append-add}
use borrow.Rule.Slice.PartMut.{put_mid}
use Rattle.service_sheet.specs.Sheets.{blanks, right_aligned, line_feed}

-- a number that has room in a field is filled up with blanks
pub length-right_aligned : (k n : ℕ) → length (decimal n) ≤ k → length (right_aligned k n) ≡ k
length-right_aligned k n h = simp (length-append, length-replicate) (omega arith)

-- a field that is written behind others
put_behind : (xs ys zs : List ℕ) (n a k : ℕ) → length xs ≡ n → put_mid (n + a) k (xs ++ ys) zs ≡ xs ++ put_mid a k ys zs
put_behind xs ys zs n a k e =
    rw (← e) (rw (take-append-add xs ys a, drop-append-add xs ys a) (append_assoc xs (take a ys) (zs ++ drop k (drop a ys))))

-- number and service, written into blanks
pub front_filled : (number service : List ℕ) → length number ≡ 6 → put_mid 7 3 (number ++ blanks 5) service ≡ number ++ blanks 1 ++ service ++ blanks 1
front_filled number service e = put_behind number (blanks 5) service 6 1 3 e ∙ simp append_assoc

-- A line: its first 11 columns, both counts behind them, and its end.

-- the field for the first count has 7 columns
pub first_count : (front : List ℕ) → length front ≡ 11 → length (take 7 (drop 11 (front ++ blanks 18))) ≡ 7
first_count front f = simp (length-take, length-drop, length-append) (omega arith)

-- the line keeps its length as this count is written
pub length_counted : (front sent : List ℕ) → length front ≡ 11 → length sent ≡ 7 → length (put_mid 11 7 (front ++ blanks 18) sent) ≡ 29
length_counted front sent f s = rw (put_behind front (blanks 18) sent 11 0 7 f) (simp length-append (omega arith))

-- so the field for the second has 7 too
pub second_count : (front sent : List ℕ) → length front ≡ 11 → length sent ≡ 7 → length (take 7 (drop 19 (put_mid 11 7 (front ++ blanks 18) sent))) ≡ 7
second_count front sent f s = simp (length-take, length-drop) (omega (arith, length_counted front sent f s))

-- both counts are written
counts_filled : (front sent taken : List ℕ) → length front ≡ 11 → length sent ≡ 7 → put_mid 19 7 (put_mid 11 7 (front ++ blanks 18) sent) taken ≡ front ++ sent ++ blanks 1 ++ taken ++ blanks 3
counts_filled front sent taken f s =
    rw (put_behind front (blanks 18) sent 11 0 7 f, put_behind front (sent ++ blanks 11) taken 11 8 7 f, put_behind sent (blanks 11) taken 7 1 7 s)
    (simp append_assoc)

-- the last column and the line feed are written
end_filled : (columns : List ℕ) (last : ℕ) → length columns ≡ 26 → set (set (columns ++ blanks 3) 27 last) 28 0x0A ≡ columns ++ blanks 1 ++ (last ∷ []) ++ line_feed
end_filled columns last e =
    ap (λ z. set z 28 0x0A) (set-append_right columns (blanks 3) 26 27 last e (lit≤ tt))
    ∙ set-append_right columns (0x20 ∷ last ∷ 0x20 ∷ []) 26 28 0x0A e (lit≤ tt)
    ∙ simp append_assoc

-- all are, each count at the right of its field
pub line_filled : (front sent taken : List ℕ) (m n last : ℕ) → length front ≡ 11 → length (decimal m) ≤ 7 → length (decimal n) ≤ 7 → sent ≡ right_aligned (length (take 7 (drop 11 (front ++ blanks 18)))) m → taken ≡ right_aligned (length (take 7 (drop 19 (put_mid 11 7 (front ++ blanks 18) sent)))) n → set (set (put_mid 19 7 (put_mid 11 7 (front ++ blanks 18) sent) taken) 27 last) 28 0x0A ≡ front ++ right_aligned 7 m ++ blanks 1 ++ right_aligned 7 n ++ blanks 1 ++ (last ∷ []) ++ line_feed
line_filled front sent taken m n last f hm hn es et =
    let s : sent ≡ right_aligned 7 m = es ∙ ap (λ k. right_aligned k m) (first_count front f) in
    let sl : length sent ≡ 7 = ap length s ∙ length-right_aligned 7 m hm in
    let t : taken ≡ right_aligned 7 n = et ∙ ap (λ k. right_aligned k n) (second_count front sent f sl) in
    let tl : length taken ≡ 7 = ap length t ∙ length-right_aligned 7 n hn in
    ap (λ z. set (set z 27 last) 28 0x0A) (counts_filled front sent taken f sl)
    ∙ end_filled (front ++ sent ++ blanks 1 ++ taken) last (simp length-append (omega arith))
    ∙ ap (λ z. front ++ z ++ blanks 1 ++ taken ++ blanks 1 ++ (last ∷ []) ++ line_feed) s
    ∙ ap (λ z. front ++ right_aligned 7 m ++ blanks 1 ++ z ++ blanks 1 ++ (last ∷ []) ++ line_feed) t
