-- The entries that tell a record handed are as many as the records told so.
use Rattle.std.proofs.Common.{◌≡◌, suc, true, false, cond, List, [], ◌∷◌, ◌++◌, length, filter, Some, None, Option, refl, ap}
use Rattle.histories.specs.Records as r
use Rattle.replay.specs.declared.entry.SessionRecord.{SessionRecord}
use Rattle.replay.specs.declared.entry.Entry.{Entry}
use Rattle.replay.specs.Entries.{transcript_records, records_of, direction_of, is_handed, handed_count, has_handed_record}

-- one entry more
one_more : (x : Option SessionRecord) (e : Entry) (es : List Entry) (told : List r.SessionRecord) → length es ≡ length (filter (λ c. is_handed c.direction) told)
    → length (cond (has_handed_record x) (e ∷ es) es) ≡ length (filter (λ c. is_handed c.direction) (records_of x ++ told))
one_more None e es told same = same
one_more (Some x) e es told same =
    let rest = filter (λ c. is_handed c.direction) told in
    let one = records_of (Some x) in
    elim (is_handed (direction_of x.direction)) as (λ b. length (cond b (e ∷ es) es) ≡ length (cond b (one ++ rest) rest)) [ true ↦ ap suc same | false ↦ same ]

pub count_is : (es : List Entry) → length (filter (λ e. has_handed_record e.record) es) ≡ handed_count es
count_is [] = refl
count_is (e ∷ es) = one_more e.record e (filter (λ x. has_handed_record x.record) es) (transcript_records es) (count_is es)
