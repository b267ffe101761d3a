use Rattle.std.proofs.Common.{◌≡◌, count_by, sym, ◌∙◌, of_calls}
use Rattle.std.proofs.lemmas.List.Sums.{length-filter}
use Rattle.replay.specs.Entries.{has_handed_record}
use Rattle.replay.proofs.Counts.{count_is}
use Rattle.replay.proofs.bill.handed_count.Goals as goal

pub returns : goal.returns
returns c =
    let es = c.args.entries.now in
    let n : c.count.result ≡ count_by (λ e. has_handed_record e.record) es = search of_calls in
    n ∙ sym (length-filter (λ e. has_handed_record e.record) es) ∙ count_is es
