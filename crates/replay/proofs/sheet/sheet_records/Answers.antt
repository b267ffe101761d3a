use Rattle.std.proofs.Common.{rules, length, append-nil, Some, None, option_to_list, sym, ap, ◌∙◌, subst, arith, length-append}
use Rattle.std.proofs.lemmas.Slice.Zip.{zip_turn, zip_end}
use Rattle.replay.specs.LogViews.{logged_calls}
use Rattle.replay.specs.SheetRecords.{TellsSessions, sheet_records}
use Rattle.replay.proofs.Turns.{told_all}
use Rattle.replay.proofs.Readers.{counts_below, read_next, read_on}
use Rattle.replay.proofs.SheetRuns.{every_run_told, replay_told}
use Rattle.replay.proofs.sheet.sheet_records.Goals as goal

pub add-requires : goal.add-requires
add-requires c =
    let at = zip_turn c.args.log.now c.args.entries.now c.loop-logged.yielded _ _ c.next.new.self _ (search rules) (search rules) c.loop-logged.yielded_by _ c.in-Some.is c.next.ensures.steps in
    counts_below (length c.loop-logged.yielded) _ _ (omega (arith, at.0, c.iter.ensures.bound, c.iter.ensures.len)) c.loop-logged.invariant.counts

pub loop-logged-preserved-in-Continue-1 : goal.loop-logged-preserved-in-Continue-1
loop-logged-preserved-in-Continue-1 c =
    let more = read_next c.args.log.now c.args.entries.now c.loop-logged.yielded _ _ c.next.new.self _ _ (search rules) (search rules) c.loop-logged.yielded_by c.in-Some.is c.next.ensures.steps in
    read_on c.args.log.now c.args.entries.now _ _ _ _ _ _ _ (Some c.in-Some-add.ended) (length-append c.loop-logged.yielded _) more c.loop-logged.invariant
    c.add.ensures.after (λ h is. ap option_to_list (sym c.in-Some-add.is) ∙ c.add.ensures.closed h is) c.add.ensures.counts c.in_ok-push.ensures.items

pub loop-logged-preserved : goal.loop-logged-preserved
loop-logged-preserved c =
    let more = read_next c.args.log.now c.args.entries.now c.loop-logged.yielded _ _ c.next.new.self _ _ (search rules) (search rules) c.loop-logged.yielded_by c.in-Some.is c.next.ensures.steps in
    read_on c.args.log.now c.args.entries.now _ _ _ _ _ _ _ None (length-append c.loop-logged.yielded _) more c.loop-logged.invariant
    c.add.ensures.after (λ h is. ap option_to_list (sym c.in_default.is) ∙ c.add.ensures.closed h is) c.add.ensures.counts (sym (append-nil c.loop-logged.records.items))

pub returns-in_err-push-clause-promised : goal.returns-in_err-push-clause-promised
returns-in_err-push-clause-promised c = every_run_told

pub returns-clause-promised : goal.returns-clause-promised
returns-clause-promised c = every_run_told

pub returns-clause-records : goal.returns-clause-records
returns-clause-records c =
    let long = zip_end c.args.log.now c.args.entries.now c.loop-logged.yielded _ _ c.next.new.self _ (search rules) (search rules) c.loop-logged.yielded_by c.in-None.is c.next.ensures.steps in
    c.loop-logged.invariant.records ∙ ap sheet_records (told_all c.args.log.now c.args.entries.now _ long)

pub returns-clause-told : goal.returns-clause-told
returns-clause-told c s law m left fresh told =
    subst (TellsSessions left _) (sym (returns-clause-records c)) (replay_told (logged_calls c.args.log.now) c.args.entries.now s law m left fresh told)
