use Rattle.std.proofs.Common.{refl, subst, sym}
use Rattle.replay.specs.LogViews.{logged_call}
use Rattle.replay.specs.Entries.{history_entry}
use Rattle.replay.specs.SheetRecords.{open_session}
use Rattle.replay.specs.SessionCounts.{HasCountsTo}
use Rattle.replay.proofs.Readers.{counted_next, counts_begun}
use Rattle.replay.proofs.session.Sessions.add.Goals as goal

pub returns-clause-after : goal.returns-clause-after
returns-clause-after c h is = record {
  newest = c.newest_made-self.ensures h (history_entry (logged_call c.args.logged.now) c.args.entry.now) refl is.newest;
  running = counted_next _ _ _ _ _ (c.session_begun.ensures.session h is.newest) (c.session_after-goes_on.ensures.session (open_session h) is.running) c.or-self.ensures;
}

pub returns-clause-counts : goal.returns-clause-counts
returns-clause-counts c n k = subst (HasCountsTo _) (sym c.or-self.ensures) (counts_begun _ _ _ c.session_begun.ensures.counts (c.session_after-goes_on.ensures.counts n k))
