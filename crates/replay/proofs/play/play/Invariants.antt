use Rattle.std.proofs.Common.{◌≡◌, [], length, take, reverse}
use Rattle.std.specs.List.{AllByRecursion}
use Rattle.protocol.specs.Calls.{IsGivenBytes}
use Rattle.histories.specs.Histories.{entity_after, history}
use Rattle.histories.specs.Records.{session_records, running_session}
use Rattle.entity.specs.Views.{view}
use Rattle.replay.specs.LogViews.{logged_calls}
use Rattle.replay.specs.Entries.{transcript_history, HasRecordsInPlace, transcript_records}
use Rattle.replay.proofs.play.play.Given as goal

-- so far: the calls before i are made and noted, and the session is the one that runs
abbrev pub invariant-loop-i : goal.invariant-loop-i
invariant-loop-i g l =
    let s = g.S.Suite.scheme in
    let m = view g.S.HasMeaning.meaning l.fn.entity in
    let made = reverse (logged_calls (take l.i l.log)) in
    record {
      places : length l.entries ≡ length l.log;
      lent : length l.buffer ≡ length l.initial.buffer;
      bytes : AllByRecursion IsGivenBytes made;
      model : view g.S.HasMeaning.meaning l.entity ≡ entity_after s m made;
      told : transcript_history (logged_calls (take l.i l.log)) (take l.i l.entries) ≡ history s m made;
      in_place : HasRecordsInPlace [] (logged_calls (take l.i l.log)) (take l.i l.entries);
      records : transcript_records (take l.i l.entries) ≡ session_records (history s m made);
      session : l.session ≡ running_session (history s m made);
    }
