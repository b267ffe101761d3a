use Rattle.std.proofs.Common.{◌≡◌, take}
use Rattle.service_sheet.specs.Sheets.{total_sent, total_taken}
use Rattle.service_sheet.proofs.sheet.sums.Given as goal

-- the totals of the records so far
abbrev pub invariant-loop-session : goal.invariant-loop-session
invariant-loop-session l = record {
  sent : l.totals.sent ≡ total_sent (take l.session-index l.records);
  taken : l.totals.taken ≡ total_taken (take l.session-index l.records);
}
