use Rattle.std.proofs.Common.{◌≡◌, ◌*◌, take}
use Rattle.buffers.specs.Buffers.{with_front}
use Rattle.service_sheet.specs.declared.limits.TheConstants.{LINE}
use Rattle.service_sheet.specs.Sheets.{record_lines}
use Rattle.service_sheet.proofs.sheet.write.Given as goal

-- the lines of the records so far are written
abbrev pub invariant-loop-session : goal.invariant-loop-session
invariant-loop-session l = record {
  at : l.at ≡ LINE * l.session-index;
  written : l.out ≡ with_front (record_lines (take l.session-index l.records)) l.initial.out;
}
