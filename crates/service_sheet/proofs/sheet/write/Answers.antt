use Rattle.std.proofs.Common.{◌≡◌, ◌+◌, ◌-◌, ◌++◌, length, sym, ap, ◌∙◌, arith}
use Rattle.buffers.specs.Buffers.{with_front, buffer_after}
use Rattle.service_sheet.specs.declared.limits.TheConstants.{LINE}
use borrow.Rule.Slice.PartMut.{put_mid}
use Rattle.service_sheet.specs.Sheets.{sheet, line_feed}
use Rattle.service_sheet.proofs.Lines.{last_columns, result-written}
use Rattle.service_sheet.proofs.Writing.{record_written, sheet_written}
use Rattle.service_sheet.proofs.Tellings.{tells_front}
use Rattle.service_sheet.proofs.sheet.write.Goals as goal

pub loop-session-preserved : goal.loop-session-preserved
loop-session-preserved c = record {
  at = omega arith;
  written = record_written c.args.records.now c.loop-session.session-index c.loop-session.at _ c.copy_from_slice.new.self c.args.out.now c.loop-session.out c.in_ok-length.ensures.in_range c.loop-session-test.true c.loop-session.invariant.at c.loop-session.invariant.written (c.copy_from_slice.ensures.after ∙ c.record_line.ensures);
}

pub returns : goal.returns
returns c =
    let records = c.args.records.now in
    let out = c.args.out.now in
    let few = c.in_ok-length.ensures.few in
    let in_range = c.in_ok-length.ensures.in_range in
    let line : c.copy_from_slice-2.new.self ≡ last_columns records ++ line_feed = cc in
    let buffer : put_mid c.loop-session.at (c.loop-session.at + LINE - c.loop-session.at) c.loop-session.out c.copy_from_slice-2.new.self ≡ with_front (sheet records) out =
    sheet_written records c.loop-session.session-index c.loop-session.at c.copy_from_slice-2.new.self out c.loop-session.out few in_range (omega arith) c.loop-session.invariant.at c.loop-session.invariant.written line in
    let written = result-written records (length out) few in_range c.in_ok-length.ensures.has_room in
    record {
      answer = c.in_ok-length.ensures.answer;
      within = c.in_ok-length.ensures.within;
      buffer = buffer ∙ sym (ap (λ r. buffer_after r out) written);
      told = tells_front records _ c.in_ok-length.length _ out few in_range written c.in_ok-length.ensures.answer buffer;
    }
