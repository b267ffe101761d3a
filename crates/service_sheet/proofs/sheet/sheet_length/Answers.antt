use Rattle.service_sheet.proofs.Lines.{length-written}
use Rattle.service_sheet.proofs.sheet.sheet_length.Goals as goal

pub returns-clause-answer : goal.returns-clause-answer
returns-clause-answer c = length-written c.args.records.now c.args.room c.if-records-gt-MAX_RECORDS.false (cc) c.if-room-length.false
