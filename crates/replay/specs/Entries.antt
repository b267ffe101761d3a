-- The entries of a transcript, as the definitions have them.
use Rattle.std.specs.Prelude.{◌≡◌, ℕ, ◌≤◌, Bool, false, ◌==◌, List, length, filter, [], ◌∷◌, ◌++◌, reverse, take, Some, None, Ok, Err, Option, Result}
use Rattle.suite.specs.declared.limits.TheConstants.{MAX_DATA}
use Rattle.protocol.specs.Calls.{Call, invoke, send, retrieve_data, retrieve_secret, terminate, frame, release}
use Rattle.protocol.specs.declared.outcomes.Outcome.{Outcome}
use Rattle.protocol.specs.declared.refusals.Refusal.{Refusal}
use Rattle.histories.specs.Histories as h
use Rattle.histories.specs.Records.{was_sent, was_handed, direction_number, running_session, records_in}
use Rattle.histories.specs.Records as r
use Rattle.replay.specs.declared.entry.WrittenBytes.{WrittenBytes}
use Rattle.replay.specs.declared.entry.Direction.{Direction}
use Rattle.replay.specs.declared.entry.Direction.TheVariants.{Sent, Handed}
use Rattle.replay.specs.declared.entry.SessionRecord.{SessionRecord}
use Rattle.replay.specs.declared.entry.Entry.{Entry}

-- the bytes that were written
abbrev pub written_bytes : WrittenBytes → List ℕ
written_bytes w = take w.length w.bytes

-- what lies in the front of a buffer, by the length that a call answered
abbrev pub bytes_of_answer : Result Outcome Refusal → List ℕ → List ℕ
bytes_of_answer (Ok o) buffer = take o.length buffer
bytes_of_answer (Err r) buffer = []

-- Entries, with their calls.

-- what a call and its entry tell: an entry of a history
abbrev pub history_entry : Call → Entry → h.Entry
history_entry c e = record { call = c; answer = e.answer; written = written_bytes e.written }

-- what each call tells with the entry at its place
abbrev pub history_entries : List Call → List Entry → List h.Entry
history_entries [] es = []
history_entries (c ∷ cs) [] = []
history_entries (c ∷ cs) (e ∷ es) = history_entry c e ∷ history_entries cs es

-- the history that a log and its entries tell, the newest call first
abbrev pub transcript_history : List Call → List Entry → h.History
transcript_history calls entries = reverse (history_entries calls entries)

-- Records.

-- whether a record was sent or handed
abbrev pub direction_of : Direction → r.Direction
direction_of Sent = was_sent
direction_of Handed = was_handed

-- the record of an entry, if it has one
abbrev pub records_of : Option SessionRecord → List r.SessionRecord
records_of None = []
records_of (Some x) =
    record { session = x.session; direction = direction_of x.direction; plain = written_bytes x.plain } ∷ []

-- the records that the entries tell, the oldest first
abbrev pub transcript_records : List Entry → List r.SessionRecord
transcript_records [] = []
transcript_records (e ∷ es) = records_of e.record ++ transcript_records es

-- There are as many entries as calls, and each entry tells the record of its own call, in the session that ran before it. Before is the
-- history so far.
abbrev pub HasRecordsInPlace : h.History → List Call → List Entry → Type 0
HasRecordsInPlace before [] [] = Unit {0}
HasRecordsInPlace before [] (e ∷ es) = ⊥
HasRecordsInPlace before (c ∷ cs) [] = ⊥
HasRecordsInPlace before (c ∷ cs) (e ∷ es) = (records_of e.record ≡ records_in (running_session before) (history_entry c e)) × HasRecordsInPlace (history_entry c e ∷ before) cs es

-- it was handed, and not sent
abbrev pub is_handed : r.Direction → Bool
is_handed direction = direction_number direction == direction_number was_handed

-- how many of the records that the entries tell were handed
abbrev pub handed_count : List Entry → ℕ
handed_count entries = length (filter (λ c. is_handed c.direction) (transcript_records entries))

-- whether it was a record that was handed
abbrev pub has_handed_record : Option SessionRecord → Bool
has_handed_record None = false
has_handed_record (Some x) = is_handed (direction_of x.direction)

-- a send that is answered had data that a record holds
abbrev pub FitsSend : Call → Result Outcome Refusal → Type 0
FitsSend (invoke service pid seed room) answer = Unit {0}
FitsSend (send plain room) (Ok o) = length plain ≤ MAX_DATA
FitsSend (send plain room) (Err r) = Unit {0}
FitsSend (retrieve_data room) answer = Unit {0}
FitsSend (retrieve_secret room) answer = Unit {0}
FitsSend (terminate room) answer = Unit {0}
FitsSend (frame bytes beside room) answer = Unit {0}
FitsSend release answer = Unit {0}
