-- The sessions of a history, for the service sheet.
use Rattle.std.specs.Prelude.{◌≡◌, ◌≢◌, ℕ, ◌<◌, Bool, true, false, cond, ◌&&◌, ◌⊎◌, List, [], ◌∷◌, ◌++◌, length, filter, Some, None, Ok, Err, Option, Result, ◌==◌}
use Rattle.std.specs.List.{AllByRecursion}
use Rattle.std.specs.Option.{option_or}
use Rattle.frame.specs.declared.types.Service.{Service}
use Rattle.frame.specs.declared.types.Service.TheVariants.{Sse, Sch}
use Rattle.frame.specs.Numbers.{service_code}
use Rattle.frame.specs.Frames.{tmn}
use Rattle.frame.specs.Reading.{message, reading}
use Rattle.suite.specs.Schemes.{Scheme, IsLawful}
use Rattle.protocol.specs.declared.outcomes.Outcome.{Outcome}
use Rattle.protocol.specs.declared.refusals.Refusal.{Refusal}
use Rattle.protocol.specs.declared.states.State.TheVariants.{ConfirmedSse}
use Rattle.protocol.specs.Numbers.{confirmation_number}
use Rattle.protocol.specs.Models.{Model, Ancillary}
use Rattle.protocol.specs.Calls.{Call, IsGivenBytes, invoke, send, retrieve_data, retrieve_secret, terminate, frame, release}
use Rattle.histories.specs.Histories.{Entry, History, IsFresh, entity_after, history, serials_made, serials_destroyed_in, is_member, has_confirmation, session_started, Runs, data_sent, frames_received}
use Rattle.histories.specs.Records.{HasEnded}
use Rattle.service_sheet.specs.declared.record.SheetRecord.{SheetRecord}
use Rattle.service_sheet.specs.declared.record.End.{End}
use Rattle.service_sheet.specs.declared.record.End.TheVariants.{Terminated, Error, Released}
use Rattle.replay.specs.declared.entry.Entry as t
use Rattle.replay.specs.Entries.{transcript_history}
use Rattle.replay.specs.Replays.{IsReplay}

-- Sessions of SSE. A session of SCH is a link session.

-- the last of these numbers, 0 where there is none
abbrev pub last_number : List ℕ → ℕ
last_number [] = 0
last_number (n ∷ []) = n
last_number (n ∷ next ∷ more) = last_number (next ∷ more)

-- the serial of the key that was reported made last, 0 if none was
abbrev pub last_made : History → ℕ
last_made h = last_number (serials_made h)

-- the shared secret of the session of SSE that an answer starts after the history: confirmation 1, and no key is made; 0 if it starts none
abbrev pub sse_started : History → Result Outcome Refusal → ℕ
sse_started h (Err r) = 0
sse_started h (Ok o) = cond (confirmation_number o.confirmation == 1 && o.made == 0) (last_made h) 0

-- after the history the session of SSE with shared secret n runs, and these calls were made in it since its start
pub data RunsSse (n : ℕ) : History → History → Type 0 where
  starts : {e : Entry} {h : History} → 0 < n → sse_started h e.answer ≡ n → RunsSse n (e ∷ h) []
  goes_on : {e : Entry} {h since : History} → RunsSse n h since →
      is_member n (serials_destroyed_in e.answer) ≡ false → RunsSse n (e ∷ h) (e ∷ since)

-- after the history it is over, and these calls were made in it; the last reports the shared secret destroyed
pub data HasEndedSse (n : ℕ) : History → History → Type 0 where
  ends : {e : Entry} {h since : History} → RunsSse n h since → is_member n (serials_destroyed_in e.answer) ≡ true →
      HasEndedSse n (e ∷ h) (e ∷ since)
  stays : {e : Entry} {h since : History} → HasEndedSse n h since → HasEndedSse n (e ∷ h) since

-- a session of that service and number runs after the history
abbrev pub RunsAs : Service → ℕ → History → History → Type 0
RunsAs Sse n h since = RunsSse n h since
RunsAs Sch n h since = Runs n h since

-- it is over
abbrev pub HasEndedAs : Service → ℕ → History → History → Type 0
HasEndedAs Sse n h since = HasEndedSse n h since
HasEndedAs Sch n h since = HasEnded n h since

-- The record of a session.

-- a release of the link below
abbrev pub is_release : Call → Bool
is_release (invoke service pid seed room) = false
is_release (send plain room) = false
is_release (retrieve_data room) = false
is_release (retrieve_secret room) = false
is_release (terminate room) = false
is_release (frame bytes beside room) = false
is_release release = true

-- how a session ended, by its last call
abbrev pub end_by : Entry → End
end_by last = cond (has_confirmation 5 last.answer) Error (cond (is_release last.call) Released Terminated)

-- a frame that is read as a TMN
abbrev pub IsTmn : List ℕ → Type 0
IsTmn bytes = (service : Service) × ((payload : List ℕ) × (reading bytes ≡ message (record { service = service; contents = tmn payload })))

-- what ended a session: an error or a fault; else the release of the link, the user's terminate, or a TMN from the peer
pub data HasEnd (last : Entry) : End → Type 0 where
  by_error : has_confirmation 5 last.answer ≡ true → HasEnd last Error
  by_release : has_confirmation 4 last.answer ≡ true → last.call ≡ release → HasEnd last Released
  by_terminate : {room : ℕ} → has_confirmation 4 last.answer ≡ true → last.call ≡ terminate room → HasEnd last Terminated
  by_tmn : {bytes : List ℕ} {beside : Ancillary} {room : ℕ} → has_confirmation 4 last.answer ≡ true → last.call ≡ frame bytes beside room →
      IsTmn bytes → HasEnd last Terminated

-- the record of a session, by its last call and those before it
abbrev pub sheet_record : Service → ℕ → Entry → History → SheetRecord
sheet_record service n last since = record {
  number = n;
  service = service;
  sent = length (data_sent (last ∷ since));
  taken = length (frames_received (last ∷ since));
  end = end_by last;
}

-- The records of a history.

-- a session that runs: its service, its number, and the calls made in it since its start
pub record OpenSession : Type 0 where
  pub service : Service
  pub number : ℕ
  pub since : History

-- the session that an answer starts after the history, if it starts one
abbrev pub session_begun : History → Result Outcome Refusal → Option OpenSession
session_begun h answer =
    cond (session_started answer == 0)
    (cond (sse_started h answer == 0) None (Some (record { service = Sse; number = sse_started h answer; since = [] })))
    (Some (record { service = Sch; number = session_started answer; since = [] }))

-- a session that ran, after one more call: over if its key was destroyed
abbrev pub session_after : Option OpenSession → Entry → Option OpenSession
session_after None e = None
session_after (Some x) e =
    cond (is_member x.number (serials_destroyed_in e.answer)) None (Some (record x { since = e ∷ x.since }))

-- the session that runs after a history: the one that starts, or else the one that goes on
abbrev pub open_session : History → Option OpenSession
open_session [] = None
open_session (e ∷ h) = option_or (session_begun h e.answer) (session_after (open_session h) e)

-- the record of the session that a call ends: none or one
abbrev pub records_closed : Option OpenSession → Entry → List SheetRecord
records_closed None e = []
records_closed (Some x) e =
    cond (is_member x.number (serials_destroyed_in e.answer)) (sheet_record x.service x.number e x.since ∷ []) []

-- the records of all sessions that are over, the one that ended first standing first
abbrev pub sheet_records : History → List SheetRecord
sheet_records [] = []
sheet_records (e ∷ h) = sheet_records h ++ records_closed (open_session h) e

-- What they tell.

-- whether a record is of that service and number
abbrev pub is_of : Service → ℕ → SheetRecord → Bool
is_of service n r = service_code r.service == service_code service && r.number == n

-- the records of that service and number
abbrev pub records_with : Service → ℕ → List SheetRecord → List SheetRecord
records_with service n records = filter (is_of service n) records

-- these records begin with the first
abbrev pub BeginsWith : List SheetRecord → List SheetRecord → Type 0
BeginsWith records first = (rest : List SheetRecord) × (records ≡ first ++ rest)

-- a session record of a session, by its last call and those before it
pub record IsRecordOf (svc : Service) (n : ℕ) (last : Entry) (since : History) (r : SheetRecord) : Type 0 where
  pub number : r.number ≡ n
  pub service : r.service ≡ svc
  pub sent : r.sent ≡ length (data_sent (last ∷ since))
  pub taken : r.taken ≡ length (frames_received (last ∷ since))
  pub end : HasEnd last r.end

-- What these records tell of the sessions of a history, and what the entity is in that the history leaves.
pub record TellsSessions (left : Model) (h : History) (records : List SheetRecord) : Type 0 where
  -- each session that was confirmed and is over has exactly one, by its calls
  pub one : (service : Service) (n : ℕ) (last : Entry) (since : History) → HasEndedAs service n h (last ∷ since) →
      (r : SheetRecord) × ((records_with service n records ≡ r ∷ []) × IsRecordOf service n last since r)
  -- one that runs has none
  pub running : (service : Service) (n : ℕ) (since : History) → RunsAs service n h since →
      records_with service n records ≡ []
  -- and there are no others
  pub no_others : (service : Service) (n : ℕ) → records_with service n records ≢ [] →
      (since : History) × HasEndedAs service n h since
  -- they stand in the order of the history: more calls add records at the end
  pub order : (later earlier : History) → h ≡ later ++ earlier → BeginsWith records (sheet_records earlier)
  -- the state is Confirmed_SSE exactly while a session of SSE runs, and its number is the serial of the entity's shared secret
  pub confirmed : left.state ≡ ConfirmedSse → (since : History) × RunsSse left.secret h since
  pub secret : (n : ℕ) (since : History) → RunsSse n h since → (left.state ≡ ConfirmedSse) × (left.secret ≡ n)
  -- during it no record is sent or taken in
  pub none_counted : (n : ℕ) (since : History) → RunsSse n h since ⊎ HasEndedSse n h since →
      (data_sent since ≡ []) × (frames_received since ≡ [])

-- It is so after every list of calls to an entity that begins a run, for every kind of suite.
abbrev pub TellsEveryRun : Type 0
TellsEveryRun =
    (s : Scheme) → IsLawful s → (m : Model) → IsFresh m → (calls : List Call) →
    AllByRecursion IsGivenBytes calls →
    TellsSessions (entity_after s m calls) (history s m calls) (sheet_records (history s m calls))

-- So it is of the calls of a log, by the entries that a replay told of them.
abbrev pub TellsReplay : List Call → List t.Entry → List SheetRecord → Type 0
TellsReplay calls entries records =
    (s : Scheme) → IsLawful s → (m left : Model) → IsFresh m → IsReplay s m calls left entries →
    TellsSessions left (transcript_history calls entries) records
