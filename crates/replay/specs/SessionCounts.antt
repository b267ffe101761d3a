-- What the code keeps of a session that runs.
use Rattle.std.specs.Prelude.{◌≡◌, ℕ, ◌≤◌, length, Some, None, Option}
use Rattle.histories.specs.Histories.{History, data_sent, frames_received}
use Rattle.replay.specs.declared.session.SessionSoFar.{SessionSoFar}
use Rattle.replay.specs.declared.session.Sessions.{Sessions}
use Rattle.replay.specs.SheetRecords.{OpenSession, open_session, last_made}

-- its record so far: the counts of its calls
abbrev pub counted : OpenSession → SessionSoFar
counted x = record {
  service = x.service;
  number = x.number;
  sent = length (data_sent x.since);
  taken = length (frames_received x.since);
}

-- if there is one
abbrev pub counted_session : Option OpenSession → Option SessionSoFar
counted_session None = None
counted_session (Some x) = Some (counted x)

-- what is kept after a history
pub record IsAfter (h : History) (sessions : Sessions) : Type 0 where
  -- the serial of the key that was made last
  pub newest : sessions.newest ≡ last_made h
  -- the session that runs, by its counts
  pub running : sessions.running ≡ counted_session (open_session h)

-- both counts are at most n
abbrev pub HasCountsTo : ℕ → Option SessionSoFar → Type 0
HasCountsTo n None = Unit {0}
HasCountsTo n (Some x) = (x.sent ≤ n) × (x.taken ≤ n)
