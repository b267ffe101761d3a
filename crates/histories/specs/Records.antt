-- The records of a history, session by session.
use Rattle.std.specs.Prelude.{◌≡◌, ℕ, true, cond, ◌&&◌, ◌⊎◌, List, [], ◌∷◌, ◌++◌, map, Result, ◌==◌}
use Rattle.protocol.specs.declared.outcomes.Outcome.{Outcome}
use Rattle.protocol.specs.declared.refusals.Refusal.{Refusal}
use Rattle.histories.specs.Histories.{Entry, History, session_started, serials_destroyed_in, is_member, Runs, data_sent_in, is_retrieval}

-- the session that runs after a call, by its answer and the session that ran before: 0 for none
abbrev pub next_session : ℕ → Result Outcome Refusal → ℕ
next_session n answer =
    cond (session_started answer == 0) (cond (is_member n (serials_destroyed_in answer)) 0 n) (session_started answer)

-- the link key of the session that runs after a history, 0 where none does
abbrev pub running_session : History → ℕ
running_session [] = 0
running_session (e ∷ h) = next_session (running_session h) e.answer

-- after the history the link session with link key n is over, and these calls were made in it; the last reports the link key destroyed
pub data HasEnded (n : ℕ) : History → History → Type 0 where
  ends : {e : Entry} {h since : History} → Runs n h since → is_member n (serials_destroyed_in e.answer) ≡ true →
      HasEnded n (e ∷ h) (e ∷ since)
  stays : {e : Entry} {h since : History} → HasEnded n h since → HasEnded n (e ∷ h) since

-- in the history there was a link session with link key n: it runs or is over
abbrev pub HasSession : ℕ → History → Type 0
HasSession n h = (since : History) × (Runs n h since ⊎ HasEnded n h since)

-- what became of the data of a record
pub data Direction : Type 0 where
  was_sent : Direction
  was_handed : Direction

-- a record that a user sent, or that a user was handed, in the session of that link key
pub record SessionRecord : Type 0 where
  pub session : ℕ
  pub direction : Direction
  pub plain : List ℕ

-- the record of an entry, in that session: none or one
abbrev pub records_in : ℕ → Entry → List SessionRecord
records_in session e =
    map (λ plain. record { session = session; direction = was_sent; plain = plain }) (data_sent_in e)
    ++ cond (is_retrieval e) (record { session = session; direction = was_handed; plain = e.written } ∷ []) []

-- the records of a history, the oldest first
abbrev pub session_records : History → List SessionRecord
session_records [] = []
session_records (e ∷ h) = session_records h ++ records_in (running_session h) e

-- a number for each direction
abbrev pub direction_number : Direction → ℕ
direction_number was_sent = 0
direction_number was_handed = 1

-- the data of the records of the session with link key n that went in that direction
abbrev pub data_of : ℕ → Direction → List SessionRecord → List (List ℕ)
data_of n direction [] = []
data_of n direction (c ∷ cs) =
    cond (c.session == n && direction_number c.direction == direction_number direction)
    (c.plain ∷ data_of n direction cs) (data_of n direction cs)
