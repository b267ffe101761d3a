-- What a history of calls tells: keys reported, link sessions, records.
use Rattle.std.specs.Prelude.{◌≡◌, ℕ, ◌<◌, Bool, true, false, cond, ◌||◌, List, [], ◌∷◌, ◌++◌, Ok, Err, Result, ◌==◌}
use Rattle.suite.specs.Meanings.{IsWellFormed}
use Rattle.suite.specs.Schemes.{Scheme}
use Rattle.protocol.specs.declared.states.State.TheVariants.{Idle}
use Rattle.protocol.specs.declared.refusals.Refusal.{Refusal}
use Rattle.protocol.specs.declared.outcomes.Outcome.{Outcome}
use Rattle.protocol.specs.Numbers.{confirmation_number}
use Rattle.protocol.specs.Models.{Model}
use Rattle.protocol.specs.Calls.{Call, invoke, send, retrieve_data, retrieve_secret, terminate, frame, release, CallEffect, call_effect}

-- an entity in Idle over a well-formed suite, with no key and nothing held
pub record IsFresh (m : Model) : Type 0 where
  pub formed : IsWellFormed m.means
  pub idle : m.state ≡ Idle
  pub no_live : m.means.live ≡ []
  pub no_secret : m.secret ≡ 0
  pub no_link : m.link ≡ 0
  pub none_held : m.held ≡ []

-- a call, what it answered and the bytes that it wrote
pub record Entry : Type 0 where
  pub call : Call
  pub answer : Result Outcome Refusal
  pub written : List ℕ

-- the newest call stands first
abbrev pub History : Type 0
History = List Entry

-- the entity after these calls
abbrev pub entity_after : Scheme → Model → List Call → Model
entity_after s m [] = m
entity_after s m (c ∷ before) = (call_effect s (entity_after s m before) c).model

-- the entry of a call, by what the call does
abbrev pub entry_of : Call → CallEffect → Entry
entry_of c t = record { call = c; answer = t.answer; written = t.reply }

-- the history of these calls on this entity
abbrev pub history : Scheme → Model → List Call → History
history s m [] = []
history s m (c ∷ before) = entry_of c (call_effect s (entity_after s m before) c) ∷ history s m before

-- Keys reported, the oldest first.

-- a serial in an outcome; 0 is none
abbrev pub serial_list : ℕ → List ℕ
serial_list n = cond (n == 0) [] (n ∷ [])

-- the serial that an answer reports made
abbrev pub serials_made_in : Result Outcome Refusal → List ℕ
serials_made_in (Err r) = []
serials_made_in (Ok o) = serial_list o.made

-- the serials that it reports destroyed, the link key's first
abbrev pub serials_destroyed_in : Result Outcome Refusal → List ℕ
serials_destroyed_in (Err r) = []
serials_destroyed_in (Ok o) = serial_list o.destroyed.link ++ serial_list o.destroyed.secret

-- all serials reported made
abbrev pub serials_made : History → List ℕ
serials_made [] = []
serials_made (e ∷ h) = serials_made h ++ serials_made_in e.answer

-- all serials reported destroyed
abbrev pub serials_destroyed : History → List ℕ
serials_destroyed [] = []
serials_destroyed (e ∷ h) = serials_destroyed h ++ serials_destroyed_in e.answer

-- whether a number stands in a list
abbrev pub is_member : ℕ → List ℕ → Bool
is_member n [] = false
is_member n (x ∷ xs) = n == x || is_member n xs

-- the numbers of the first list that do not stand in the second
abbrev pub difference : List ℕ → List ℕ → List ℕ
difference [] ys = []
difference (x ∷ xs) ys = cond (is_member x ys) (difference xs ys) (x ∷ difference xs ys)

-- no number stands twice
abbrev pub IsDistinct : List ℕ → Type 0
IsDistinct [] = Unit {0}
IsDistinct (x ∷ xs) = (is_member x xs ≡ false) × IsDistinct xs

-- Link sessions.

-- whether a call is answered with that confirmation
abbrev pub has_confirmation : ℕ → Result Outcome Refusal → Bool
has_confirmation n (Err r) = false
has_confirmation n (Ok o) = confirmation_number o.confirmation == n

-- the link key of the session that an answer starts: made with confirmation 1; 0 if it starts none
abbrev pub session_started : Result Outcome Refusal → ℕ
session_started (Err r) = 0
session_started (Ok o) = cond (confirmation_number o.confirmation == 1) o.made 0

-- after the history the link session with link key n runs, and these calls were made in it since its start
pub data Runs (n : ℕ) : History → History → Type 0 where
  starts : {e : Entry} {h : History} → 0 < n → session_started e.answer ≡ n → Runs n (e ∷ h) []
  goes_on : {e : Entry} {h since : History} → Runs n h since →
      is_member n (serials_destroyed_in e.answer) ≡ false → Runs n (e ∷ h) (e ∷ since)

-- some link session runs
abbrev pub SomeRuns : History → Type 0
SomeRuns h = (n : ℕ) × ((since : History) × Runs n h since)

-- Records, the oldest first.

-- the data that a send is given
abbrev pub data_given : Call → List (List ℕ)
data_given (invoke service pid seed room) = []
data_given (send plain room) = plain ∷ []
data_given (retrieve_data room) = []
data_given (retrieve_secret room) = []
data_given (terminate room) = []
data_given (frame bytes beside room) = []
data_given release = []

-- the bytes that a frame call is given
abbrev pub frame_given : Call → List (List ℕ)
frame_given (invoke service pid seed room) = []
frame_given (send plain room) = []
frame_given (retrieve_data room) = []
frame_given (retrieve_secret room) = []
frame_given (terminate room) = []
frame_given (frame bytes beside room) = bytes ∷ []
frame_given release = []

-- the data of a record sent: a send with confirmation 2
abbrev pub data_sent_in : Entry → List (List ℕ)
data_sent_in e = cond (has_confirmation 2 e.answer) (data_given e.call) []

-- the frame of a record received: a frame with confirmation 3
abbrev pub frames_received_in : Entry → List (List ℕ)
frames_received_in e = cond (has_confirmation 3 e.answer) (frame_given e.call) []

-- the data of all records sent
abbrev pub data_sent : History → List (List ℕ)
data_sent [] = []
data_sent (e ∷ h) = data_sent h ++ data_sent_in e

-- the frames of all records received
abbrev pub frames_received : History → List (List ℕ)
frames_received [] = []
frames_received (e ∷ h) = frames_received h ++ frames_received_in e

-- whether a call is not refused
abbrev pub is_answered : Result Outcome Refusal → Bool
is_answered (Err r) = false
is_answered (Ok o) = true

-- a call that hands data over to the user: retrieve data, not refused
abbrev pub is_retrieved_by : Result Outcome Refusal → Call → Bool
is_retrieved_by a (invoke service pid seed room) = false
is_retrieved_by a (send plain room) = false
is_retrieved_by a (retrieve_data room) = is_answered a
is_retrieved_by a (retrieve_secret room) = false
is_retrieved_by a (terminate room) = false
is_retrieved_by a (frame bytes beside room) = false
is_retrieved_by a release = false

-- whether an entry is of such a call
abbrev pub is_retrieval : Entry → Bool
is_retrieval e = is_retrieved_by e.answer e.call

-- the data handed over
abbrev pub data_handed : History → List (List ℕ)
data_handed [] = []
data_handed (e ∷ h) = data_handed h ++ cond (is_retrieval e) (e.written ∷ []) []
