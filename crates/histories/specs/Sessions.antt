-- Two link sessions with equal link keys.
use Rattle.std.specs.Prelude.{◌≡◌, ◌≢◌, ℕ, true, cond, ◌⊎◌, List, [], ◌∷◌, ◌++◌, Some, None, Option}
use Rattle.std.proofs.Common.{inl, inr}
use Rattle.suite.specs.declared.types.KeyKind.TheVariants.{LinkKey}
use Rattle.suite.specs.Meanings.{Keyring, keyring_of, value_in}
use Rattle.suite.specs.Schemes.{Scheme}
use Rattle.protocol.specs.Models.{Model}
use Rattle.protocol.specs.Calls.{Call, invoke, send, retrieve_data, retrieve_secret, terminate, frame, release, call_effect}
use Rattle.histories.specs.Histories.{Entry, History, entry_of, serials_destroyed_in, entity_after, history, Runs, has_confirmation, is_member}

-- the frame that a send wrote
abbrev pub frame_written : List ℕ → Call → List (List ℕ)
frame_written written (invoke service pid seed room) = []
frame_written written (send plain room) = written ∷ []
frame_written written (retrieve_data room) = []
frame_written written (retrieve_secret room) = []
frame_written written (terminate room) = []
frame_written written (frame bytes beside room) = []
frame_written written release = []

-- the ENC of a record sent: what the send wrote
abbrev pub encs_sent_in : Entry → List (List ℕ)
encs_sent_in e = cond (has_confirmation 2 e.answer) (frame_written e.written e.call) []

-- those of all calls, the oldest first
abbrev pub encs_sent : History → List (List ℕ)
encs_sent [] = []
encs_sent (e ∷ h) = encs_sent h ++ encs_sent_in e

-- the number of what was opened, if it was good
abbrev pub opened_number : Option (ℕ × ℕ × List ℕ) → List ℕ
opened_number None = []
opened_number (Some t) = t.1 ∷ []

-- the number that an ENC, its first byte with it, opens to under a link key, by the keyring, and the key's serial and value
abbrev pub enc_number : Scheme → Keyring → ℕ → List ℕ → List ℕ → List ℕ
enc_number s k serial value [] = []
enc_number s k serial value (b ∷ payload) = opened_number (s.open_of k serial value payload)

-- the numbers that ENCs open to
abbrev pub enc_numbers : Scheme → Keyring → ℕ → List ℕ → List (List ℕ) → List ℕ
enc_numbers s k serial value [] = []
enc_numbers s k serial value (x ∷ xs) = enc_number s k serial value x ++ enc_numbers s k serial value xs

-- it is one of these
abbrev pub IsMember : List ℕ → List (List ℕ) → Type 0
IsMember x [] = ⊥
IsMember x (y ∷ ys) = (x ≡ y) ⊎ IsMember x ys

-- a frame with SEP 14 is one of these
abbrev pub IsCopyIfEnc : List (List ℕ) → List ℕ → Type 0
IsCopyIfEnc copies [] = Unit {0}
IsCopyIfEnc copies (b ∷ rest) = b ≡ 0x14 → IsMember (b ∷ rest) copies

-- so is the frame that a call was given, if it was given one
abbrev pub GetsCopy : List (List ℕ) → Call → Type 0
GetsCopy copies (invoke service pid seed room) = Unit {0}
GetsCopy copies (send plain room) = Unit {0}
GetsCopy copies (retrieve_data room) = Unit {0}
GetsCopy copies (retrieve_secret room) = Unit {0}
GetsCopy copies (terminate room) = Unit {0}
GetsCopy copies (frame bytes beside room) = IsCopyIfEnc copies bytes
GetsCopy copies release = Unit {0}

-- every ENC that the calls were given is one of these
abbrev pub GetsOnlyCopies : List (List ℕ) → History → Type 0
GetsOnlyCopies copies [] = Unit {0}
GetsOnlyCopies copies (e ∷ h) = GetsCopy copies e.call × GetsOnlyCopies copies h

-- the first list is a subsequence of the second: in its order, each place used at most once
pub data IsSubsequence : List (List ℕ) → List (List ℕ) → Type 0 where
  done : {ys : List (List ℕ)} → IsSubsequence [] ys
  skip : {y : List ℕ} {xs ys : List (List ℕ)} → IsSubsequence xs ys → IsSubsequence xs (y ∷ ys)
  use' : {x : List ℕ} {xs ys : List (List ℕ)} → IsSubsequence xs ys → IsSubsequence (x ∷ xs) (x ∷ ys)

-- the first list begins the second
abbrev pub IsPrefix : List (List ℕ) → List (List ℕ) → Type 0
IsPrefix xs ys = (rest : List (List ℕ)) × (ys ≡ xs ++ rest)

-- after these calls the link session with link key n runs: its link key has this value, and these calls were made in it since its start
pub record RunningSession (s : Scheme) (m : Model) (calls : List Call) (n : ℕ) (value : List ℕ) (since : History) : Type 0 where
  pub runs : Runs n (history s m calls) since
  pub key : value_in (entity_after s m calls).means.live LinkKey n ≡ Some value

-- what one more call tells
abbrev pub next_entry : Scheme → Model → List Call → Call → Entry
next_entry s m calls c = entry_of c (call_effect s (entity_after s m calls) c)

-- after these calls it is over: its last call reported the link key destroyed
pub data EndedSession (s : Scheme) (m : Model) : List Call → ℕ → List ℕ → History → Type 0 where
  ends : {calls : List Call} {n : ℕ} {value : List ℕ} {since : History} (c : Call) →
      RunningSession s m calls n value since
      → is_member n (serials_destroyed_in (next_entry s m calls c).answer) ≡ true →
      EndedSession s m (c ∷ calls) n value (next_entry s m calls c ∷ since)
  stays : {calls : List Call} {n : ℕ} {value : List ℕ} {since : History} (c : Call) →
      EndedSession s m calls n value since
      → EndedSession s m (c ∷ calls) n value since

-- a link session of these calls, running or over
abbrev pub LinkSession : Scheme → Model → List Call → ℕ → List ℕ → History → Type 0
LinkSession s m calls n value since = RunningSession s m calls n value since ⊎ EndedSession s m calls n value since

-- the keyring of the suite after these calls
abbrev keyring_after : Scheme → Model → List Call → Keyring
keyring_after s m calls = keyring_of (entity_after s m calls).means

-- that of a session that is over, before its last call
abbrev keyring_then : {s : Scheme} {m : Model} {calls : List Call} {n : ℕ} {value : List ℕ} {since : History} →
    EndedSession s m calls n value since → Keyring
keyring_then {s} {m} (ends {calls} c x d) = keyring_after s m calls
keyring_then (stays c x) = keyring_then x

-- the keyring of a session's suite, the same in all of the session: no key is made in it, and none is destroyed before its end
abbrev pub keyring_at : {s : Scheme} {m : Model} {calls : List Call} {n : ℕ} {value : List ℕ} {since : History} →
    LinkSession s m calls n value since → Keyring
keyring_at {s} {m} {calls} (inl x) = keyring_after s m calls
keyring_at (inr x) = keyring_then x

-- no number was sent in both sessions
abbrev pub IsDisjoint : List ℕ → List ℕ → Type 0
IsDisjoint mine theirs = (n : ℕ) → is_member n mine ≡ true → is_member n theirs ≢ true
