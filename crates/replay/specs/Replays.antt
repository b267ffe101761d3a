-- What a replay of a log tells, and leaves.
use Rattle.std.specs.Prelude.{◌≡◌, ℕ, List, [], ◌++◌, reverse}
use Rattle.std.specs.List.{AllByRecursion}
use Rattle.suite.specs.Schemes.{Scheme}
use Rattle.protocol.specs.Models.{Model}
use Rattle.protocol.specs.Calls.{Call, IsGivenBytes}
use Rattle.histories.specs.Histories.{History, IsFresh, entity_after, history}
use Rattle.histories.specs.Records.{was_sent, was_handed, session_records, data_of}
use Rattle.histories.specs.Sessions.{encs_sent, enc_numbers, GetsOnlyCopies, LinkSession, keyring_at}
use Rattle.promises.specs.Promises.{KeepsPromises, OpensAlike, Follows, RunPromises}
use Rattle.exchanges.specs.Exchanges.{ExchangePromises}
use Rattle.replay.specs.declared.entry.Entry.{Entry}
use Rattle.replay.specs.Entries.{transcript_history, HasRecordsInPlace, transcript_records}

-- what is promised of every run of calls, of every two link sessions, and of every undisturbed exchange
abbrev pub AllPromises : Type 0
AllPromises = RunPromises × ExchangePromises

-- the calls were made to an entity in their order
pub record IsReplay (s : Scheme) (m : Model) (calls : List Call) (left : Model) (entries : List Entry) : Type 0 where
  -- the entity, its suite's meaning with it, is what the history leaves
  pub model : left ≡ entity_after s m (reverse calls)
  -- log and entries tell the history of these calls on this entity
  pub tells_history : transcript_history calls entries ≡ history s m (reverse calls)
  -- there is an entry for each call, and a record stands at the entry of the call that sent it or handed it over
  pub in_place : HasRecordsInPlace [] calls entries
  -- the records that the entries tell are those of the history, session by session
  pub records : transcript_records entries ≡ session_records (history s m (reverse calls))
  -- what the calls were given are bytes
  pub bytes : AllByRecursion IsGivenBytes (reverse calls)
  -- so all that every run keeps holds of the entity as it is left and of the history told, if the entity was fresh
  pub kept : IsFresh m → KeepsPromises s left (transcript_history calls entries)

-- For two fresh entities over suites that open alike, the calls of a log to each and the entries told: of a link session of my calls and one
-- of theirs, with one value of the two link keys, if each ENC that mine got is a copy of one sent in the two, the data that my entries tell as
-- handed in my session follow those that their entries tell as sent in theirs.
abbrev pub RecordsFollow : (s t : Scheme) (m m' : Model) (calls calls' : List Call) (entries entries' : List Entry) →
    Type 0
RecordsFollow s t m m' calls calls' entries entries' =
    OpensAlike s t → IsFresh m → IsFresh m' → (value : List ℕ) (n n' : ℕ) (mine theirs : History) →
    (one : LinkSession s m (reverse calls) n value mine) (other : LinkSession t m' (reverse calls') n' value theirs) →
    GetsOnlyCopies (encs_sent mine ++ encs_sent theirs) mine →
    Follows (data_of n was_handed (transcript_records entries)) (data_of n' was_sent (transcript_records entries'))
    (enc_numbers s (keyring_at one) n value (encs_sent mine)) (enc_numbers t (keyring_at other) n' value (encs_sent theirs))
