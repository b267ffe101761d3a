-- What every run of calls keeps, and what two link sessions under equal link keys keep.
use Rattle.std.specs.Prelude.{◌≡◌, ◌≢◌, ℕ, ◌+◌, ◌≤◌, ◌⊎◌, true, false, List, [], ◌∷◌, ◌++◌, map, length, Some, Err, Result}
use Rattle.std.specs.List.{AllByRecursion}
use Rattle.buffers.specs.declared.limits.TheConstants.{MAX_FRAME, MAX_PAYLOAD}
use Rattle.suite.specs.declared.limits.TheConstants.{MAX_DATA}
use Rattle.suite.specs.declared.types.Role.{Role}
use Rattle.suite.specs.declared.types.KeyKind.TheVariants.{SharedSecret, LinkKey}
use Rattle.suite.specs.declared.types.Denial.{Denial}
use Rattle.suite.specs.declared.types.Denial.TheVariants.{Unfit, Unknown}
use Rattle.suite.specs.Numbers.{role_byte}
use Rattle.suite.specs.Meanings.{Meaning, Keyring, IsFormed, IsBytes, IsBytes16, IsWellFormed, value_in}
use Rattle.suite.specs.Schemes.{Scheme, IsLawful, IsOneKind}
use Rattle.suite.specs.Calls.{with_key, offer_result, agree_result, derive_result, check_result, reveal_result, seal_result, open_result, destroy_result}
use Rattle.protocol.specs.declared.states.State.TheVariants.{Idle, Select, ConfirmedSch}
use Rattle.protocol.specs.Models.{Model, HasLiveKeys, has_secret, without_key, idle_model}
use Rattle.protocol.specs.Calls.{Call, IsGivenBytes}
use Rattle.histories.specs.Histories.{History, IsFresh, entity_after, history, serials_made, serials_destroyed, difference, IsDistinct, Runs, SomeRuns, data_sent, frames_received, is_retrieval, data_handed}
use Rattle.histories.specs.Records.{running_session, HasEnded, HasSession, Direction, was_sent, was_handed, session_records, data_of}
use Rattle.histories.specs.Sessions.{encs_sent, enc_numbers, GetsOnlyCopies, IsSubsequence, IsPrefix, LinkSession, keyring_at, IsDisjoint}

-- Keys.

-- the serials of the live keys, the oldest first
abbrev pub live_serials : Meaning → List ℕ
live_serials m = map (λ k. k.serial) m.live

-- the keys live in the suite are exactly those reported made and not reported destroyed
pub record KeepsKeyAccount (m : Model) (h : History) : Type 0 where
  pub live : live_serials m.means ≡ difference (serials_made h) (serials_destroyed h)
  -- no serial is reported made twice, or destroyed twice, or destroyed and never made
  pub made_once : IsDistinct (serials_made h)
  pub destroyed_once : IsDistinct (serials_destroyed h)
  pub destroyed_made : difference (serials_destroyed h) (serials_made h) ≡ []
  pub none_idle : m.state ≡ Idle → m.means.live ≡ []
  -- an entity that is put away, in whatever state, leaves a suite with no live key
  pub put_away : (idle_model m).means.live ≡ []

-- Link sessions.

-- whenever a call handed data out, a link session ran
abbrev pub HandedInSession : History → Type 0
HandedInSession [] = Unit {0}
HandedInSession (e ∷ h) = (is_retrieval e ≡ true → SomeRuns h) × HandedInSession h

-- the state is Confirmed_SCH exactly while a link session runs
pub record KeepsSessions (s : Scheme) (m : Model) (h : History) : Type 0 where
  pub runs : m.state ≡ ConfirmedSch → SomeRuns h
  pub confirmed : (n : ℕ) (since : History) → Runs n h since → m.state ≡ ConfirmedSch
  -- the session's number is the serial of a live link key
  pub key : (n : ℕ) (since : History) → Runs n h since →
      (value : List ℕ) × (value_in m.means.live LinkKey n ≡ Some value)
  -- it is by this serial that the entity seals and opens
  pub link : (n : ℕ) (since : History) → Runs n h since → m.link ≡ n
  -- in a session the number is the first, and one more for each record sent or received since the start; it never passes the last
  pub number : (n : ℕ) (since : History) → Runs n h since →
      m.number ≡ s.first + length (data_sent since) + length (frames_received since)
  pub last : m.state ≡ ConfirmedSch → m.number ≤ s.final
  pub handed : HandedInSession h

-- What is told of link sessions.

-- the sessions and records read off the reports are those of the link sessions
pub record ReportsSessions (m : Model) (h : History) : Type 0 where
  -- the session read off is the one that runs; where none runs none is read off
  pub running : (n : ℕ) (since : History) → Runs n h since → running_session h ≡ n
  pub none : m.state ≢ ConfirmedSch → running_session h ≡ 0
  -- the records told of the session that runs are those of its calls, in their order
  pub sent_reported : (n : ℕ) (since : History) → Runs n h since → data_of n was_sent (session_records h) ≡ data_sent since
  pub handed_reported : (n : ℕ) (since : History) → Runs n h since →
      data_of n was_handed (session_records h) ≡ data_handed since
  -- so are those of a session that is over
  pub sent_over : (n : ℕ) (since : History) → HasEnded n h since →
      data_of n was_sent (session_records h) ≡ data_sent since
  pub handed_over : (n : ℕ) (since : History) → HasEnded n h since →
      data_of n was_handed (session_records h) ≡ data_handed since
  -- and no others are told
  pub no_others : (n : ℕ) (direction : Direction) → data_of n direction (session_records h) ≢ [] → HasSession n h

-- What the suite is asked.

-- an answer that is no denial as unfit or unknown
pub record IsWellAsked {A : Type 0} (answer : Result A Denial) : Type 0 where
  pub fit : answer ≢ Err Unfit
  pub known : answer ≢ Err Unknown

-- a key that can be asked for check values, for a link key and for its value
pub record ServesAsSecret (s : Scheme) (means : Meaning) (key : ℕ) : Type 0 where
  pub check : (role : Role) (room : ℕ) → MAX_FRAME ≤ room → IsWellAsked (check_result s means key (role_byte role) room)
  pub link : IsWellAsked (derive_result s means key)
  pub value : (room : ℕ) → 16 ≤ room → IsWellAsked (reveal_result means key room)

-- a key that can be asked to seal up to MAX_DATA bytes under any number up to the last, and to open any payload that a frame has room for
pub record ServesAsLink (s : Scheme) (means : Meaning) (key : ℕ) : Type 0 where
  pub seal : (role : Role) (n : ℕ) (plain : List ℕ) (room : ℕ) → length plain ≤ MAX_DATA → n ≤ s.final →
      MAX_FRAME ≤ room → IsWellAsked (seal_result s means key (role_byte role) n plain room)
  pub unseal : (payload : List ℕ) (room : ℕ) → length payload ≤ MAX_PAYLOAD → MAX_FRAME ≤ room →
      IsWellAsked (open_result s means key payload room)

-- Whatever a call asks of the suite, in the state that the entity is in, is not denied as unfit or unknown. What a call does is defined without
-- denials, by the values of live keys: it is with these that the suite answers.
pub record AsksWell (s : Scheme) (m : Model) : Type 0 where
  pub formed : IsWellFormed m.means
  -- the keys that a call works with are live
  pub live : HasLiveKeys m.means m.state m.secret m.link
  -- invoke and ACT_REQ ask for an offer, ACT_REQ and ACT_RES for an agreement; ACT_RES brings no seed, so one is kept
  pub offer : (seed : List ℕ) (room : ℕ) → length seed ≡ 16 → MAX_FRAME ≤ room →
      IsWellAsked (offer_result s m.means seed room)
  pub agreement : (seed offer : List ℕ) (role : Role) → length seed ≡ 16 →
      IsWellAsked (agree_result s m.means seed offer (role_byte role))
  pub kept_seed : m.state ≡ Select → length m.seed ≡ 16
  -- the call that agrees may ask at once for a check value of the new secret
  pub new_secret : has_secret m.state ≡ false → (value : List ℕ) →
      ServesAsSecret s (with_key m.means SharedSecret value) (m.means.newest + 1)
  -- VFY_REQ, VFY_RES and retrieve_secret ask for the shared secret, send and ENC for the link key
  pub secret : has_secret m.state ≡ true → ServesAsSecret s m.means m.secret
  pub link : m.state ≡ ConfirmedSch → ServesAsLink s m.means m.link
  -- where Idle is entered the keys are destroyed, the link key first; 0 is none
  pub link_goes : m.link ≢ 0 → IsWellAsked (destroy_result m.means m.link)
  pub secret_goes : m.secret ≢ 0 → IsWellAsked (destroy_result (without_key m.means m.link) m.secret)

-- The promises.

-- what holds of an entity after a history
pub record KeepsPromises (s : Scheme) (m : Model) (h : History) : Type 0 where
  pub keys : KeepsKeyAccount m h
  pub sessions : KeepsSessions s m h
  pub reported : ReportsSessions m h
  pub suite : AsksWell s m
  -- in Idle the entity is as at the beginning, and a run begins anew
  pub anew : m.state ≡ Idle → IsFresh m

-- for every kind of suite, every fresh entity and every list of calls; so also of the entity that any call of a run is made to
abbrev pub EveryRun : Type 0
EveryRun =
    (s : Scheme) → IsLawful s → (m : Model) → IsFresh m → (calls : List Call) →
    AllByRecursion IsGivenBytes calls → KeepsPromises s (entity_after s m calls) (history s m calls)

-- every link session of a run has a link key's value, while it runs and once it is over
abbrev pub EverySession : Type 0
EverySession =
    (s : Scheme) → IsLawful s → (m : Model) → IsFresh m → (calls : List Call) →
    AllByRecursion IsGivenBytes calls →
    (n : ℕ) (since : History) → Runs n (history s m calls) since ⊎ HasEnded n (history s m calls) since →
    (value : List ℕ) × LinkSession s m calls n value since

-- Two sessions with equal link keys.

-- what is asked of the two kinds of suite: the same first number, and payloads that open to the same
pub record OpensAlike (s t : Scheme) : Type 0 where
  pub firsts : s.first ≡ t.first
  pub opens : (k : Keyring) (value payload : List ℕ) (serial : ℕ) → IsFormed k → IsBytes16 value →
      IsBytes payload → s.open_of k serial value payload ≡ t.open_of k serial value payload

-- so it is with suites of one kind
abbrev pub KindsOpenAlike : Type 0
KindsOpenAlike = (s t : Scheme) → IsOneKind s t → OpensAlike s t

-- and with the two exchanged
abbrev pub AlikeBothWays : Type 0
AlikeBothWays = (s t : Scheme) → OpensAlike s t → OpensAlike t s

-- so it is with being of one kind
abbrev pub KindsBothWays : Type 0
KindsBothWays = (s t : Scheme) → IsOneKind s t → IsOneKind t s

-- what was handed over in one session, beside what was sent in the other, and the numbers of the records sent in the two
pub record Follows (handed sent : List (List ℕ)) (mine theirs : List ℕ) : Type 0 where
  -- it is a subsequence of what was sent
  pub subsequence : IsSubsequence handed sent
  -- and its beginning if no number was sent in both
  pub prefix : IsDisjoint mine theirs → IsPrefix handed sent

-- For two fresh entities over suites that open alike, and a link session of the calls to each, with one value of the two link keys: if
-- each ENC that mine gets is a copy of one sent in the two, what is handed over in mine follows what is sent in theirs.
abbrev pub RecordsInOrder : Type 0
RecordsInOrder = (s t : Scheme) → IsLawful s → IsLawful t → OpensAlike s t →
    (m m' : Model) → IsFresh m → IsFresh m' →
    (calls calls' : List Call) → AllByRecursion IsGivenBytes calls → AllByRecursion IsGivenBytes calls' →
    (value : List ℕ) (n n' : ℕ) (mine theirs : History) (one : LinkSession s m calls n value mine) (other : LinkSession t m' calls' n' value theirs) →
    GetsOnlyCopies (encs_sent mine ++ encs_sent theirs) mine →
    Follows (data_handed mine) (data_sent theirs) (enc_numbers s (keyring_at one) n value (encs_sent mine)) (enc_numbers t (keyring_at other) n' value (encs_sent theirs))

-- all of it together
pub record RunPromises : Type 0 where
  pub every_run : EveryRun
  pub every_session : EverySession
  pub kinds_alike : KindsOpenAlike
  pub both_ways : AlikeBothWays
  pub kinds_both_ways : KindsBothWays
  pub ordered : RecordsInOrder
