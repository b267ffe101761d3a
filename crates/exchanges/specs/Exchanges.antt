-- What comes of an exchange whose frames are passed on unaltered.
use Rattle.std.specs.Prelude.{◌≡◌, ℕ, ◌+◌, ◌<◌, ◌≤◌, true, List, [], ◌∷◌, ◌++◌, length, Some}
use Rattle.std.specs.List.{AllByRecursion}
use Rattle.frame.specs.declared.types.Service.{Service}
use Rattle.frame.specs.declared.types.Service.TheVariants.{Sse, Sch}
use Rattle.suite.specs.declared.limits.TheConstants.{MAX_DATA}
use Rattle.suite.specs.declared.types.Role.{Role}
use Rattle.suite.specs.declared.types.Role.TheVariants.{Sender, Recipient}
use Rattle.suite.specs.declared.types.KeyKind.TheVariants.{LinkKey}
use Rattle.suite.specs.Meanings.{Meaning, IsBytes, IsBytes16, IsWellFormed, value_in}
use Rattle.suite.specs.Schemes.{Scheme, IsLawful, DependsOnRootAndValue}
use Rattle.protocol.specs.declared.states.State.{State}
use Rattle.protocol.specs.declared.states.State.TheVariants.{Idle, ConfirmedSse, ConfirmedSch}
use Rattle.protocol.specs.Models.{Model, new_model}
use Rattle.protocol.specs.Calls.{Call, IsGivenBytes, retrieve_secret, call_effect}
use Rattle.histories.specs.Histories.{History, IsFresh, entity_after, history, has_confirmation, is_answered, data_sent, data_handed}
use Rattle.histories.specs.Sessions.{encs_sent, GetsOnlyCopies, RunningSession}
use Rattle.exchanges.specs.Peers.{Peer, Peers, last_answer, last_written, after_frame, SetUp, activated_peers, Transfer, from_one, from_other, swapped_peers, after_send, after_transfer, after_transfers, data_from_one, data_from_other, terminated_peers}

-- a new entity over a suite without keys is fresh, so that every promise holds of its runs
abbrev pub NewIsFresh : Type 0
NewIsFresh = (means : Meaning) → IsWellFormed means → means.live ≡ [] → IsFresh (new_model means)

-- Activations.

-- the keys that a service takes
abbrev pub keys_for : Service → ℕ
keys_for Sse = 1
keys_for Sch = 2

-- well-formed suites, one root, no live key, enough serials; a seed of sixteen bytes
pub record IsReady (service : Service) (x : SetUp) : Type 0 where
  pub mine_formed : IsWellFormed x.mine
  pub theirs_formed : IsWellFormed x.theirs
  pub roots : x.theirs.root ≡ x.mine.root
  pub mine_none : x.mine.live ≡ []
  pub theirs_none : x.theirs.live ≡ []
  pub mine_left : x.mine.newest + keys_for service ≤ x.mine.last
  pub theirs_left : x.theirs.newest + keys_for service ≤ x.theirs.last
  pub seed_is : IsBytes16 x.seed

-- the other role
abbrev pub other_role : Role → Role
other_role Sender = Recipient
other_role Recipient = Sender

-- the state in which a service is in effect
abbrev pub confirmed_state : Service → State
confirmed_state Sse = ConfirmedSse
confirmed_state Sch = ConfirmedSch

-- in the Confirmed state of a service
pub record IsConfirmed (v : Service) (m : Model) : Type 0 where
  pub state : m.state ≡ confirmed_state v
  pub service : m.service ≡ v

-- in a link session whose key has this value, with nothing held
pub record IsInLink (value : List ℕ) (m : Model) : Type 0 where
  pub formed : IsWellFormed m.means
  pub confirmed : IsConfirmed Sch m
  pub none_held : m.held ≡ []
  pub key : value_in m.means.live LinkKey m.link ≡ Some value

-- two link sessions whose link keys have this value, at one number, in opposite roles
pub record IsMatched (value : List ℕ) (number : ℕ) (d : Peers) : Type 0 where
  pub mine : IsInLink value d.one.model
  pub theirs : IsInLink value d.other.model
  pub roles : d.other.model.role ≡ other_role d.one.model.role
  pub mine_at : d.one.model.number ≡ number
  pub theirs_at : d.other.model.number ≡ number

-- the calls of a history, the newest first
abbrev pub calls_in : History → List Call
calls_in [] = []
calls_in (e ∷ h) = e.call ∷ calls_in h

-- The calls of the peer's past were given bytes. The peer is what they leave of a new entity over the suite, with their history.
pub record IsRun (s : Scheme) (means : Meaning) (e : Peer) : Type 0 where
  pub bytes : AllByRecursion IsGivenBytes (calls_in e.past)
  pub model : e.model ≡ entity_after s (new_model means) (calls_in e.past)
  pub past : e.past ≡ history s (new_model means) (calls_in e.past)

-- and in this run a link session runs: that of the peer's link key, which has this value
pub record LinkRun (s : Scheme) (means : Meaning) (value : List ℕ) (e : Peer) : Type 0 where
  pub run : IsRun s means e
  pub since : History
  pub session : RunningSession s (new_model means) (calls_in e.past) e.model.link value since

-- The two peers are in link sessions whose link keys have this value, and each got only ENCs that are copies of those sent in the two: what is
-- promised of such sessions holds of these, both ways.
pub record IsJoined (s : Scheme) (x : SetUp) (value : List ℕ) (d : Peers) : Type 0 where
  pub mine : LinkRun s x.mine value d.one
  pub theirs : LinkRun s x.theirs value d.other
  pub mine_copies : GetsOnlyCopies (encs_sent mine.since ++ encs_sent theirs.since) mine.since
  pub their_copies : GetsOnlyCopies (encs_sent theirs.since ++ encs_sent mine.since) theirs.since

-- both in Confirmed_SCH with confirmation 1, matched at the first number and joined, by one value, and no record was sent or handed over yet
pub record IsLinked (s : Scheme) (x : SetUp) (d : Peers) : Type 0 where
  pub value : List ℕ
  pub mine : has_confirmation 1 (last_answer d.one.past) ≡ true
  pub theirs : has_confirmation 1 (last_answer d.other.past) ≡ true
  pub matched : IsMatched value s.first d
  pub joined : IsJoined s x value d
  pub none_sent : (data_sent d.one.past ≡ []) × (data_sent d.other.past ≡ [])
  pub none_handed : (data_handed d.one.past ≡ []) × (data_handed d.other.past ≡ [])

-- any two entities that are ready are linked
abbrev pub LinkSucceeds : Type 0
LinkSucceeds =
    (s : Scheme) → IsLawful s → DependsOnRootAndValue s → (x : SetUp) → IsReady Sch x →
    IsLinked s x (activated_peers s Sch x)

-- both in Confirmed_SSE with confirmation 1, and both users retrieve the same sixteen bytes
pub record SharesSecret (s : Scheme) (d : Peers) (room : ℕ) : Type 0 where
  pub mine : has_confirmation 1 (last_answer d.one.past) ≡ true
  pub theirs : has_confirmation 1 (last_answer d.other.past) ≡ true
  pub mine_in : IsConfirmed Sse d.one.model
  pub theirs_in : IsConfirmed Sse d.other.model
  pub mine_answered : is_answered (call_effect s d.one.model (retrieve_secret room)).answer ≡ true
  pub theirs_answered : is_answered (call_effect s d.other.model (retrieve_secret room)).answer ≡ true
  pub long : length (call_effect s d.one.model (retrieve_secret room)).reply ≡ 16
  pub same : (call_effect s d.other.model (retrieve_secret room)).reply ≡ (call_effect s d.one.model (retrieve_secret room)).reply

-- or share a secret
abbrev pub SecretSucceeds : Type 0
SecretSucceeds = (s : Scheme) → IsLawful s → DependsOnRootAndValue s → (x : SetUp) → IsReady Sse x →
    (room : ℕ) → 16 ≤ room → SharesSecret s (activated_peers s Sse x) room

-- Records.

-- the data of a record
pub record IsRecordData (plain : List ℕ) : Type 0 where
  pub some : 0 < length plain
  pub most : length plain ≤ MAX_DATA
  pub bytes : IsBytes plain

-- each transfer is of the data of a record
abbrev pub AllRecordData : List Transfer → Type 0
AllRecordData [] = Unit {0}
AllRecordData (from_one plain ∷ later) = IsRecordData plain × AllRecordData later
AllRecordData (from_other plain ∷ later) = IsRecordData plain × AllRecordData later

-- the record is confirmed sent and available, and exactly its bytes are retrieved; the sessions stay matched
pub record Arrives (s : Scheme) (value : List ℕ) (number : ℕ) (d : Peers) (plain : List ℕ) : Type 0 where
  pub confirmed : has_confirmation 2 (last_answer (after_send s d.one plain).past) ≡ true
  pub available : has_confirmation 3 (last_answer (after_frame s d.other (after_send s d.one plain)).past) ≡ true
  pub retrieved : is_answered (last_answer (after_transfer s d plain).other.past) ≡ true
  pub exactly : last_written (after_transfer s d plain).other.past ≡ plain
  pub matched : IsMatched value (number + 1) (after_transfer s d plain)

-- two matched sessions hand over one record
abbrev pub RecordPasses : Type 0
RecordPasses = (s : Scheme) → IsLawful s →
    (value : List ℕ) (number : ℕ) (d : Peers) → s.first ≤ number → number < s.final → IsMatched value number d →
    (plain : List ℕ) → IsRecordData plain → Arrives s value number d plain

-- between d and e these were sent and handed over, each to the other's user, all of them and in their order
pub record HandsOver (d e : Peers) (transfers : List Transfer) : Type 0 where
  pub sent_here : data_sent e.one.past ≡ data_sent d.one.past ++ data_from_one transfers
  pub handed_there : data_handed e.other.past ≡ data_handed d.other.past ++ data_from_one transfers
  pub sent_there : data_sent e.other.past ≡ data_sent d.other.past ++ data_from_other transfers
  pub handed_here : data_handed e.one.past ≡ data_handed d.one.past ++ data_from_other transfers

-- two matched sessions hand over any records, as far as the numbers reach, and stay matched
abbrev pub RecordsPass : Type 0
RecordsPass = (s : Scheme) → IsLawful s →
    (value : List ℕ) (number : ℕ) (d : Peers) → s.first ≤ number → IsMatched value number d →
    (transfers : List Transfer) → AllRecordData transfers → number + length transfers ≤ s.final →
    IsMatched value (number + length transfers) (after_transfers s d transfers) × HandsOver d (after_transfers s d transfers) transfers

-- what two users get whose new entities are linked: all that was sent, and nothing else; the two stay matched and joined, by one value
pub record AllArrives (s : Scheme) (x : SetUp) (d : Peers) (transfers : List Transfer) : Type 0 where
  pub sent_here : data_sent d.one.past ≡ data_from_one transfers
  pub handed_there : data_handed d.other.past ≡ data_from_one transfers
  pub sent_there : data_sent d.other.past ≡ data_from_other transfers
  pub handed_here : data_handed d.one.past ≡ data_from_other transfers
  pub value : List ℕ
  pub matched : IsMatched value (s.first + length transfers) d
  pub joined : IsJoined s x value d

-- so it is with any transfers of two entities that were ready
abbrev pub TransfersSucceed : Type 0
TransfersSucceed = (s : Scheme) → IsLawful s → DependsOnRootAndValue s → (x : SetUp) → IsReady Sch x →
    (transfers : List Transfer) → AllRecordData transfers → s.first + length transfers ≤ s.final →
    AllArrives s x (after_transfers s (activated_peers s Sch x) transfers) transfers

-- Termination.

-- both in Idle with confirmation 4
pub record IsTerminated (d : Peers) : Type 0 where
  pub mine : has_confirmation 4 (last_answer d.one.past) ≡ true
  pub theirs : has_confirmation 4 (last_answer d.other.past) ≡ true
  pub mine_idle : d.one.model.state ≡ Idle
  pub theirs_idle : d.other.model.state ≡ Idle

-- two entities confirmed in one service terminate it
abbrev pub TerminationSucceeds : Type 0
TerminationSucceeds =
    (s : Scheme) (service : Service) (d : Peers) → IsConfirmed service d.one.model →
    IsConfirmed service d.other.model →
    IsTerminated (terminated_peers s d)

-- neither suite has a live key
abbrev pub HasNoKeyLeft : Peers → Type 0
HasNoKeyLeft d = (d.one.model.means.live ≡ []) × (d.other.model.means.live ≡ [])

-- whichever of the two terminates, both are in Idle, and no key is left
pub record EndsWell (s : Scheme) (d : Peers) : Type 0 where
  pub mine : IsTerminated (terminated_peers s d)
  pub mine_gone : HasNoKeyLeft (terminated_peers s d)
  pub theirs : IsTerminated (terminated_peers s (swapped_peers d))
  pub theirs_gone : HasNoKeyLeft (terminated_peers s (swapped_peers d))

-- a link after any transfers
abbrev pub LinkEnds : Type 0
LinkEnds = (s : Scheme) → IsLawful s → DependsOnRootAndValue s → (x : SetUp) → IsReady Sch x →
    (transfers : List Transfer) → AllRecordData transfers → s.first + length transfers ≤ s.final →
    EndsWell s (after_transfers s (activated_peers s Sch x) transfers)

-- and a shared secret
abbrev pub SecretEnds : Type 0
SecretEnds =
    (s : Scheme) → IsLawful s → DependsOnRootAndValue s → (x : SetUp) → IsReady Sse x →
    EndsWell s (activated_peers s Sse x)

-- there are entities ready for a link
abbrev pub SomeIsReady : Type 0
SomeIsReady = (x : SetUp) × IsReady Sch x

-- all of it together
pub record ExchangePromises : Type 0 where
  pub news_fresh : NewIsFresh
  pub some_ready : SomeIsReady
  pub links : LinkSucceeds
  pub secrets : SecretSucceeds
  pub record_passes : RecordPasses
  pub records_pass : RecordsPass
  pub transfers : TransfersSucceed
  pub terminations : TerminationSucceeds
  pub link_ends : LinkEnds
  pub secret_ends : SecretEnds
