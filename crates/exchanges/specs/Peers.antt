-- Two entities, and the calls by which frames are passed on unaltered between them.
use Rattle.std.specs.Prelude.{ℕ, ◌≤◌, List, [], ◌∷◌, length, Err, Result}
use Rattle.buffers.specs.declared.limits.TheConstants.{MAX_FRAME}
use Rattle.frame.specs.declared.types.Service.{Service}
use Rattle.suite.specs.declared.limits.TheConstants.{MAX_DATA}
use Rattle.suite.specs.Meanings.{Meaning, IsBytes16}
use Rattle.suite.specs.Schemes.{Scheme}
use Rattle.protocol.specs.declared.refusals.Refusal.{Refusal}
use Rattle.protocol.specs.declared.refusals.Refusal.TheVariants.{WrongState}
use Rattle.protocol.specs.declared.outcomes.Outcome.{Outcome}
use Rattle.protocol.specs.Models.{Model, Ancillary, new_model}
use Rattle.protocol.specs.Calls.{Call, invoke, send, retrieve_data, terminate, frame, call_effect}
use Rattle.histories.specs.Histories.{History, entry_of}

-- What a peer brings and lends at each call, by how many calls came before: what goes beside a frame, and how long the buffer is, for a reply
-- or for the data of a record. Each seed has sixteen bytes, and the buffers have room for every frame and every record.
pub record Supply : Type 0 where
  pub beside : ℕ → Ancillary
  pub room : ℕ → ℕ
  pub out : ℕ → ℕ
  pub seeds : (n : ℕ) → IsBytes16 (beside n).seed
  pub rooms : (n : ℕ) → MAX_FRAME ≤ room n
  pub outs : (n : ℕ) → MAX_DATA ≤ out n

-- an entity, the history of its calls, and what it has for each
pub record Peer : Type 0 where
  pub model : Model
  pub past : History
  pub supply : Supply

-- what it brings beside the frame of its next call
abbrev pub next_beside : Peer → Ancillary
next_beside e = e.supply.beside (length e.past)

-- the length of the buffer that it lends to this call for a reply
abbrev pub next_room : Peer → ℕ
next_room e = e.supply.room (length e.past)

-- and for data
abbrev pub next_out : Peer → ℕ
next_out e = e.supply.out (length e.past)

-- two peers: in an activation the one invokes, and the other is the Recipient
pub record Peers : Type 0 where
  pub one : Peer
  pub other : Peer

-- a new entity over a suite
abbrev pub new_peer : Meaning → Supply → Peer
new_peer means supply = record { model = new_model means; past = []; supply = supply }

-- one more call
abbrev pub after_call : Scheme → Peer → Call → Peer
after_call s e c =
    record e { model = (call_effect s e.model c).model; past = entry_of c (call_effect s e.model c) ∷ e.past }

-- what its last call answered
abbrev pub last_answer : History → Result Outcome Refusal
last_answer [] = Err WrongState
last_answer (e ∷ h) = e.answer

-- and what it wrote
abbrev pub last_written : History → List ℕ
last_written [] = []
last_written (e ∷ h) = e.written

-- the last bytes that the peer wrote, passed on
abbrev pub after_frame : Scheme → Peer → Peer → Peer
after_frame s to from = after_call s to (frame (last_written from.past) (next_beside to) (next_room to))

-- two suites with the supplies of their peers, and the seed that the one invokes with
pub record SetUp : Type 0 where
  pub mine : Meaning
  pub theirs : Meaning
  pub my_supply : Supply
  pub their_supply : Supply
  pub seed : List ℕ

-- The five calls of an activation: ACT_REQ is written, ACT_RES, VFY_REQ, VFY_RES, and nothing more.

-- the one invokes: ACT_REQ is sent
abbrev pub act_req_sent : Scheme → Service → SetUp → Peer
act_req_sent s service x =
    let new = new_peer x.mine x.my_supply in after_call s new (invoke service s.pid x.seed (next_room new))

-- the other receives it: ACT_RES is sent
abbrev pub act_res_sent : Scheme → Service → SetUp → Peer
act_res_sent s service x = after_frame s (new_peer x.theirs x.their_supply) (act_req_sent s service x)

-- the one receives that: VFY_REQ is sent
abbrev pub vfy_req_sent : Scheme → Service → SetUp → Peer
vfy_req_sent s service x = after_frame s (act_req_sent s service x) (act_res_sent s service x)

-- the other receives that: VFY_RES is sent
abbrev pub vfy_res_sent : Scheme → Service → SetUp → Peer
vfy_res_sent s service x = after_frame s (act_res_sent s service x) (vfy_req_sent s service x)

-- the one receives that, and sends nothing
abbrev pub vfy_res_received : Scheme → Service → SetUp → Peer
vfy_res_received s service x = after_frame s (vfy_req_sent s service x) (vfy_res_sent s service x)

-- the two after these five calls
abbrev pub activated_peers : Scheme → Service → SetUp → Peers
activated_peers s service x = record { one = vfy_res_received s service x; other = vfy_res_sent s service x }

-- Records.

-- data that the one sends, or the other
pub data Transfer : Type 0 where
  from_one : List ℕ → Transfer
  from_other : List ℕ → Transfer

-- the two with their places changed
abbrev pub swapped_peers : Peers → Peers
swapped_peers d = record { one = d.other; other = d.one }

-- data is given to be sent
abbrev pub after_send : Scheme → Peer → List ℕ → Peer
after_send s e plain = after_call s e (send plain (next_room e))

-- data is retrieved
abbrev pub after_retrieve : Scheme → Peer → Peer
after_retrieve s e = after_call s e (retrieve_data (next_out e))

-- one record: sent, passed on, and retrieved
abbrev pub after_transfer : Scheme → Peers → List ℕ → Peers
after_transfer s d plain =
    record { one = after_send s d.one plain; other = after_retrieve s (after_frame s d.other (after_send s d.one plain)) }

-- one record after the other
abbrev pub after_transfers : Scheme → Peers → List Transfer → Peers
after_transfers s d [] = d
after_transfers s d (from_one plain ∷ later) = after_transfers s (after_transfer s d plain) later
after_transfers s d (from_other plain ∷ later) =
    after_transfers s (swapped_peers (after_transfer s (swapped_peers d) plain)) later

-- what the one sends
abbrev pub data_from_one : List Transfer → List (List ℕ)
data_from_one [] = []
data_from_one (from_one plain ∷ later) = plain ∷ data_from_one later
data_from_one (from_other plain ∷ later) = data_from_one later

-- what the other sends
abbrev pub data_from_other : List Transfer → List (List ℕ)
data_from_other [] = []
data_from_other (from_one plain ∷ later) = data_from_other later
data_from_other (from_other plain ∷ later) = plain ∷ data_from_other later

-- the session is terminated
abbrev pub after_terminate : Scheme → Peer → Peer
after_terminate s e = after_call s e (terminate (next_room e))

-- the one terminates, and its TMN is passed on
abbrev pub terminated_peers : Scheme → Peers → Peers
terminated_peers s d = record { one = after_terminate s d.one; other = after_frame s d.other (after_terminate s d.one) }
