-- What two users get whose new entities are linked, and that no key is left once they part.
use Rattle.std.proofs.Common.{◌≡◌, ◌+◌, ◌≤◌, List, [], ◌∷◌, ◌++◌, length, None, sym, refl, ap, ◌∙◌, subst, arith, lit≤}
use Rattle.frame.specs.declared.types.Service.{Service}
use Rattle.frame.specs.declared.types.Service.TheVariants.{Sse, Sch}
use Rattle.frame.specs.Frames.{tmn}
use Rattle.suite.specs.Schemes.{Scheme, IsLawful}
use Rattle.protocol.specs.declared.outcomes.Confirmation.TheVariants as conf
use Rattle.protocol.specs.Models.{Model, idle_model}
use Rattle.protocol.specs.Steps.{frame_bytes, idle_effect}
use Rattle.protocol.specs.Calls.{Call, terminate, CallEffect, call_effect}
use Rattle.histories.specs.Histories.{entry_of}
use Rattle.exchanges.specs.Peers.{Peers, next_beside, next_room, SetUp, swapped_peers, activated_peers, Transfer, after_transfers, data_from_one, data_from_other, terminated_peers}
use Rattle.exchanges.specs.Exchanges.{IsReady, IsConfirmed, AllRecordData, TransfersSucceed, IsTerminated, TerminationSucceeds, HasNoKeyLeft, EndsWell, LinkEnds, SecretEnds}
use Rattle.exchanges.proofs.Shapes.{Clears}
use Rattle.exchanges.proofs.Turns.{terminate_is, tmn_is}
use Rattle.exchanges.proofs.Joints.{joined}
use Rattle.exchanges.proofs.Records.{hearing, SameKeys, Goes, transfers_go}
use Rattle.exchanges.proofs.Activations.{Started, link_starts, secret_told, mine_activated, theirs_activated}

-- A talk after an activation.

-- what it does
transfers_of_new : (s : Scheme) → IsLawful s → (x : SetUp) → IsReady Sch x → (start : Started s (activated_peers s Sch x)) → (transfers : List Transfer) → AllRecordData transfers
    → s.first + length transfers ≤ s.final → Goes s start.value (s.first + length transfers) (activated_peers s Sch x) transfers (after_transfers s (activated_peers s Sch x) transfers)
transfers_of_new s law x r start transfers fit most =
    let low : s.first ≤ s.first = omega arith in
    transfers_go s law start.value s.first (activated_peers s Sch x) low start.matched transfers fit most

pub transfers_succeed : TransfersSucceed
transfers_succeed s law free x r transfers fit most =
    let start = link_starts s law free x r in
    let g = transfers_of_new s law x r start transfers fit most in
    record {
      sent_here = g.over.sent_here ∙ ap (λ z. z ++ data_from_one transfers) start.none_sent.0;
      handed_there = g.over.handed_there ∙ ap (λ z. z ++ data_from_one transfers) start.none_handed.1;
      sent_there = g.over.sent_there ∙ ap (λ z. z ++ data_from_other transfers) start.none_sent.1;
      handed_here = g.over.handed_here ∙ ap (λ z. z ++ data_from_other transfers) start.none_handed.0;
      value = start.value;
      matched = g.matched;
      joined = joined (g.mine_run x.mine (mine_activated s x start)) (g.their_run x.theirs (theirs_activated s x start)) g.matched (g.joint start.joint);
    }

-- The end.

-- both are left as entering Idle leaves them
record LeftIdle (d e : Peers) : Type 0 where
  terminated : IsTerminated e
  mine : e.one.model ≡ idle_model d.one.model
  theirs : e.other.model ≡ idle_model d.other.model

module _ (s : Scheme) (v : Service) (d : Peers) (mine : IsConfirmed v d.one.model) (theirs : IsConfirmed v d.other.model) where
  -- the two calls, by what they do
  abbrev ends : CallEffect
  ends = idle_effect d.one.model conf.Terminated (frame_bytes v (tmn [])) None

  abbrev ends' : CallEffect
  ends' = idle_effect d.other.model conf.Terminated [] None

  -- the first of them
  abbrev terminating : Call
  terminating = terminate (next_room d.one)

  first : call_effect s d.one.model terminating ≡ ends
  first = terminate_is s d.one.model (next_room d.one) (d.one.supply.rooms (length d.one.past)) v mine

  second : call_effect s d.other.model (hearing d.other ends.reply) ≡ ends'
  second =
      let k = length d.other.past in
      tmn_is s d.other.model (next_room d.other) (d.other.supply.rooms k) v (next_beside d.other) theirs (d.other.supply.seeds k)

  -- the two after these calls
  abbrev after_calls : CallEffect → CallEffect → Peers
  after_calls a b = record {
    one = record d.one { model = a.model; past = entry_of terminating a ∷ d.one.past };
    other = record d.other { model = b.model; past = entry_of (hearing d.other a.reply) b ∷ d.other.past };
  }

  -- both enter Idle
  ended_by : LeftIdle d (after_calls ends ends')
  ended_by = record { terminated = record { mine = refl; theirs = refl; mine_idle = refl; theirs_idle = refl }; mine = refl; theirs = refl }

  -- so it is with the calls themselves
  left_idle : LeftIdle d (terminated_peers s d)
  left_idle =
      let hear : CallEffect → CallEffect = λ z. call_effect s d.other.model (hearing d.other z.reply) in
      subst (λ z. LeftIdle d (after_calls z (hear z))) (sym first)
      (subst (λ z. LeftIdle d (after_calls ends z)) (sym second) ended_by)

pub termination_succeeds : TerminationSucceeds
termination_succeeds s v d mine theirs = (left_idle s v d mine theirs).terminated

-- with the same keys no key is left either
clear_after : {m m' : Model} → SameKeys m m' → Clears m → Clears m'
clear_after k h = rw (k.means, k.link, k.secret) h

-- none is left of the two
none_left : {d e : Peers} → LeftIdle d e → Clears d.one.model → Clears d.other.model → HasNoKeyLeft e
none_left p mine theirs = (ap (λ z. z.means.live) p.mine ∙ mine, ap (λ z. z.means.live) p.theirs ∙ theirs)

-- whichever terminates
ends_well : (s : Scheme) (v : Service) (d : Peers) → IsConfirmed v d.one.model → IsConfirmed v d.other.model → Clears d.one.model → Clears d.other.model
    → EndsWell s d
ends_well s v d mine theirs mine_clear their_clear =
    let p = left_idle s v d mine theirs in
    let q = left_idle s v (swapped_peers d) theirs mine in
    record {
      mine = p.terminated;
      mine_gone = none_left p mine_clear their_clear;
      theirs = q.terminated;
      theirs_gone = none_left q their_clear mine_clear;
    }

pub link_ends : LinkEnds
link_ends s law free x r transfers fit most =
    let start = link_starts s law free x r in
    let g = transfers_of_new s law x r start transfers fit most in
    let M = g.matched in
    ends_well s Sch (after_transfers s (activated_peers s Sch x) transfers) M.mine.confirmed M.theirs.confirmed
    (clear_after g.mine_keys start.mine_clear) (clear_after g.their_keys start.their_clear)

pub secret_ends : SecretEnds
secret_ends s law free x r =
    let told = secret_told s law free x r 16 (lit≤ tt) in
    ends_well s Sse (activated_peers s Sse x) told.shared.mine_in told.shared.theirs_in told.mine_clear told.their_clear
