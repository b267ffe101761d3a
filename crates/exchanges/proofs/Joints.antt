-- Two link sessions with equal link keys, to which no ENC came but copies.
use Rattle.std.proofs.Common.{ℕ, ◌⊎◌, List, [], ◌∷◌, ◌++◌, sym, ap, ◌∙◌, subst, inl, inr}
use Rattle.suite.specs.declared.types.KeyKind.TheVariants.{LinkKey}
use Rattle.suite.specs.Meanings.{Meaning, value_in}
use Rattle.suite.specs.Schemes.{Scheme}
use Rattle.protocol.specs.Calls.{Call, invoke, send, retrieve_data, retrieve_secret, terminate, frame, release}
use Rattle.histories.specs.Histories.{History, Runs}
use Rattle.histories.specs.Sessions.{encs_sent, IsMember, IsCopyIfEnc, GetsCopy, GetsOnlyCopies}
use Rattle.exchanges.specs.Peers.{Peer, Peers, SetUp, swapped_peers}
use Rattle.exchanges.specs.Exchanges.{IsInLink, IsMatched, IsRun, LinkRun, IsJoined}

-- Copies.

-- each frame of the first list is in the second
abbrev pub Among : List (List ℕ) → List (List ℕ) → Type 0
Among a b = (x : List ℕ) → IsMember x a → IsMember x b

in_front : (x : List ℕ) (a b : List (List ℕ)) → IsMember x a → IsMember x (a ++ b)
in_front x [] b h = absurd h
in_front x (y ∷ a) b h = elim h [ inl e ↦ inl e | inr k ↦ inr (in_front x a b k) ]

pub in_back : (x : List ℕ) (a b : List (List ℕ)) → IsMember x b → IsMember x (a ++ b)
in_back x [] b h = h
in_back x (y ∷ a) b h = inr (in_back x a b h)

in_either : (x : List ℕ) (a b : List (List ℕ)) → IsMember x (a ++ b) → IsMember x a ⊎ IsMember x b
in_either x [] b h = inr h
in_either x (y ∷ a) b h = elim h [ inl e ↦ inl (inl e) | inr k ↦ elim (in_either x a b k) [ inl i ↦ inl (inr i) | inr i ↦ inr i ] ]

-- a list with more behind it
pub among_more : (a b : List (List ℕ)) → Among a (a ++ b)
among_more a b x h = in_front x a b h

-- two lists, one behind the other
pub among_both : (a b c d : List (List ℕ)) → Among a c → Among b d → Among (a ++ b) (c ++ d)
among_both a b c d f g x h = elim (in_either x a b h) [ inl i ↦ in_front x c d (f x i) | inr i ↦ in_back x c d (g x i) ]

-- copies of these are copies of more
module _ (a b : List (List ℕ)) (more : Among a b) where
  copy_more : (bytes : List ℕ) → IsCopyIfEnc a bytes → IsCopyIfEnc b bytes
  copy_more [] h = tt
  copy_more (y ∷ rest) h = λ e. more (y ∷ rest) (h e)

  call_more : (c : Call) → GetsCopy a c → GetsCopy b c
  call_more (invoke service pid seed room) h = tt
  call_more (send plain room) h = tt
  call_more (retrieve_data room) h = tt
  call_more (retrieve_secret room) h = tt
  call_more (terminate room) h = tt
  call_more (frame bytes beside room) h = copy_more bytes h
  call_more release h = tt

  pub only_more : (h : History) → GetsOnlyCopies a h → GetsOnlyCopies b h
  only_more [] o = tt
  only_more (e ∷ h) o = (call_more e.call o.0, only_more h o.1)

-- The two sessions.

-- at both ends the link session of the end's link key runs, and no ENC came but copies
pub record Joint (d : Peers) : Type 0 where
  pub mine_since : History
  pub their_since : History
  pub mine : Runs d.one.model.link d.one.past mine_since
  pub theirs : Runs d.other.model.link d.other.past their_since
  pub mine_copies : GetsOnlyCopies (encs_sent mine_since ++ encs_sent their_since) mine_since
  pub their_copies : GetsOnlyCopies (encs_sent their_since ++ encs_sent mine_since) their_since

-- two sessions that have just started
pub new_joint : {d : Peers} → Runs d.one.model.link d.one.past [] → Runs d.other.model.link d.other.past [] → Joint d
new_joint r r' = record { mine_since = []; their_since = []; mine = r; theirs = r'; mine_copies = tt; their_copies = tt }

-- with the two exchanged
pub turn_joint : {d : Peers} → Joint d → Joint (swapped_peers d)
turn_joint j = record {
  mine_since = j.their_since;
  their_since = j.mine_since;
  mine = j.theirs;
  theirs = j.mine;
  mine_copies = j.their_copies;
  their_copies = j.mine_copies;
}

-- of an end that comes of a run, the session is one of that run
link_run : {s : Scheme} {means : Meaning} {value : List ℕ} {e : Peer} → IsRun s means e → IsInLink value e.model → (since : History)
    → Runs e.model.link e.past since → LinkRun s means value e
link_run {e} r i since x = record {
  run = r;
  since = since;
  session = record {
    runs = subst (λ h. Runs e.model.link h since) r.past x;
    key = sym (ap (λ m. value_in m.means.live LinkKey e.model.link) r.model) ∙ i.key;
  };
}

pub joined : {s : Scheme} {x : SetUp} {value : List ℕ} {number : ℕ} {d : Peers} → IsRun s x.mine d.one → IsRun s x.theirs d.other
    → IsMatched value number d → Joint d → IsJoined s x value d
unfolding link_run
joined r r' M j = record {
  mine = link_run r M.mine j.mine_since j.mine;
  theirs = link_run r' M.theirs j.their_since j.theirs;
  mine_copies = j.mine_copies;
  their_copies = j.their_copies;
}
