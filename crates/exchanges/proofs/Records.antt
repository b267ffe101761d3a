-- A record that is sent in one of two matched link sessions is handed out in the other.
use Rattle.std.proofs.Common.{◌≡◌, ℕ, suc, ◌+◌, ◌<◌, ◌≤◌, true, false, eqb, List, [], ◌∷◌, ◌++◌, length, Some, sym, refl, ap, ◌∙◌, subst, inl, append_assoc, append-nil, arith, lit<}
use Rattle.buffers.specs.declared.limits.TheConstants.{MAX_PAYLOAD}
use Rattle.frame.specs.declared.types.Service.TheVariants.{Sch}
use Rattle.frame.specs.Frames.{enc}
use Rattle.suite.specs.declared.types.Role.{Role}
use Rattle.suite.specs.declared.types.Role.TheVariants.{Sender, Recipient}
use Rattle.suite.specs.declared.types.KeyKind.TheVariants.{LinkKey}
use Rattle.suite.specs.Numbers.{role_byte}
use Rattle.suite.specs.Meanings.{Meaning, Keyring, keyring_of, IsBytes, IsBytes16}
use Rattle.suite.specs.Schemes.{Scheme, IsLawful, IsSealable}
use Rattle.protocol.specs.declared.outcomes.Confirmation.TheVariants as conf
use Rattle.protocol.specs.Models.{Model, new_model}
use Rattle.protocol.specs.Steps.{frame_bytes}
use Rattle.protocol.specs.Calls.{Call, IsGivenBytes, send, retrieve_data, frame, CallEffect, call_effect}
use Rattle.histories.specs.Histories.{History, entry_of, entity_after, goes_on, has_confirmation, is_answered, data_sent, data_handed}
use Rattle.histories.specs.Sessions.{encs_sent, IsMember}
use Rattle.exchanges.specs.Peers.{Peer, Peers, next_beside, next_room, next_out, after_call, last_answer, last_written, after_frame, Transfer, from_one, from_other, swapped_peers, after_send, after_transfer, after_transfers, data_from_one, data_from_other}
use Rattle.exchanges.specs.Exchanges.{other_role, IsInLink, IsMatched, IsRecordData, AllRecordData, HandsOver, RecordsPass, RecordPasses, calls_in, IsRun}
use Rattle.suite.proofs.CallLaws.{role_ok}
use Rattle.suite.proofs.KeyLaws.{value_formed}
use Rattle.exchanges.proofs.Turns.{stepped, send_is, hear_is, data_is}
use Rattle.exchanges.proofs.Joints.{Among, in_back, among_more, among_both, only_more, Joint, turn_joint}

-- an entity over the same suite that names the same keys
pub record SameKeys (m m' : Model) : Type 0 where
  pub means : m'.means ≡ m.means
  pub secret : m'.secret ≡ m.secret
  pub link : m'.link ≡ m.link

-- one change after the other
pub same_after : {m m' m'' : Model} → SameKeys m m' → SameKeys m' m'' → SameKeys m m''
same_after a b = record { means = b.means ∙ a.means; secret = b.secret ∙ a.secret; link = b.link ∙ a.link }

-- one more call of a run
pub run_called : (s : Scheme) (means : Meaning) {e : Peer} (c : Call) → IsGivenBytes c → IsRun s means e → IsRun s means (after_call s e c)
run_called s means {e} c given r = record {
  bytes = (given, r.bytes);
  model = ap (λ z. (call_effect s z c).model) r.model;
  past =
      ap (λ z. entry_of c (call_effect s z c) ∷ e.past) r.model
      ∙ ap (λ z. entry_of c (call_effect s (entity_after s (new_model means) (calls_in e.past)) c) ∷ z) r.past;
}

-- the call by which these bytes are passed on to an end
abbrev pub hearing : Peer → List ℕ → Call
hearing to bytes = frame bytes (next_beside to) (next_room to)

-- so that it stays a run
pub run_receives : (s : Scheme) (means : Meaning) {to : Peer} (from : Peer) → IsBytes (last_written from.past) → IsRun s means to
    → IsRun s means (after_frame s to from)
run_receives s means {to} from b r = run_called s means (hearing to (last_written from.past)) (b, (to.supply.seeds (length to.past)).bytes) r

-- One record.

-- the history without its last call
abbrev earlier : History → History
earlier [] = []
earlier (e ∷ h) = h

-- between d and e this was sent and handed over
record Passed (value : List ℕ) (number : ℕ) (d : Peers) (plain : List ℕ) (e : Peers) : Type 0 where
  matched : IsMatched value (number + 1) e
  over : HandsOver d e (from_one plain ∷ [])
  confirmed : has_confirmation 2 (last_answer e.one.past) ≡ true
  available : has_confirmation 3 (last_answer (earlier e.other.past)) ≡ true
  retrieved : is_answered (last_answer e.other.past) ≡ true
  exactly : last_written e.other.past ≡ plain
  joint : Joint d → Joint e
  bytes : IsBytes (last_written e.one.past)
  mine_keys : SameKeys d.one.model e.one.model
  their_keys : SameKeys d.other.model e.other.model

-- an entity in a link session, at another number with nothing held
moved : {value : List ℕ} {m : Model} (number : ℕ) {held : List ℕ} → held ≡ [] → IsInLink value m
    → IsInLink value (record m { number = number; held = held })
moved number none i = record {
  formed = i.formed;
  confirmed = record { state = i.confirmed.state; service = i.confirmed.service };
  none_held = none;
  key = i.key;
}

-- the other role is another
opposite_differs : (r : Role) → eqb (role_byte r) (role_byte (other_role r)) ≡ false
opposite_differs Sender = refl
opposite_differs Recipient = refl

module _ (s : Scheme) (law : IsLawful s) (value : List ℕ) (number : ℕ) (d : Peers) (M : IsMatched value number d) (plain : List ℕ) (fit : IsRecordData plain)
    (low : s.first ≤ number) (below : number < s.final) where
  -- the two, and what the one seals

  abbrev sender : Model
  sender = d.one.model

  abbrev receiver : Model
  receiver = d.other.model

  abbrev mine_ring : Keyring
  mine_ring = keyring_of sender.means

  abbrev role : ℕ
  role = role_byte sender.role

  abbrev payload : List ℕ
  payload = s.seal_of mine_ring sender.link value role (sender.number + 1) plain

  -- the link key has sixteen bytes
  value16 : IsBytes16 value
  value16 = value_formed mine_ring LinkKey sender.link value M.mine.formed.keyring M.mine.key

  -- the record can be sealed; its payload is short, made of bytes, and opens to it
  can : IsSealable s (sender.number + 1) plain
  can = let at = M.mine_at in record { some = fit.some; most = fit.most; bytes = fit.bytes; low = omega arith; high = omega arith }

  size : length payload ≡ length plain + s.overhead
  size = law.seal_long mine_ring value plain sender.link role (sender.number + 1) M.mine.formed.keyring value16 (role_ok sender.role)

  short : length payload ≤ MAX_PAYLOAD
  short = let most = fit.most in let over = law.overhead_bound in omega (arith, size)

  sealed_bytes : IsBytes payload
  sealed_bytes =
      law.seal_bytes mine_ring value plain sender.link role (sender.number + 1) M.mine.formed.keyring value16 (role_ok sender.role) can

  opened : s.open_of (keyring_of receiver.means) receiver.link value payload ≡ Some (role, receiver.number + 1, plain)
  opened =
      law.opens mine_ring (keyring_of receiver.means) value plain sender.link receiver.link role (sender.number + 1)
      M.mine.formed.keyring M.theirs.formed.keyring value16 (role_ok sender.role) can
      ∙ ap (λ z. Some (role, z + 1, plain)) (M.mine_at ∙ sym M.theirs_at)

  differs : eqb role (role_byte receiver.role) ≡ false
  differs = ap (λ z. eqb role (role_byte z)) M.roles ∙ opposite_differs sender.role

  -- the three calls, by what they do
  abbrev seals : CallEffect
  seals = stepped (record sender { number = sender.number + 1 }) conf.DataSent 0 (frame_bytes Sch (enc payload))

  abbrev takes : CallEffect
  takes = stepped (record receiver { number = receiver.number + 1; held = plain }) conf.DataAvailable 0 []

  abbrev gives : CallEffect
  gives = stepped (record receiver { number = receiver.number + 1; held = [] }) conf.Nothing 0 plain

  -- which calls they are made by
  abbrev sending : Call
  sending = send plain (next_room d.one)

  abbrev retrieving : Call
  retrieving = retrieve_data (d.other.supply.out (suc (length d.other.past)))

  first : call_effect s sender sending ≡ seals
  first =
      let at = M.mine_at in
      send_is s sender plain fit (next_room d.one) (d.one.supply.rooms (length d.one.past)) value M.mine.confirmed M.mine.key (omega arith)

  second : call_effect s receiver (hearing d.other seals.reply) ≡ takes
  second =
      let at = M.theirs_at in
      let k = length d.other.past in
      hear_is s receiver plain fit (next_room d.other) (d.other.supply.rooms k) (next_beside d.other) (d.other.supply.seeds k)
      value payload role M.theirs (omega arith) short differs opened

  third : call_effect s takes.model retrieving ≡ gives
  third =
      let c = M.theirs.confirmed in
      let k = suc (length d.other.past) in
      data_is s takes.model plain fit (d.other.supply.out k) (d.other.supply.outs k) (record { state = c.state; service = c.service }) refl

  -- the two after these calls
  abbrev after_calls : CallEffect → CallEffect → CallEffect → Peers
  after_calls a b c = record {
    one = record d.one { model = a.model; past = entry_of sending a ∷ d.one.past };
    other = record d.other { model = c.model; past = entry_of retrieving c ∷ entry_of (hearing d.other a.reply) b ∷ d.other.past };
  }

  -- two joint sessions stay so: the frame that came is the one that was sent
  joint_by : Joint d → Joint (after_calls seals takes gives)
  joint_by j =
      let contents = encs_sent j.mine_since in
      let heard = encs_sent j.their_since in
      let said' = contents ++ (seals.reply ∷ []) in
      let heard' = heard ++ [] ++ [] in
      let more : Among contents said' = among_more contents (seals.reply ∷ []) in
      let same : Among heard heard' = λ z h. among_more (heard ++ []) [] z (among_more heard [] z h) in
      let copy : IsMember seals.reply (heard' ++ said') = in_back seals.reply heard' said' (in_back seals.reply contents (seals.reply ∷ []) (inl refl)) in
      record {
        mine_since = entry_of sending seals ∷ j.mine_since;
        their_since = entry_of retrieving gives ∷ entry_of (hearing d.other seals.reply) takes ∷ j.their_since;
        mine = goes_on j.mine refl;
        theirs = goes_on (goes_on j.theirs refl) refl;
        mine_copies = (tt, only_more (contents ++ heard) (said' ++ heard') (among_both contents heard said' heard' more same) j.mine_since j.mine_copies);
        their_copies = (
          tt,
          ((λ _. copy), only_more (heard ++ contents) (heard' ++ said') (among_both heard contents heard' said' same more) j.their_since j.their_copies),
        );
      }

  passed_by : Passed value number d plain (after_calls seals takes gives)
  passed_by = record {
    matched = record {
      mine = moved (sender.number + 1) M.mine.none_held M.mine;
      theirs = moved (receiver.number + 1) refl M.theirs;
      roles = M.roles;
      mine_at = ap (λ z. z + 1) M.mine_at;
      theirs_at = ap (λ z. z + 1) M.theirs_at;
    };
    over = record {
      sent_here = refl;
      handed_there = ap (λ z. z ++ (plain ∷ [])) (append-nil (data_handed d.other.past));
      sent_there = append-nil (data_sent d.other.past ++ []);
      handed_here = refl;
    };
    confirmed = refl;
    available = refl;
    retrieved = refl;
    exactly = refl;
    joint = joint_by;
    bytes = (lit< tt, sealed_bytes);
    mine_keys = record { means = refl; secret = refl; link = refl };
    their_keys = record { means = refl; secret = refl; link = refl };
  }

  -- so it is with the calls themselves
  pass : Passed value number d plain (after_transfer s d plain)
  pass =
      let hear : CallEffect → CallEffect = λ z. call_effect s receiver (hearing d.other z.reply) in
      let retrieve : CallEffect → CallEffect = λ z. call_effect s z.model retrieving in
      let P : CallEffect → CallEffect → CallEffect → Type 0 = λ a b c. Passed value number d plain (after_calls a b c) in
      subst (λ z. P z (hear z) (retrieve (hear z))) (sym first)
      (subst (λ z. P seals z (retrieve z)) (sym second)
      (subst (λ z. P seals takes z) (sym third) passed_by))

-- Many records.

-- what a talk does, which leads two matched sessions to the number k
pub record Goes (s : Scheme) (value : List ℕ) (k : ℕ) (d : Peers) (transfers : List Transfer) (e : Peers) : Type 0 where
  pub matched : IsMatched value k e
  pub over : HandsOver d e transfers
  pub mine_keys : SameKeys d.one.model e.one.model
  pub their_keys : SameKeys d.other.model e.other.model
  pub joint : Joint d → Joint e
  pub mine_run : (means : Meaning) → IsRun s means d.one → IsRun s means e.one
  pub their_run : (means : Meaning) → IsRun s means d.other → IsRun s means e.other

-- The other's records: the two change places.

twice : (r : Role) → other_role (other_role r) ≡ r
twice Sender = refl
twice Recipient = refl

turn_matched : (value : List ℕ) (number : ℕ) (d : Peers) → IsMatched value number d → IsMatched value number (swapped_peers d)
turn_matched value number d M = record {
  mine = M.theirs;
  theirs = M.mine;
  roles = sym (ap other_role M.roles ∙ twice d.one.model.role);
  mine_at = M.theirs_at;
  theirs_at = M.mine_at;
}

turn_goes : {s : Scheme} {value : List ℕ} {k : ℕ} (plain : List ℕ) {d e : Peers} → Goes s value k (swapped_peers d) (from_one plain ∷ []) e
    → Goes s value k d (from_other plain ∷ []) (swapped_peers e)
turn_goes {value} {k} plain {e} g = record {
  matched = turn_matched value k e g.matched;
  over = record {
    sent_here = g.over.sent_there;
    handed_there = g.over.handed_here;
    sent_there = g.over.sent_here;
    handed_here = g.over.handed_there;
  };
  mine_keys = g.their_keys;
  their_keys = g.mine_keys;
  joint = λ j. turn_joint (g.joint (turn_joint j));
  mine_run = g.their_run;
  their_run = g.mine_run;
}

-- One record and those that come later.

after_both : (a : List (List ℕ)) {b c : List (List ℕ)} (xs ys : List (List ℕ)) → b ≡ a ++ xs → c ≡ b ++ ys → c ≡ a ++ (xs ++ ys)
after_both a xs ys p q = q ∙ ap (λ z. z ++ ys) p ∙ append_assoc a xs ys

here_first : (r : Transfer) (later : List Transfer) → data_from_one (r ∷ []) ++ data_from_one later ≡ data_from_one (r ∷ later)
here_first (from_one plain) later = refl
here_first (from_other plain) later = refl

there_first : (r : Transfer) (later : List Transfer) → data_from_other (r ∷ []) ++ data_from_other later ≡ data_from_other (r ∷ later)
there_first (from_one plain) later = refl
there_first (from_other plain) later = refl

-- what the one sent, or the other, of a first record and of those that come later
joined_here : (r : Transfer) (later : List Transfer) (a : List (List ℕ)) {b c : List (List ℕ)} → b ≡ a ++ data_from_one (r ∷ []) → c ≡ b ++ data_from_one later
    → c ≡ a ++ data_from_one (r ∷ later)
joined_here r later a p q =
    after_both a (data_from_one (r ∷ [])) (data_from_one later) p q ∙ ap (λ z. a ++ z) (here_first r later)

joined_there : (r : Transfer) (later : List Transfer) (a : List (List ℕ)) {b c : List (List ℕ)} → b ≡ a ++ data_from_other (r ∷ []) → c ≡ b ++ data_from_other later
    → c ≡ a ++ data_from_other (r ∷ later)
joined_there r later a p q =
    after_both a (data_from_other (r ∷ [])) (data_from_other later) p q ∙ ap (λ z. a ++ z) (there_first r later)

joined : (r : Transfer) (later : List Transfer) {s : Scheme} {value : List ℕ} {k l : ℕ} {d e f : Peers} → Goes s value k d (r ∷ []) e
    → Goes s value l e later f → Goes s value l d (r ∷ later) f
joined r later {d} g h = record {
  matched = h.matched;
  over = record {
    sent_here = joined_here r later (data_sent d.one.past) g.over.sent_here h.over.sent_here;
    handed_there = joined_here r later (data_handed d.other.past) g.over.handed_there h.over.handed_there;
    sent_there = joined_there r later (data_sent d.other.past) g.over.sent_there h.over.sent_there;
    handed_here = joined_there r later (data_handed d.one.past) g.over.handed_here h.over.handed_here;
  };
  mine_keys = same_after g.mine_keys h.mine_keys;
  their_keys = same_after g.their_keys h.their_keys;
  joint = λ j. h.joint (g.joint j);
  mine_run = λ means r. h.mine_run means (g.mine_run means r);
  their_run = λ means r. h.their_run means (g.their_run means r);
}

-- no record
none_said : (s : Scheme) (value : List ℕ) (number : ℕ) (d : Peers) → IsMatched value number d → Goes s value number d [] d
none_said s value number d M = record {
  matched = M;
  over = record {
    sent_here = sym (append-nil _);
    handed_there = sym (append-nil _);
    sent_there = sym (append-nil _);
    handed_here = sym (append-nil _);
  };
  mine_keys = record { means = refl; secret = refl; link = refl };
  their_keys = record { means = refl; secret = refl; link = refl };
  joint = λ j. j;
  mine_run = λ means r. r;
  their_run = λ means r. r;
}

-- the same number in other words
at_number : {s : Scheme} {value : List ℕ} {n k : ℕ} {d e : Peers} {transfers : List Transfer} → n ≡ k → Goes s value n d transfers e → Goes s value k d transfers e
at_number {s} {value} {d} {e} {transfers} same g = subst (λ z. Goes s value z d transfers e) same g

module _ (s : Scheme) (law : IsLawful s) (value : List ℕ) where
  -- one record of the one
  transfer_goes : (number : ℕ) (d : Peers) (plain : List ℕ) → IsMatched value number d → IsRecordData plain → s.first ≤ number → number < s.final
      → Goes s value (number + 1) d (from_one plain ∷ []) (after_transfer s d plain)
  transfer_goes number d plain M fit low below =
      let p = pass s law value number d M plain fit low below in
      record {
        matched = p.matched;
        over = p.over;
        mine_keys = p.mine_keys;
        their_keys = p.their_keys;
        joint = p.joint;
        mine_run = λ means r. run_called s means (send plain (next_room d.one)) fit.bytes r;
        their_run = λ means r.
            let from = after_send s d.one plain in
            run_called s means (retrieve_data (next_out (after_frame s d.other from))) tt (run_receives s means from p.bytes r);
      }

  -- any records, as far as the numbers reach
  pub transfers_go : (number : ℕ) (d : Peers) → s.first ≤ number → IsMatched value number d → (transfers : List Transfer) → AllRecordData transfers
      → number + length transfers ≤ s.final → Goes s value (number + length transfers) d transfers (after_transfers s d transfers)
  transfers_go number d low M [] fit most = at_number (omega arith) (none_said s value number d M)
  transfers_go number d low M (from_one plain ∷ later) fit most =
      let g = transfer_goes number d plain M fit.0 (omega arith) (omega arith) in
      let h = transfers_go (number + 1) (after_transfer s d plain) (omega arith) g.matched later fit.1 (omega arith) in
      at_number (omega arith) (joined (from_one plain) later g h)
  transfers_go number d low M (from_other plain ∷ later) fit most =
      let g = turn_goes plain (transfer_goes number (swapped_peers d) plain (turn_matched value number d M) fit.0 (omega arith) (omega arith)) in
      let h = transfers_go (number + 1) (swapped_peers (after_transfer s (swapped_peers d) plain)) (omega arith) g.matched later fit.1 (omega arith) in
      at_number (omega arith) (joined (from_other plain) later g h)

pub records_pass : RecordsPass
records_pass s law value number d low M transfers fit most =
    let g = transfers_go s law value number d low M transfers fit most in
    (g.matched, g.over)

pub record_passes : RecordPasses
record_passes s law value number d low below M plain fit =
    let p = pass s law value number d M plain fit low below in
    record { confirmed = p.confirmed; available = p.available; retrieved = p.retrieved; exactly = p.exactly; matched = p.matched }
