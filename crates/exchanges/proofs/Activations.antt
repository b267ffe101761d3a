-- Two new entities whose frames are passed on unaltered confirm each other.
use Rattle.std.proofs.Common.{◌≡◌, ℕ, ◌+◌, ◌<◌, ◌≤◌, true, false, eqb, ltb, List, [], ◌∷◌, length, sym, refl, ap, ◌∙◌, subst, arith, lit<, lit≤}
use Rattle.std.specs.List.{AllByRecursion}
use Rattle.std.proofs.lemmas.Bool.{le-ltb, eq-eqb, ne_eqb}
use Rattle.buffers.specs.declared.limits.TheConstants.{MAX_FRAME}
use Rattle.frame.specs.declared.types.Service.{Service}
use Rattle.frame.specs.declared.types.Service.TheVariants.{Sse, Sch}
use Rattle.frame.specs.Frames.{Contents, bytes_after_sep, act_req, act_res, vfy_req, vfy_res}
use Rattle.suite.specs.declared.limits.TheConstants.{MAX_DATA}
use Rattle.suite.specs.declared.types.Role.TheVariants.{Sender, Recipient}
use Rattle.suite.specs.Meanings.{Meaning, Keyring, keyring_of, IsBytes, IsBytes16, IsWellFormed}
use Rattle.suite.specs.Schemes.{Scheme, IsFormedUnder, IsLawful, DependsOnRootAndValue, is_role}
use Rattle.suite.proofs.CallLaws.{room_enough}
use Rattle.protocol.specs.declared.states.State.{State}
use Rattle.protocol.specs.declared.states.State.TheVariants.{EstablishedSender, EstablishedRecipient, ConfirmedSse}
use Rattle.protocol.specs.declared.outcomes.Confirmation.TheVariants as conf
use Rattle.protocol.specs.Models.{Model, new_model, no_seed}
use Rattle.protocol.specs.Steps.{frame_bytes}
use Rattle.protocol.specs.Calls.{Call, IsGivenBytes, invoke, frame, CallEffect, call_effect}
use Rattle.histories.specs.Histories.{History, entry_of, starts, has_confirmation, is_answered, data_sent, data_handed}
use Rattle.exchanges.specs.Peers.{Supply, Peers, new_peer, last_answer, SetUp, act_req_sent, act_res_sent, vfy_req_sent, vfy_res_sent, vfy_res_received, activated_peers}
use Rattle.exchanges.specs.Exchanges.{NewIsFresh, IsReady, other_role, IsInLink, IsMatched, LinkSucceeds, SharesSecret, SecretSucceeds, calls_in, IsRun, SomeIsReady}
use Rattle.exchanges.proofs.Shapes.{bare, agreed_suite, Base, base_of, bare_under, agreed_under, linked_in, one_gone, both_gone, selecting, sharing, linking, Clears}
use Rattle.exchanges.proofs.Turns.{stepped, ask_is, reply_is, check_is, confirm_sse, confirm_sch, complete_sse, complete_sch, tell_is}
use Rattle.exchanges.proofs.Joints.{Joint, new_joint, joined}
use Rattle.exchanges.proofs.Records.{run_called, run_receives}

-- An activation, by what each of its five calls does.
module _ (s : Scheme) (v : Service) (x : SetUp) where
  -- a frame passed on, to an end that has made so many calls
  abbrev heard : Supply → ℕ → CallEffect → Call
  heard u k from = frame from.reply (u.beside k) (u.room k)

  abbrev invoking : Call
  invoking = invoke v s.pid x.seed (x.my_supply.room 0)

  -- the two after five such turns
  abbrev peers_of : CallEffect → CallEffect → CallEffect → CallEffect → CallEffect → Peers
  peers_of t1 t2 t3 t4 t5 = record {
    one = record {
      model = t5.model;
      past = entry_of (heard x.my_supply 2 t4) t5 ∷ entry_of (heard x.my_supply 1 t2) t3 ∷ entry_of invoking t1 ∷ [];
      supply = x.my_supply;
    };
    other = record {
      model = t4.model;
      past = entry_of (heard x.their_supply 1 t3) t4 ∷ entry_of (heard x.their_supply 0 t1) t2 ∷ [];
      supply = x.their_supply;
    };
  }

  -- what holds after five turns holds of the activation whose calls do these
  five : (Q : Peers → Type 0) (t1 t2 t3 t4 t5 : CallEffect)
      → call_effect s (new_model x.mine) invoking ≡ t1
      → call_effect s (new_model x.theirs) (heard x.their_supply 0 t1) ≡ t2
      → call_effect s t1.model (heard x.my_supply 1 t2) ≡ t3
      → call_effect s t2.model (heard x.their_supply 1 t3) ≡ t4
      → call_effect s t3.model (heard x.my_supply 2 t4) ≡ t5
      → Q (peers_of t1 t2 t3 t4 t5) → Q (activated_peers s v x)
  five Q t1 t2 t3 t4 t5 e1 e2 e3 e4 e5 end =
      let h2 : CallEffect → CallEffect = λ a. call_effect s (new_model x.theirs) (heard x.their_supply 0 a) in
      let h3 : CallEffect → CallEffect → CallEffect = λ a b. call_effect s a.model (heard x.my_supply 1 b) in
      let h4 : CallEffect → CallEffect → CallEffect = λ b c. call_effect s b.model (heard x.their_supply 1 c) in
      let h5 : CallEffect → CallEffect → CallEffect = λ c d. call_effect s c.model (heard x.my_supply 2 d) in
      subst (λ a. let b = h2 a in let c = h3 a b in let d = h4 b c in Q (peers_of a b c d (h5 c d))) (sym e1)
      (subst (λ b. let c = h3 t1 b in let d = h4 b c in Q (peers_of t1 b c d (h5 c d))) (sym e2)
      (subst (λ c. let d = h4 t2 c in Q (peers_of t1 t2 c d (h5 c d))) (sym e3)
      (subst (λ d. Q (peers_of t1 t2 t3 d (h5 t3 d))) (sym e4)
      (subst (λ e. Q (peers_of t1 t2 t3 t4 e)) (sym e5) end))))

-- the calls of a history were given bytes
abbrev Given : History → Type 0
Given h = AllByRecursion IsGivenBytes (calls_in h)

-- two entities at the start of a link
pub record Started (s : Scheme) (d : Peers) : Type 0 where
  pub value : List ℕ
  pub mine : has_confirmation 1 (last_answer d.one.past) ≡ true
  pub theirs : has_confirmation 1 (last_answer d.other.past) ≡ true
  pub matched : IsMatched value s.first d
  pub joint : Joint d
  pub none_sent : (data_sent d.one.past ≡ []) × (data_sent d.other.past ≡ [])
  pub none_handed : (data_handed d.one.past ≡ []) × (data_handed d.other.past ≡ [])
  pub mine_given : Given d.one.past
  pub their_given : Given d.other.past
  pub mine_clear : Clears d.one.model
  pub their_clear : Clears d.other.model

-- and where both have the shared secret that they retrieve
pub record Told (s : Scheme) (room : ℕ) (d : Peers) : Type 0 where
  pub shared : SharesSecret s d room
  pub mine_clear : Clears d.one.model
  pub their_clear : Clears d.other.model

-- there is room, and seeds are as long as they are to be

wide : (u : Supply) (k : ℕ) → ltb (u.room k) MAX_FRAME ≡ false
wide u k = room_enough (u.room k) (u.rooms k)

sixteen : {xs : List ℕ} → IsBytes16 xs → eqb (length xs) 16 ≡ true
sixteen {xs} h = eq-eqb (length xs) 16 h.long

-- between two suites with one root and no key
module _ (s : Scheme) (law : IsLawful s) (free : DependsOnRootAndValue s) (root : List ℕ) (last last' n n' : ℕ) (u u' : Supply) (seed : List ℕ)
    (seed_is : IsBytes16 seed) (base : Base root last n) (base' : Base root last' n') where
  abbrev meeting : SetUp
  meeting = record { mine = bare root last n; theirs = bare root last' n'; my_supply = u; their_supply = u'; seed = seed }

  -- the seed that the other brings beside ACT_REQ
  abbrev answering : List ℕ
  answering = (u'.beside 0).seed

  answering_is : IsBytes16 answering
  answering_is = u'.seeds 0

  -- the two keyrings before the shared secret
  abbrev mine_bare : Keyring
  mine_bare = keyring_of (bare root last n)

  abbrev their_bare : Keyring
  their_bare = keyring_of (bare root last' n')

  mine_first : IsFormedUnder root mine_bare
  mine_first = bare_under root last n base.root_is

  their_first : IsFormedUnder root their_bare
  their_first = bare_under root last' n' base.root_is

  -- the Sender's offer, and the shared secret that the Recipient makes of it
  abbrev offer : List ℕ
  offer = s.offer_of mine_bare seed

  abbrev value : List ℕ
  value = s.secret_of their_bare 2 answering offer

  offer_bytes : IsBytes offer
  offer_bytes = law.offer_bytes mine_bare seed mine_first.formed seed_is

  offer_fits : s.fit_of their_bare offer ≡ true
  offer_fits = law.fits root mine_bare their_bare seed mine_first their_first seed_is

  -- the shared secret has sixteen bytes
  value16 : IsBytes16 value
  value16 = law.secret_is their_bare answering offer 2 their_first.formed answering_is offer_bytes refl offer_fits

  -- the two keyrings with the shared secret
  abbrev mine_ring : Keyring
  mine_ring = keyring_of (agreed_suite root last (n + 1) value)

  abbrev their_ring : Keyring
  their_ring = keyring_of (agreed_suite root last' (n' + 1) value)

  mine_under : IsFormedUnder root mine_ring
  mine_under = agreed_under root last (n + 1) value base.root_is (omega arith) value16

  their_under : IsFormedUnder root their_ring
  their_under = agreed_under root last' (n' + 1) value base.root_is (omega arith) value16

  -- the Recipient's offer, and the check values that the Sender and the Recipient write
  abbrev reply : List ℕ
  reply = s.offer_of their_ring answering

  abbrev asked : List ℕ
  asked = s.check_of mine_ring (n + 1) value 1

  abbrev replied : List ℕ
  replied = s.check_of their_ring (n' + 1) value 2

  -- the Sender makes the same secret, and both the same check values
  agreed : s.secret_of mine_bare 1 seed reply ≡ value
  agreed = law.agrees root mine_bare their_bare mine_bare their_ring seed answering mine_first their_first mine_first their_under seed_is answering_is

  asked_alike : s.check_of their_ring (n' + 1) value 1 ≡ asked
  asked_alike = free.checks root their_ring mine_ring value (n' + 1) (n + 1) 1 their_under mine_under

  replied_alike : s.check_of mine_ring (n + 1) value 2 ≡ replied
  replied_alike = free.checks root mine_ring their_ring value (n + 1) (n' + 1) 2 mine_under their_under

  -- nothing is too long

  fits : (v : Service) (contents : Contents) → length (bytes_after_sep contents) ≤ 65 → ltb MAX_FRAME (length (frame_bytes v contents)) ≡ false
  fits v contents h = le-ltb MAX_FRAME (length (frame_bytes v contents)) (omega arith)

  offer_most : (k : Keyring) (own : List ℕ) → IsFormedUnder root k → IsBytes16 own → length (s.offer_of k own) ≤ 64
  offer_most k own u h = let long = law.offer_long k own u.formed h in let bound = law.offer_bound in omega arith

  check_most : (k : Keyring) (serial role : ℕ) → IsFormedUnder root k → is_role role ≡ true → length (s.check_of k serial value role) ≤ 65
  check_most k serial role u ok =
      let long = law.check_long k value serial role u.formed value16 ok in
      let bound = law.check_bound in
      omega arith

  -- a serial is left
  left : (k l : ℕ) → k < l → eqb k l ≡ false
  left k l h = ne_eqb k l (λ e. omega arith)

  -- the two with the shared secret, and in the link
  abbrev mine_sharing : State → Service → Model
  mine_sharing state v = sharing root last (n + 1) value state v Sender seed

  abbrev their_sharing : State → Service → Model
  their_sharing state v = sharing root last' (n' + 1) value state v Recipient no_seed

  abbrev mine_link : List ℕ
  mine_link = s.link_of mine_ring (n + 1) value

  abbrev their_link : List ℕ
  their_link = s.link_of their_ring (n' + 1) value

  abbrev mine_linked : Model
  mine_linked = linking root last (n + 1) value mine_link Sender seed s.first

  abbrev their_linked : Model
  their_linked = linking root last' (n' + 1) value their_link Recipient no_seed s.first

  -- the first three calls

  abbrev contents_act_req : Service → List ℕ
  contents_act_req v = frame_bytes v (act_req s.pid offer)

  abbrev contents_act_res : Service → List ℕ
  contents_act_res v = frame_bytes v (act_res reply)

  abbrev turn1 : Service → CallEffect
  turn1 v = stepped (selecting (bare root last n) v seed) conf.Nothing 0 (contents_act_req v)

  abbrev turn2 : Service → CallEffect
  turn2 v = stepped (their_sharing EstablishedRecipient v) conf.Nothing (n' + 1) (contents_act_res v)

  abbrev turn3 : Service → CallEffect
  turn3 v = stepped (mine_sharing EstablishedSender v) conf.Nothing (n + 1) (frame_bytes v (vfy_req asked))

  first : (v : Service) → call_effect s (new_model (bare root last n)) (invoke v s.pid seed (u.room 0)) ≡ turn1 v
  first v = ask_is s root last n (u.room 0) (wide u 0) v seed (sixteen seed_is)

  second : (v : Service) → n' < last' → call_effect s (new_model (bare root last' n')) (frame (contents_act_req v) (u'.beside 0) (u'.room 0)) ≡ turn2 v
  second v h =
      let most = offer_most mine_bare seed mine_first seed_is in
      let short = fits v (act_req s.pid offer) (omega arith) in
      reply_is s root last' n' (u'.room 0) (wide u' 0) v offer (u'.beside 0) (sixteen answering_is) short offer_fits (left n' last' h)

  third : (v : Service) → n < last → call_effect s (selecting (bare root last n) v seed) (frame (contents_act_res v) (u.beside 1) (u.room 1)) ≡ turn3 v
  third v h =
      let most = offer_most their_ring answering their_under answering_is in
      let short = fits v (act_res reply) (omega arith) in
      let fit = law.fits root their_ring mine_bare answering their_under mine_first answering_is in
      let ring : List ℕ → Keyring = λ z. keyring_of (agreed_suite root last (n + 1) z) in
      let act_req_sent : List ℕ → CallEffect = λ z. stepped (sharing root last (n + 1) z EstablishedSender v Sender seed) conf.Nothing (n + 1) (frame_bytes v (vfy_req (s.check_of (ring z) (n + 1) z 1))) in
      check_is s root last n (u.room 1) (wide u 1) v reply seed (u.beside 1) (sixteen (u.seeds 1)) short fit (left n last h) ∙ ap act_req_sent agreed

  asked_fits : (v : Service) → ltb MAX_FRAME (length (frame_bytes v (vfy_req asked))) ≡ false
  asked_fits v = fits v (vfy_req asked) (check_most mine_ring (n + 1) 1 mine_under refl)

  replied_fits : (v : Service) → ltb MAX_FRAME (length (frame_bytes v (vfy_res replied))) ≡ false
  replied_fits v = fits v (vfy_res replied) (check_most their_ring (n' + 1) 2 their_under refl)

  -- the last two for SCH

  -- the two are matched
  linked : n + 2 ≤ last → n' + 2 ≤ last' → (d : Peers) → d.one.model ≡ mine_linked → d.other.model ≡ their_linked → IsMatched mine_link s.first d
  linked h h' d e e' =
      let some : 0 < n + 1 = omega arith in
      let some' : 0 < n' + 1 = omega arith in
      let full : Base root last ((n + 1) + 1) = record { root_is = base.root_is; below = omega arith; word = base.word } in
      let full' : Base root last' ((n' + 1) + 1) = record { root_is = base.root_is; below = omega arith; word = base'.word } in
      let mine16 = law.link_is mine_ring value (n + 1) mine_under.formed value16 in
      let their16 = law.link_is their_ring value (n' + 1) their_under.formed value16 in
      let alike : their_link ≡ mine_link = free.links root their_ring mine_ring value (n' + 1) (n + 1) their_under mine_under in
      let theirs = linked_in root last' (n' + 1) value their_link Recipient no_seed s.first full' some' value16 their16 in
      record {
        mine = subst (IsInLink mine_link) (sym e) (linked_in root last (n + 1) value mine_link Sender seed s.first full some value16 mine16);
        theirs = subst (IsInLink mine_link) (sym e') (subst (λ z. IsInLink z their_linked) alike theirs);
        roles = ap (λ z. z.role) e' ∙ sym (ap (λ z. other_role z.role) e);
        mine_at = ap (λ z. z.number) e;
        theirs_at = ap (λ z. z.number) e';
      }

  abbrev turn4_sch : CallEffect
  turn4_sch = stepped their_linked conf.Established ((n' + 1) + 1) (frame_bytes Sch (vfy_res replied))

  abbrev turn5_sch : CallEffect
  turn5_sch = stepped mine_linked conf.Established ((n + 1) + 1) []

  fourth_sch : n' + 2 ≤ last'
      → call_effect s (their_sharing EstablishedRecipient Sch) (frame (frame_bytes Sch (vfy_req asked)) (u'.beside 1) (u'.room 1)) ≡ turn4_sch
  fourth_sch h' =
      let more = left (n' + 1) last' (omega arith) in
      confirm_sch s root last' (n' + 1) (u'.room 1) (wide u' 1) value (u'.beside 1) (sixteen (u'.seeds 1))
      asked replied asked_alike refl (asked_fits Sch) more

  fifth_sch : n + 2 ≤ last → call_effect s (mine_sharing EstablishedSender Sch) (frame (frame_bytes Sch (vfy_res replied)) (u.beside 2) (u.room 2)) ≡ turn5_sch
  fifth_sch h =
      let more = left (n + 1) last (omega arith) in
      complete_sch s root last (n + 1) (u.room 2) (wide u 2) value (u.beside 2) (sixteen (u.seeds 2))
      asked replied refl replied_alike seed (replied_fits Sch) more

  -- all five
  link_up : n + 2 ≤ last → n' + 2 ≤ last' → Started s (activated_peers s Sch meeting)
  link_up h h' =
      let reply_bytes = law.offer_bytes their_ring answering their_under.formed answering_is in
      let asked_bytes = law.check_bytes mine_ring value (n + 1) 1 mine_under.formed value16 refl in
      let replied_bytes = law.check_bytes their_ring value (n' + 1) 2 their_under.formed value16 refl in
      five s Sch meeting (Started s) (turn1 Sch) (turn2 Sch) (turn3 Sch) turn4_sch turn5_sch
      (first Sch) (second Sch (omega arith)) (third Sch (omega arith)) (fourth_sch h') (fifth_sch h)
      (record {
        value = mine_link;
        mine = refl;
        theirs = refl;
        matched = linked h h' _ refl refl;
        joint = new_joint (starts (omega arith) refl) (starts (omega arith) refl);
        none_sent = (refl, refl);
        none_handed = (refl, refl);
        mine_given = (((lit< tt, replied_bytes), (u.seeds 2).bytes), (((lit< tt, reply_bytes), (u.seeds 1).bytes), (seed_is.bytes, tt)));
        their_given = (((lit< tt, asked_bytes), (u'.seeds 1).bytes), (((lit< tt, (law.pid_byte, offer_bytes)), answering_is.bytes), tt));
        mine_clear = both_gone root last (n + 1) value mine_link (omega arith);
        their_clear = both_gone root last' (n' + 1) value their_link (omega arith);
      })

  -- and for SSE

  abbrev turn4_sse : CallEffect
  turn4_sse = stepped (their_sharing ConfirmedSse Sse) conf.Established 0 (frame_bytes Sse (vfy_res replied))

  abbrev turn5_sse : CallEffect
  turn5_sse = stepped (mine_sharing ConfirmedSse Sse) conf.Established 0 []

  fourth_sse : call_effect s (their_sharing EstablishedRecipient Sse) (frame (frame_bytes Sse (vfy_req asked)) (u'.beside 1) (u'.room 1)) ≡ turn4_sse
  fourth_sse =
      confirm_sse s root last' (n' + 1) (u'.room 1) (wide u' 1) value (u'.beside 1) (sixteen (u'.seeds 1))
      asked replied asked_alike refl (asked_fits Sse)

  fifth_sse : call_effect s (mine_sharing EstablishedSender Sse) (frame (frame_bytes Sse (vfy_res replied)) (u.beside 2) (u.room 2)) ≡ turn5_sse
  fifth_sse =
      complete_sse s root last (n + 1) (u.room 2) (wide u 2) value (u.beside 2) (sixteen (u.seeds 2))
      asked replied refl replied_alike seed (replied_fits Sse)

  -- all five
  share : n + 1 ≤ last → n' + 1 ≤ last' → (more : ℕ) → 16 ≤ more → Told s more (activated_peers s Sse meeting)
  share h h' more big =
      let told = tell_is s root last (n + 1) Sender seed value more (le-ltb more 16 big) in
      let told' = tell_is s root last' (n' + 1) Recipient no_seed value more (le-ltb more 16 big) in
      five s Sse meeting (Told s more) (turn1 Sse) (turn2 Sse) (turn3 Sse) turn4_sse turn5_sse
      (first Sse) (second Sse (omega arith)) (third Sse (omega arith)) fourth_sse fifth_sse
      (record {
        shared = record {
          mine = refl;
          theirs = refl;
          mine_in = record { state = refl; service = refl };
          theirs_in = record { state = refl; service = refl };
          mine_answered = ap (λ t. is_answered t.answer) told;
          theirs_answered = ap (λ t. is_answered t.answer) told';
          long = ap (λ t. length t.reply) told ∙ value16.long;
          same = ap (λ t. t.reply) told' ∙ sym (ap (λ t. t.reply) told);
        };
        mine_clear = one_gone root last (n + 1) value (omega arith);
        their_clear = one_gone root last' (n' + 1) value (omega arith);
      })

-- any two suites with one root and no key
as_bare : (v : Service) (x : SetUp) → IsReady v x
    → x ≡ record x { mine = bare x.mine.root x.mine.last x.mine.newest; theirs = bare x.mine.root x.theirs.last x.theirs.newest }
as_bare v x r =
    let m : x.mine ≡ bare x.mine.root x.mine.last x.mine.newest = ap (λ z. record x.mine { live = z }) r.mine_none in
    let none : x.theirs ≡ bare x.theirs.root x.theirs.last x.theirs.newest = ap (λ z. record x.theirs { live = z }) r.theirs_none in
    let t = none ∙ ap (λ z. bare z x.theirs.last x.theirs.newest) r.roots in
    ap (λ z. record x { mine = z }) m ∙ ap (λ z. record x { mine = bare x.mine.root x.mine.last x.mine.newest; theirs = z }) t

-- the other's suite, with that root
their_base : {v : Service} {x : SetUp} → IsReady v x → Base x.mine.root x.theirs.last x.theirs.newest
their_base r = record { root_is = r.mine_formed.keyring.root; below = r.theirs_formed.newest; word = r.theirs_formed.last }

-- the activation of any two entities that are ready

pub link_starts : (s : Scheme) → IsLawful s → DependsOnRootAndValue s → (x : SetUp) → IsReady Sch x → Started s (activated_peers s Sch x)
link_starts s law free x r =
    subst (λ z. Started s (activated_peers s Sch z)) (sym (as_bare Sch x r))
    (link_up s law free x.mine.root x.mine.last x.theirs.last x.mine.newest x.theirs.newest x.my_supply x.their_supply x.seed
    r.seed_is (base_of r.mine_formed) (their_base r) r.mine_left r.theirs_left)

pub secret_told : (s : Scheme) → IsLawful s → DependsOnRootAndValue s → (x : SetUp) → IsReady Sse x → (room : ℕ) → 16 ≤ room
    → Told s room (activated_peers s Sse x)
secret_told s law free x r more big =
    subst (λ z. Told s more (activated_peers s Sse z)) (sym (as_bare Sse x r))
    (share s law free x.mine.root x.mine.last x.theirs.last x.mine.newest x.theirs.newest x.my_supply x.their_supply x.seed
    r.seed_is (base_of r.mine_formed) (their_base r) r.mine_left r.theirs_left more big)

pub secret_succeeds : SecretSucceeds
secret_succeeds s law free x r more big = (secret_told s law free x r more big).shared

-- an activation is a run of each of the two

new_run : (s : Scheme) (means : Meaning) (supply : Supply) → IsRun s means (new_peer means supply)
new_run s means supply = record { bytes = tt; model = refl; past = refl }

pub mine_activated : (s : Scheme) (x : SetUp) → Started s (activated_peers s Sch x) → IsRun s x.mine (vfy_res_received s Sch x)
mine_activated s x start =
    run_receives s x.mine (vfy_res_sent s Sch x) start.mine_given.0.0
    (run_receives s x.mine (act_res_sent s Sch x) start.mine_given.1.0.0
    (run_called s x.mine (invoke Sch s.pid x.seed (x.my_supply.room 0)) start.mine_given.1.1.0
    (new_run s x.mine x.my_supply)))

pub theirs_activated : (s : Scheme) (x : SetUp) → Started s (activated_peers s Sch x) → IsRun s x.theirs (vfy_res_sent s Sch x)
theirs_activated s x start =
    run_receives s x.theirs (vfy_req_sent s Sch x) start.their_given.0.0
    (run_receives s x.theirs (act_req_sent s Sch x) start.their_given.1.0.0
    (new_run s x.theirs x.their_supply))

pub link_succeeds : LinkSucceeds
link_succeeds s law free x r =
    let start = link_starts s law free x r in
    record {
      value = start.value;
      mine = start.mine;
      theirs = start.theirs;
      matched = start.matched;
      joined = joined (mine_activated s x start) (theirs_activated s x start) start.matched start.joint;
      none_sent = start.none_sent;
      none_handed = start.none_handed;
    }

-- The premises.

pub new_fresh : NewIsFresh
new_fresh means formed none = record { formed = formed; idle = refl; no_live = none; no_secret = refl; no_link = refl; none_held = refl }

zeros_are : IsBytes16 no_seed
zeros_are =
    let z : 0 < 256 = lit< tt in
    record { long = refl; bytes = (z, (z, (z, (z, (z, (z, (z, (z, (z, (z, (z, (z, (z, (z, (z, (z, tt)))))))))))))))) }

-- a suite that has made no key, and makes two
abbrev two_left : Meaning
two_left = bare no_seed 2 0

-- zeros beside each frame
abbrev zeros_brought : Supply
zeros_brought = record {
  beside = λ k. record { seed = no_seed };
  room = λ k. MAX_FRAME;
  out = λ k. MAX_DATA;
  seeds = λ k. zeros_are;
  rooms = λ k. lit≤ tt;
  outs = λ k. lit≤ tt;
}

pub some_ready : SomeIsReady
some_ready =
    let formed : IsWellFormed two_left = record { keyring = (bare_under no_seed 2 0 zeros_are).formed; last = lit< tt; newest = lit≤ tt } in (
      record { mine = two_left; theirs = two_left; my_supply = zeros_brought; their_supply = zeros_brought; seed = no_seed },
      record {
        mine_formed = formed;
        theirs_formed = formed;
        roots = refl;
        mine_none = refl;
        theirs_none = refl;
        mine_left = lit≤ tt;
        theirs_left = lit≤ tt;
        seed_is = zeros_are;
      },
    )
