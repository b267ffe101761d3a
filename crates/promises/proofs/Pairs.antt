-- Two link sessions with equal link keys hand out in order.
use Rattle.std.proofs.Common.{◌≡◌, ℕ, Bool, true, false, cond, not, ltb, leb, List, [], ◌∷◌, ◌++◌, length, sym, refl, ap, ◌∙◌, subst, inl, inr, append-nil}
use Rattle.std.specs.List.{AllByRecursion}
use Rattle.suite.specs.declared.types.KeyKind.TheVariants.{LinkKey}
use Rattle.suite.specs.Numbers.{role_byte}
use Rattle.suite.specs.Meanings.{Keyring, IsFormed, keyring_of, IsBytes16, value_in}
use Rattle.suite.proofs.CallLaws.{role_ok}
use Rattle.suite.proofs.KeyLaws.{value_formed}
use Rattle.suite.specs.Schemes.{Scheme, IsLawful, is_role}
use Rattle.suite.specs.Calls.{is_short_buffer}
use Rattle.protocol.specs.Models.{Model}
use Rattle.protocol.specs.Steps.{is_empty, is_record_length}
use Rattle.protocol.specs.Calls.{CallEffect, Call, IsGivenBytes, invoke, send, retrieve_data, retrieve_secret, terminate, frame, release, call_effect}
use Rattle.histories.specs.Histories.{Entry, History, IsFresh, entity_after, entry_of, serials_destroyed_in, is_member, has_confirmation, data_given, is_retrieved_by, is_retrieval, data_handed, data_sent, data_sent_in}
use Rattle.histories.specs.Sessions.{RunningSession, EndedSession, ends, stays, LinkSession, keyring_at, next_entry, frame_written, encs_sent, encs_sent_in, enc_numbers, GetsOnlyCopies}
use Rattle.promises.specs.Promises.{KindsOpenAlike, AlikeBothWays, Follows, RecordsInOrder}
use Rattle.promises.proofs.Cases.{both, clash}
use Rattle.promises.proofs.Ledgers.{End, Ledger}
use Rattle.promises.proofs.TwoSessions.{in_order, no_gap}
use Rattle.promises.proofs.EntityForms.{in_sch, end_of}
use Rattle.promises.proofs.Runs.{holds}
use Rattle.promises.proofs.Askings.{asks_well}

-- an end and its ledger, from the run that leads to it
record Ended (s : Scheme) (value : List ℕ) (k : Keyring) (serial : ℕ) (since : History) : Type 0 where
  pub number : ℕ
  pub held : List ℕ
  pub role : ℕ
  pub ok : is_role role ≡ true
  pub formed : IsFormed k
  pub value16 : IsBytes16 value
  pub ledger : Ledger s value (record { keyring = k; serial = serial; role = role }) since number held

ended : (s : Scheme) → IsLawful s → (m : Model) → IsFresh m → (calls : List Call) → AllByRecursion IsGivenBytes calls
    → (n : ℕ) (value : List ℕ) (since : History) → RunningSession s m calls n value since → Ended s value (keyring_of (entity_after s m calls).means) n since
ended s law m fresh calls data_given n value since x =
    let m' = entity_after s m calls in
    let k = keyring_of m'.means in
    let H = holds s law m fresh calls data_given in
    let fits = H.all n since x.runs in
    let formed = (asks_well s law H.form).formed.keyring in
    let told : Ledger s value (end_of m') since m'.number m'.held = fits.ledger value (sym (ap (λ z. value_in m'.means.live LinkKey z) fits.key) ∙ x.key) in
    record {
      number = m'.number;
      held = m'.held;
      role = role_byte m'.role;
      ok = role_ok m'.role;
      formed = formed;
      value16 = value_formed k LinkKey n value formed x.key;
      ledger = subst (λ j. Ledger s value (record { keyring = k; serial = j; role = role_byte m'.role }) since m'.number m'.held) (sym fits.key) told;
    }

-- a call that destroys no key
abbrev Spares : CallEffect → Type 0
Spares t = serials_destroyed_in t.answer ≡ []

send_spares : (s : Scheme) (m : Model) (plain : List ℕ) (room : ℕ) → Spares (call_effect s m (send plain room))
send_spares s m plain room =
    both (is_short_buffer room) Spares (λ _. refl)
    (λ _. both (not (in_sch m)) Spares (λ _. refl)
    (λ _. both (not (is_record_length (length plain))) Spares (λ _. refl)
    (λ _. both (leb s.final m.number) Spares (λ _. refl)
    (λ _. refl))))

data_spares : (s : Scheme) (m : Model) (room : ℕ) → Spares (call_effect s m (retrieve_data room))
data_spares s m room =
    both (not (in_sch m)) Spares (λ _. refl)
    (λ _. both (is_empty m.held) Spares (λ _. refl)
    (λ _. both (ltb room (length m.held)) Spares (λ _. refl) (λ _. refl)))

-- a call that sends nothing and hands out nothing
record Plain (e : Entry) : Type 0 where
  pub unsent : data_sent_in e ≡ []
  pub unsealed : encs_sent_in e ≡ []
  pub unhanded : is_retrieval e ≡ false

no_item : (b : Bool) → ◌≡◌ {A = List (List ℕ)} (cond b [] []) []
no_item true = refl
no_item false = refl

plain_call : (c : Call) (t : CallEffect) → data_given c ≡ [] → frame_written t.reply c ≡ [] → is_retrieved_by t.answer c ≡ false → Plain (entry_of c t)
plain_call c t g w h = record {
  unsent = ap (λ z. cond (has_confirmation 2 t.answer) z []) g ∙ no_item (has_confirmation 2 t.answer);
  unsealed = ap (λ z. cond (has_confirmation 2 t.answer) z []) w ∙ no_item (has_confirmation 2 t.answer);
  unhanded = h;
}

spared : {X : Type 0} (n : ℕ) (t : CallEffect) → Spares t → is_member n (serials_destroyed_in t.answer) ≡ true → X
spared n t e h = clash false refl (sym (ap (is_member n) e) ∙ h)

-- such is the last call of a session
last_plain : (s : Scheme) (m : Model) (c : Call) (n : ℕ) → is_member n (serials_destroyed_in (call_effect s m c).answer) ≡ true → Plain (entry_of c (call_effect s m c))
last_plain s m (invoke service pid seed room) n d = let c = invoke service pid seed room in plain_call c (call_effect s m c) refl refl refl
last_plain s m (send plain room) n d = spared n (call_effect s m (send plain room)) (send_spares s m plain room) d
last_plain s m (retrieve_data room) n d = spared n (call_effect s m (retrieve_data room)) (data_spares s m room) d
last_plain s m (retrieve_secret room) n d = let c = retrieve_secret room in plain_call c (call_effect s m c) refl refl refl
last_plain s m (terminate room) n d = let c = terminate room in plain_call c (call_effect s m c) refl refl refl
last_plain s m (frame bytes beside room) n d = let c = frame bytes beside room in plain_call c (call_effect s m c) refl refl refl
last_plain s m release n d = plain_call release (call_effect s m release) refl refl refl

-- a session up to its last call, where it is over
record Core (s : Scheme) (value : List ℕ) (k : Keyring) (serial : ℕ) (mine : History) : Type 0 where
  pub since : History
  pub end : Ended s value k serial since
  pub sents : data_sent since ≡ data_sent mine
  pub sealeds : encs_sent since ≡ encs_sent mine
  pub handeds : data_handed since ≡ data_handed mine
  pub only : (copies : List (List ℕ)) → GetsOnlyCopies copies mine → GetsOnlyCopies copies since

module _ (s : Scheme) (law : IsLawful s) (m : Model) (fresh : IsFresh m) where
  core_running : (calls : List Call) → AllByRecursion IsGivenBytes calls → (n : ℕ) (value : List ℕ) (since : History)
      → RunningSession s m calls n value since → Core s value (keyring_of (entity_after s m calls).means) n since
  core_running calls data_given n value since x = record {
    since = since;
    end = ended s law m fresh calls data_given n value since x;
    sents = refl;
    sealeds = refl;
    handeds = refl;
    only = λ copies o. o;
  }

  core_ended : (n : ℕ) (value : List ℕ) {calls : List Call} {mine : History} (x : EndedSession s m calls n value mine)
      → AllByRecursion IsGivenBytes calls → Core s value (keyring_at (inr x)) n mine
  core_ended n value (ends {calls} {since} c x d) data_given =
      let e = next_entry s m calls c in
      let p = last_plain s (entity_after s m calls) c n d in
      record {
        since = since;
        end = ended s law m fresh calls data_given.1 n value since x;
        sents = sym (ap (λ z. data_sent since ++ z) p.unsent ∙ append-nil (data_sent since));
        sealeds = sym (ap (λ z. encs_sent since ++ z) p.unsealed ∙ append-nil (encs_sent since));
        handeds = sym (ap (λ b. data_handed since ++ cond b (e.written ∷ []) []) p.unhanded ∙ append-nil (data_handed since));
        only = λ copies o. o.1;
      }
  core_ended n value (stays c x) data_given = core_ended n value x data_given.1

  core : (calls : List Call) → AllByRecursion IsGivenBytes calls → (n : ℕ) (value : List ℕ) (mine : History)
      (x : LinkSession s m calls n value mine) → Core s value (keyring_at x) n mine
  core calls data_given n value mine (inl x) = core_running calls data_given n value mine x
  core calls data_given n value mine (inr x) = core_ended n value x data_given

-- what is sealed, handed out and sent, in other words
module _ (s t : Scheme) (value : List ℕ) (k k' : Keyring) (serial serial' : ℕ) where
  same_lists : {a a' b b' h h' g g' : List (List ℕ)} → a ≡ a' → b ≡ b' → h ≡ h' → g ≡ g'
      → Follows h g (enc_numbers s k serial value a) (enc_numbers t k' serial' value b)
      → Follows h' g' (enc_numbers s k serial value a') (enc_numbers t k' serial' value b')
  same_lists p q r u f = rw (← p, ← q, ← r, ← u) f

pub ordered : RecordsInOrder
ordered s t law law' alike m m' fresh fresh' calls calls' data_given given' value n n' mine theirs one other only =
    let x = core s law m fresh calls data_given n value mine one in
    let y = core t law' m' fresh' calls' given' n' value theirs other in
    let z : End = record { keyring = keyring_at one; serial = n; role = x.end.role } in
    let z' : End = record { keyring = keyring_at other; serial = n'; role = y.end.role } in
    let all : encs_sent x.since ++ encs_sent y.since ≡ encs_sent mine ++ encs_sent theirs = ap (λ c. c ++ encs_sent y.since) x.sealeds ∙ ap (λ c. encs_sent mine ++ c) y.sealeds in
    let only' : GetsOnlyCopies (encs_sent x.since ++ encs_sent y.since) x.since = subst (λ c. GetsOnlyCopies c x.since) (sym all) (x.only (encs_sent mine ++ encs_sent theirs) only) in
    let front = in_order s t law law' alike value z z' x.end.ok y.end.ok x.end.formed y.end.formed x.end.value16 x.end.ledger y.end.ledger only' in
    let whole = no_gap s t law law' alike value z z' x.end.ok y.end.ok x.end.formed y.end.formed x.end.value16 x.end.ledger y.end.ledger only' in
    same_lists s t value (keyring_at one) (keyring_at other) n n' x.sealeds y.sealeds x.handeds y.sents (record { subsequence = front; prefix = whole })

pub kinds_alike : KindsOpenAlike
kinds_alike s t kind = record { firsts = kind.firsts; opens = kind.opens }

pub both_ways : AlikeBothWays
both_ways s t alike = record {
  firsts = sym alike.firsts;
  opens = λ k value payload serial f v b. sym (alike.opens k value payload serial f v b);
}
