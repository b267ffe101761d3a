-- Every run keeps account of its keys, its link sessions and its suite.
use Rattle.std.proofs.Common.{◌≡◌, ℕ, ◌≤◌, Bool, true, false, cond, not, eqb, ◌⊎◌, List, [], ◌∷◌, Some, sym, refl, ap, ◌∙◌, inl, inr, arith}
use Rattle.std.proofs.lemmas.Bool.{cases_Bool}
use Rattle.std.specs.List.{AllByRecursion}
use Rattle.suite.specs.declared.types.KeyKind.TheVariants.{LinkKey}
use Rattle.suite.specs.Meanings.{IsWellFormed, value_in}
use Rattle.suite.specs.Schemes.{Scheme, IsLawful}
use Rattle.suite.specs.Calls.{is_short_buffer}
use Rattle.protocol.specs.declared.states.State.{State}
use Rattle.protocol.specs.declared.states.State.TheVariants.{Idle, Select, EstablishedSender, EstablishedRecipient, ConfirmedSse, ConfirmedSch}
use Rattle.protocol.specs.Numbers.{state_mark}
use Rattle.protocol.specs.Models.{Model, idle_model}
use Rattle.protocol.specs.Calls.{Call, IsGivenBytes, invoke, send, retrieve_data, retrieve_secret, terminate, frame, release, CallEffect, call_effect, is_in_state}
use Rattle.histories.specs.Histories.{Entry, History, IsFresh, entity_after, history, entry_of, Runs, has_confirmation, data_sent, data_sent_in, data_handed, is_retrieval}
use Rattle.histories.specs.Records.{running_session, HasEnded, was_sent, was_handed, records_in, session_records, data_of}
use Rattle.histories.specs.Records as over
use Rattle.histories.specs.Sessions.{RunningSession, EndedSession, ends, stays, LinkSession}
use Rattle.promises.specs.Promises.{HandedInSession, ReportsSessions, KeepsPromises, EveryRun, EverySession}
use Rattle.promises.proofs.Cases.{both, clash}
use Rattle.promises.proofs.Books.{within_difference}
use Rattle.promises.proofs.Forms.{link_there}
use Rattle.promises.proofs.EntityForms.{HasForm, at_idle, at_select, at_secret, at_sch, in_sch}
use Rattle.promises.proofs.Turns.{not_idle, not_linked, secret_gone, both_gone}
use Rattle.promises.proofs.Runs.{Fits, Holds, holds, orderly}
use Rattle.promises.proofs.Tellings.{Orderly, read_off, none_read, runs_told, run_above, over_told, Quiet, no_others}
use Rattle.promises.proofs.Askings.{asks_well}

-- only in Confirmed_SCH is data handed out
handed_at : (s : Scheme) (m : Model) (c : Call) → is_retrieval (entry_of c (call_effect s m c)) ≡ true → in_sch m ≡ true
handed_at s m (invoke service pid seed room) e = absurd (cc)
handed_at s m (send plain room) e = absurd (cc)
handed_at s m (retrieve_data room) e =
    elim (cases_Bool (in_sch m)) [
      | inl t ↦ t
      | inr o ↦
          let shut : is_retrieval (entry_of (retrieve_data room) (call_effect s m (retrieve_data room))) ≡ false = rw o in
          clash _ shut e
    ]
handed_at s m (retrieve_secret room) e = absurd (cc)
handed_at s m (terminate room) e = absurd (cc)
handed_at s m (frame bytes beside room) e = absurd (cc)
handed_at s m release e = absurd (cc)

all_handed : (s : Scheme) → IsLawful s → (m : Model) → IsFresh m → (calls : List Call) → AllByRecursion IsGivenBytes calls → HandedInSession (history s m calls)
all_handed s law m f [] given = tt
all_handed s law m f (c ∷ before) given = (λ e. (holds s law m f before given.1).some (handed_at s (entity_after s m before) c e), all_handed s law m f before given.1)

-- a call that is given no data sends none
none_given : (b : Bool) → ◌≡◌ {A = List (List ℕ)} (cond b [] []) []
none_given true = refl
none_given false = refl

-- only in Confirmed_SCH is data sent
unsent_at : (s : Scheme) (m : Model) (c : Call) → in_sch m ≡ false → data_sent_in (entry_of c (call_effect s m c)) ≡ []
unsent_at s m (invoke service pid seed room) o = none_given (has_confirmation 2 (call_effect s m (invoke service pid seed room)).answer)
unsent_at s m (send plain room) o =
    both (is_short_buffer room) (λ (t : CallEffect). cond (has_confirmation 2 t.answer) (plain ∷ []) [] ≡ [])
    (λ _. refl)
    (λ _. both (not (in_sch m)) (λ (t : CallEffect). cond (has_confirmation 2 t.answer) (plain ∷ []) [] ≡ []) (λ _. refl) (λ f. clash (not (in_sch m)) f (ap not o)))
unsent_at s m (retrieve_data room) o = none_given (has_confirmation 2 (call_effect s m (retrieve_data room)).answer)
unsent_at s m (retrieve_secret room) o = none_given (has_confirmation 2 (call_effect s m (retrieve_secret room)).answer)
unsent_at s m (terminate room) o = none_given (has_confirmation 2 (call_effect s m (terminate room)).answer)
unsent_at s m (frame bytes beside room) o = none_given (has_confirmation 2 (call_effect s m (frame bytes beside room)).answer)
unsent_at s m release o = none_given (has_confirmation 2 (call_effect s m release).answer)

-- where no session is read off there is no link key
unlinked_at : (s : Scheme) {m : Model} {h : History} → Holds s m h → Orderly h → running_session h ≡ 0 → in_sch m ≡ false
unlinked_at s {m} {h} H o z =
    elim (cases_Bool (in_sch m)) [
      | inl t ↦
          let x = H.some t in
          let pos = run_above x.0 x.1.1 in
          let here = read_off x.0 x.1.1 o in
          absurd (omega arith)
      | inr f ↦ f
    ]

-- with no link key nothing is sent or handed out
quiet_at : (s : Scheme) (m : Model) (c : Call) → in_sch m ≡ false → records_in 0 (entry_of c (call_effect s m c)) ≡ []
quiet_at s m c o =
    let e : Entry = entry_of c (call_effect s m c) in
    let unsent : data_sent_in e ≡ [] = unsent_at s m c o in
    let kept : is_retrieval e ≡ false = elim (cases_Bool (is_retrieval e)) [ inl t ↦ clash (in_sch m) o (handed_at s m c t) | inr f ↦ f ] in
    rw (unsent, kept)

-- so it is in every call of a run
all_quiet : (s : Scheme) → IsLawful s → (m : Model) → IsFresh m → (calls : List Call) → AllByRecursion IsGivenBytes calls → Quiet (history s m calls)
all_quiet s law m f [] given = tt
all_quiet s law m f (c ∷ before) given =
    let H = holds s law m f before given.1 in
    let o = orderly s law m f before given.1 in
    (λ z. quiet_at s (entity_after s m before) c (unlinked_at s H o z), all_quiet s law m f before given.1)

confirmed_at : (state : State) → eqb (state_mark state) 5 ≡ true → state ≡ ConfirmedSch
confirmed_at Idle e = absurd (cc)
confirmed_at Select e = absurd (cc)
confirmed_at EstablishedSender e = absurd (cc)
confirmed_at EstablishedRecipient e = absurd (cc)
confirmed_at ConfirmedSse e = absurd (cc)
confirmed_at ConfirmedSch e = refl

linked_at : (m : Model) → m.state ≡ ConfirmedSch → in_sch m ≡ true
linked_at m e = ap (λ z. is_in_state (record m { state = z }) ConfirmedSch) e

-- in Idle no key is live
idle_empty : (s : Scheme) {m : Model} → HasForm s m → m.state ≡ Idle → m.means.live ≡ []
idle_empty s (at_idle b) e = refl
idle_empty s (at_select b h) e = refl
idle_empty s (at_secret state k one) e = clash _ (not_idle k) (ap (λ z. eqb (state_mark z) 0) e)
idle_empty s (at_sch h lo hi) e = absurd (cc)

-- and no key is named and nothing held: the entity is as at the beginning
idle_fresh : (s : Scheme) {m : Model} → IsWellFormed m.means → HasForm s m → m.state ≡ Idle → IsFresh m
idle_fresh s f (at_idle b) e = record { formed = f; idle = refl; no_live = refl; no_secret = refl; no_link = refl; none_held = refl }
idle_fresh s f (at_select b h) e = absurd (cc)
idle_fresh s f (at_secret state k one) e = clash _ (not_idle k) (ap (λ z. eqb (state_mark z) 0) e)
idle_fresh s f (at_sch h lo hi) e = absurd (cc)

-- no key is live after it is put away
none_left : (s : Scheme) {m : Model} → HasForm s m → (idle_model m).means.live ≡ []
none_left s (at_idle b) = refl
none_left s (at_select b h) = refl
none_left s (at_secret {root} {last} {n} {v} state k one) = ap (λ z. z.live) (secret_gone root last n v one.pos)
none_left s (at_sch {root} {last} {n} {v} {w} two lo hi) = ap (λ z. z.live) (both_gone root last n v w two.pos)

number_below : (s : Scheme) {m : Model} → HasForm s m → m.state ≡ ConfirmedSch → m.number ≤ s.final
number_below s (at_idle b) e = absurd (cc)
number_below s (at_select b h) e = absurd (cc)
number_below s (at_secret state k one) e = clash _ (not_linked k) (ap (λ z. eqb (state_mark z) 5) e)
number_below s (at_sch h lo hi) e = hi

-- the link key of a session that runs is live
key_at : (s : Scheme) {m : Model} → HasForm s m → in_sch m ≡ true → (value : List ℕ) × (value_in m.means.live LinkKey m.link ≡ Some value)
key_at s (at_idle b) e = absurd (cc)
key_at s (at_select b h) e = absurd (cc)
key_at s (at_secret state k one) e = clash _ (not_linked k) e
key_at s (at_sch {n} {v} {w} two lo hi) e = (w, link_there n v w)

link_live : (s : Scheme) {m : Model} → HasForm s m → {n : ℕ} {since : History} → Fits s m n since → (value : List ℕ) × (value_in m.means.live LinkKey n ≡ Some value)
link_live s {m} S fits =
    let k = key_at s S fits.linked in
    (k.0, ap (λ z. value_in m.means.live LinkKey z) fits.key ∙ k.1)

-- what is reported of link sessions holds after every list of calls
reported : (s : Scheme) {m : Model} {h : History} → Holds s m h → Orderly h → Quiet h → ReportsSessions m h
reported s {m} {h} H o quiet = record {
  running = λ n since r. read_off n r o;
  none = λ e. none_read h (λ x. e (confirmed_at m.state (H.all x.0 x.1.0 x.1.1).linked));
  sent_reported = λ n since r. runs_told n was_sent r o H.books.anew;
  handed_reported = λ n since r. runs_told n was_handed r o H.books.anew;
  sent_over = λ n since r. over_told n was_sent r o H.books.anew;
  handed_over = λ n since r. over_told n was_handed r o H.books.anew;
  no_others = λ n direction some. no_others n direction h quiet some;
}

kept : (s : Scheme) → IsLawful s → {m : Model} {h : History} → Holds s m h → HandedInSession h → Orderly h → Quiet h → KeepsPromises s m h
kept s law {m} H g o quiet = record {
  keys = record {
    live = sym H.books.exact;
    made_once = H.books.anew;
    destroyed_once = H.books.once;
    destroyed_made = within_difference _ _ H.books.real;
    none_idle = idle_empty s H.form;
    put_away = none_left s H.form;
  };
  sessions = record {
    runs = λ e. H.some (linked_at m e);
    confirmed = λ n since r. confirmed_at m.state (H.all n since r).linked;
    key = λ n since r. link_live s H.form (H.all n since r);
    link = λ n since r. sym (H.all n since r).key;
    number = λ n since r. (H.all n since r).number;
    last = number_below s H.form;
    handed = g;
  };
  reported = reported s H o quiet;
  suite = asks_well s law H.form;
  anew = idle_fresh s (asks_well s law H.form).formed H.form;
}

pub every_run : EveryRun
every_run s law m f calls given = kept s law (holds s law m f calls given) (all_handed s law m f calls given) (orderly s law m f calls given) (all_quiet s law m f calls given)

-- Every link session of a run has a link key's value.
module _ (s : Scheme) (law : IsLawful s) (m : Model) (f : IsFresh m) (n : ℕ) where
  -- one that runs
  valued : (calls : List Call) → AllByRecursion IsGivenBytes calls → (since : History) → Runs n (history s m calls) since
      → (value : List ℕ) × RunningSession s m calls n value since
  valued calls given since r =
      let k = (every_run s law m f calls given).sessions.key n since r in
      (k.0, record { runs = r; key = k.1 })

  -- one that is over
  valued_over : (calls : List Call) → AllByRecursion IsGivenBytes calls → (since : History) → HasEnded n (history s m calls) since
      → (value : List ℕ) × EndedSession s m calls n value since
  valued_over [] given since o = elim o [ ]
  valued_over (c ∷ before) given since (over.ends {since = old} x d) = let v = valued before given.1 old x in (v.0, ends c v.1 d)
  valued_over (c ∷ before) given since (over.stays x) = let v = valued_over before given.1 since x in (v.0, stays c v.1)

  valued_any : (calls : List Call) → AllByRecursion IsGivenBytes calls → (since : History) → Runs n (history s m calls) since ⊎ HasEnded n (history s m calls) since
      → (value : List ℕ) × LinkSession s m calls n value since
  valued_any calls given since (inl x) = let v = valued calls given since x in (v.0, inl v.1)
  valued_any calls given since (inr x) = let v = valued_over calls given since x in (v.0, inr v.1)

-- a link session runs or is over in the history of its calls
session_is : (s : Scheme) (m : Model) (n : ℕ) {calls : List Call} {value : List ℕ} {since : History} → EndedSession s m calls n value since
    → HasEnded n (history s m calls) since
session_is s m n (ends c x d) = over.ends x.runs d
session_is s m n (stays c x) = over.stays (session_is s m n x)

-- the records reported of a link session are those of its calls
module _ (s : Scheme) (law : IsLawful s) (m : Model) (f : IsFresh m) (calls : List Call) (given : AllByRecursion IsGivenBytes calls) (n : ℕ) (value : List ℕ) (since : History) where
  pub sent_reported : LinkSession s m calls n value since → data_of n was_sent (session_records (history s m calls)) ≡ data_sent since
  sent_reported (inl x) = (every_run s law m f calls given).reported.sent_reported n since x.runs
  sent_reported (inr x) = (every_run s law m f calls given).reported.sent_over n since (session_is s m n x)

  pub handed_reported : LinkSession s m calls n value since → data_of n was_handed (session_records (history s m calls)) ≡ data_handed since
  handed_reported (inl x) = (every_run s law m f calls given).reported.handed_reported n since x.runs
  handed_reported (inr x) = (every_run s law m f calls given).reported.handed_over n since (session_is s m n x)

pub every_session : EverySession
every_session s law m f calls given n since x = valued_any s law m f n calls given since x
