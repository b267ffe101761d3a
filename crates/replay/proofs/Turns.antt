-- One more call of a log.
use Rattle.std.proofs.Common.{◌≡◌, ℕ, zero, suc, min, ◌+◌, ◌<◌, List, [], ◌∷◌, ◌++◌, length, take, drop, set, get_or, reverse, refl, sym, ap, ◌∙◌, subst, append_assoc, append-nil, arith, length-take, Result}
use Rattle.std.proofs.lemmas.List.{take_more, take_more_set, take-map, reverse-append, map-append, length-map}
use Rattle.std.proofs.Math.Seq.{take-append_seam}
use Rattle.std.specs.List.{AllByRecursion}
use Rattle.protocol.specs.declared.outcomes.Outcome.{Outcome}
use Rattle.protocol.specs.declared.refusals.Refusal.{Refusal}
use Rattle.protocol.specs.Calls.{Call, IsGivenBytes, call_effect}
use Rattle.protocol.specs.Models.{Model}
use Rattle.suite.specs.Schemes.{Scheme}
use Rattle.histories.specs.Histories.{entry_of, entity_after, history}
use Rattle.histories.specs.Histories as h
use Rattle.histories.specs.Records.{SessionRecord, session_records, running_session, next_session, records_in}
use Rattle.replay.specs.declared.logged.LoggedCall.{LoggedCall}
use Rattle.replay.specs.declared.entry.Entry.{Entry}
use Rattle.replay.specs.LogViews.{logged_call, logged_calls}
use Rattle.replay.specs.Entries.{history_entry, history_entries, transcript_history, HasRecordsInPlace, transcript_records, records_of}

-- the calls of a log so far, and one more
calls_on : (log : List LoggedCall) (i : ℕ) (x : LoggedCall) → i < length log → logged_calls (take (i + 1) log) ≡ logged_calls (take i log) ++ (logged_call (get_or log i x) ∷ [])
calls_on log i x h = ap logged_calls (take_more log i x h) ∙ map-append logged_call (take i log) (get_or log i x ∷ [])

pub calls_more : (log : List LoggedCall) (i : ℕ) (x : LoggedCall) → i < length log → reverse (logged_calls (take (i + 1) log)) ≡ logged_call (get_or log i x) ∷ reverse (logged_calls (take i log))
calls_more log i x h = ap reverse (calls_on log i x h) ∙ reverse-append (logged_calls (take i log)) (logged_call (get_or log i x) ∷ [])

-- there are as many calls as entries so far
as_many : (log : List LoggedCall) (entries : List Entry) (i : ℕ) → i < length log → i < length entries → length (logged_calls (take i log)) ≡ length (take i entries)
as_many log entries i h low = length-map (take i log) logged_call ∙ simp length-take (omega arith)

each_more : (cs : List Call) (es : List Entry) (c : Call) (e : Entry) → length cs ≡ length es → history_entries (cs ++ (c ∷ [])) (es ++ (e ∷ [])) ≡ history_entries cs es ++ (history_entry c e ∷ [])
each_more [] [] c e h = refl
each_more [] (x ∷ es) c e h = absurd (omega arith)
each_more (k ∷ cs) [] c e h = absurd (omega arith)
each_more (k ∷ cs) (x ∷ es) c e h = ap (λ z. history_entry k x ∷ z) (each_more cs es c e (omega arith))

-- one call and one entry more, at the end
told_on : (cs : List Call) (es : List Entry) (c : Call) (e : Entry) → length cs ≡ length es → transcript_history (cs ++ (c ∷ [])) (es ++ (e ∷ [])) ≡ history_entry c e ∷ transcript_history cs es
told_on cs es c e long = ap reverse (each_more cs es c e long) ∙ reverse-append (history_entries cs es) (history_entry c e ∷ [])

pub told_more : (log : List LoggedCall) (entries : List Entry) (i : ℕ) (x : LoggedCall) (e : Entry) → i < length log → length entries ≡ length log
    → transcript_history (logged_calls (take (i + 1) log)) (take (i + 1) (set entries i e)) ≡ history_entry (logged_call (get_or log i x)) e ∷ transcript_history (logged_calls (take i log)) (take i entries)
told_more log entries i x e h long =
    let low : i < length entries = omega arith in
    ap (λ z. transcript_history z (take (i + 1) (set entries i e))) (calls_on log i x h)
    ∙ ap (transcript_history (logged_calls (take i log) ++ (logged_call (get_or log i x) ∷ []))) (take_more_set entries i e low)
    ∙ told_on (logged_calls (take i log)) (take i entries) (logged_call (get_or log i x)) e (as_many log entries i h low)

-- a log and entries that are there, read on by one
pub told_next : (log : List LoggedCall) (entries : List Entry) (i : ℕ) (x : LoggedCall) (e : Entry) → i < length log → i < length entries
    → transcript_history (logged_calls (take (i + 1) log)) (take (i + 1) entries) ≡ history_entry (logged_call (get_or log i x)) (get_or entries i e) ∷ transcript_history (logged_calls (take i log)) (take i entries)
told_next log entries i x e h low =
    ap (λ z. transcript_history z (take (i + 1) entries)) (calls_on log i x h)
    ∙ ap (transcript_history (logged_calls (take i log) ++ (logged_call (get_or log i x) ∷ []))) (take_more entries i e low)
    ∙ told_on (logged_calls (take i log)) (take i entries) (logged_call (get_or log i x)) (get_or entries i e) (as_many log entries i h low)

-- where one list has no more, the rest of the other tells nothing
all_told : (n : ℕ) (cs : List Call) (es : List Entry) → n ≡ min (length cs) (length es) → history_entries (take n cs) (take n es) ≡ history_entries cs es
all_told zero [] es p = refl
all_told (suc n) [] es p = refl
all_told zero (c ∷ cs) [] p = refl
all_told (suc n) (c ∷ cs) [] p = refl
all_told zero (c ∷ cs) (e ∷ es) p = absurd (grind arith)
all_told (suc n) (c ∷ cs) (e ∷ es) p = ap (λ z. history_entry c e ∷ z) (all_told n cs es (grind arith))

-- as much of both as there is
pub told_all : (log : List LoggedCall) (entries : List Entry) (i : ℕ) → i ≡ min (length log) (length entries) → transcript_history (logged_calls (take i log)) (take i entries) ≡ transcript_history (logged_calls log) entries
told_all log entries i p =
    let cs = logged_calls log in
    let n : i ≡ min (length cs) (length entries) = p ∙ ap (λ k. min k (length entries)) (sym (length-map log logged_call)) in
    ap (λ z. transcript_history z (take i entries)) (sym (take-map logged_call i log)) ∙ ap reverse (all_told i cs entries n)

-- one entry more, at the end, tells the record of its call
in_place_on : (before : h.History) (cs : List Call) (es : List Entry) (c : Call) (e : Entry) → HasRecordsInPlace before cs es → records_of e.record ≡ records_in (running_session (transcript_history cs es ++ before)) (history_entry c e) → HasRecordsInPlace before (cs ++ (c ∷ [])) (es ++ (e ∷ []))
in_place_on before [] [] c e so_far one = (one, tt)
in_place_on before [] (x ∷ es) c e so_far one = absurd so_far
in_place_on before (k ∷ cs) [] c e so_far one = absurd so_far
in_place_on before (k ∷ cs) (x ∷ es) c e so_far one =
    let same : transcript_history (k ∷ cs) (x ∷ es) ++ before ≡ transcript_history cs es ++ (history_entry k x ∷ before) =
    ap (λ z. z ++ before) (reverse-append (history_entry k x ∷ []) (history_entries cs es)) ∙ append_assoc (reverse (history_entries cs es)) (history_entry k x ∷ []) before in
    (so_far.0, in_place_on (history_entry k x ∷ before) cs es c e so_far.1 (one ∙ ap (λ z. records_in (running_session z) (history_entry c e)) same))

pub in_place_more : (log : List LoggedCall) (entries : List Entry) (i : ℕ) (x : LoggedCall) (e : Entry) (session : ℕ) → i < length log → length entries ≡ length log
    → HasRecordsInPlace [] (logged_calls (take i log)) (take i entries) → session ≡ running_session (transcript_history (logged_calls (take i log)) (take i entries)) → records_of e.record ≡ records_in session (history_entry (logged_call (get_or log i x)) e)
    → HasRecordsInPlace [] (logged_calls (take (i + 1) log)) (take (i + 1) (set entries i e))
in_place_more log entries i x e session h long so_far runs one =
    let low : i < length entries = omega arith in
    let c = logged_call (get_or log i x) in
    let cs = logged_calls (take i log) in
    let es = take i entries in
    let own : records_of e.record ≡ records_in (running_session (transcript_history cs es ++ [])) (history_entry c e) = one ∙ ap (λ n. records_in n (history_entry c e)) runs ∙ ap (λ z. records_in (running_session z) (history_entry c e)) (sym (append-nil (transcript_history cs es))) in
    subst (λ z. HasRecordsInPlace [] z (take (i + 1) (set entries i e))) (sym (calls_on log i x h))
    (subst (HasRecordsInPlace [] (cs ++ (c ∷ []))) (sym (take_more_set entries i e low)) (in_place_on [] cs es c e so_far own))

records_on : (es : List Entry) (e : Entry) → transcript_records (es ++ (e ∷ [])) ≡ transcript_records es ++ records_of e.record
records_on [] e = append-nil (records_of e.record)
records_on (x ∷ es) e = ap (λ z. records_of x.record ++ z) (records_on es e) ∙ sym (append_assoc (records_of x.record) (transcript_records es) (records_of e.record))

pub records_more : (entries : List Entry) (i : ℕ) (e : Entry) → i < length entries → transcript_records (take (i + 1) (set entries i e)) ≡ transcript_records (take i entries) ++ records_of e.record
records_more entries i e h = ap transcript_records (take_more_set entries i e h) ∙ records_on (take i entries) e

-- what was written over a whole list is what stands in its place
pub written_back : (new lent old : List Entry) (n : ℕ) → n ≡ length old → lent ≡ old → length new ≡ length lent → take n (new ++ drop (length new) old) ≡ new
written_back new lent old n p q r =
    let e : n ≡ length new = p ∙ ap length (sym q) ∙ sym r in
    ap (λ k. take k (new ++ drop (length new) old)) e ∙ take-append_seam new (drop (length new) old)

-- One more call of a run: what was made so far, before it, and the call.
module _ (s : Scheme) (m : Model) (made more : List Call) (k : Call) (before : Model) (e : more ≡ k ∷ made) (at : before ≡ entity_after s m made) where
  pub given_more : IsGivenBytes k → AllByRecursion IsGivenBytes made → AllByRecursion IsGivenBytes more
  given_more one all = subst (λ z. AllByRecursion IsGivenBytes z) (sym e) (one, all)

  pub model_more : (left : Model) → left ≡ (call_effect s before k).model → left ≡ entity_after s m more
  model_more left p = p ∙ ap (λ z. (call_effect s z k).model) at ∙ sym (ap (entity_after s m) e)

  pub entry_is : (x : h.Entry) (answer : Result Outcome Refusal) (written : List ℕ) → x ≡ record { call = k; answer = answer; written = written } → answer ≡ (call_effect s before k).answer → written ≡ (call_effect s before k).reply → x ≡ entry_of k (call_effect s (entity_after s m made) k)
  entry_is x answer written p q r =
      p ∙ ap (λ z. record { call = k; answer = z; written = written }) q ∙ ap (λ z. record { call = k; answer = (call_effect s before k).answer; written = z }) r ∙ ap (λ z. entry_of k (call_effect s z k)) at

  pub history_more : (x : h.Entry) (old new : h.History) → x ≡ entry_of k (call_effect s (entity_after s m made) k) → old ≡ history s m made → new ≡ x ∷ old → new ≡ history s m more
  history_more x old new p q r = r ∙ ap (λ z. z ∷ old) p ∙ ap (λ z. entry_of k (call_effect s (entity_after s m made) k) ∷ z) q ∙ sym (ap (history s m) e)

  pub session_records_more : (x : h.Entry) (old new one : List SessionRecord) (session : ℕ) → x ≡ entry_of k (call_effect s (entity_after s m made) k) → old ≡ session_records (history s m made) → session ≡ running_session (history s m made) → one ≡ records_in session x → new ≡ old ++ one → new ≡ session_records (history s m more)
  session_records_more x old new one session p q l o r =
      r ∙ ap (λ z. old ++ z) (o ∙ ap (records_in session) p ∙ ap (λ z. records_in z (entry_of k (call_effect s (entity_after s m made) k))) l)
      ∙ ap (λ z. z ++ records_in (running_session (history s m made)) (entry_of k (call_effect s (entity_after s m made) k))) q
      ∙ sym (ap (λ z. session_records (history s m z)) e)

  pub session_more : (answer : Result Outcome Refusal) (session next : ℕ) → answer ≡ (call_effect s before k).answer → session ≡ running_session (history s m made) → next ≡ next_session session answer → next ≡ running_session (history s m more)
  session_more answer session next q l r =
      r ∙ ap (λ z. next_session z answer) l ∙ ap (next_session (running_session (history s m made))) (q ∙ ap (λ z. (call_effect s z k).answer) at) ∙ sym (ap (λ z. running_session (history s m z)) e)
