-- A call that is refused, and a call that ends in Idle.
use Rattle.std.proofs.Common.{◌≡◌, ℕ, ◌+◌, ◌<◌, Bool, true, false, cond, eqb, List, [], ◌∷◌, ◌++◌, Err, Option, Result, refl, inl, inr, arith}
use Rattle.std.proofs.lemmas.Bool.{ne_eqb, eq-eqb, cases_Bool}
use Rattle.suite.specs.Schemes.{Scheme}
use Rattle.protocol.specs.declared.states.State.{State}
use Rattle.protocol.specs.declared.outcomes.Confirmation.{Confirmation}
use Rattle.protocol.specs.declared.outcomes.Outcome.{Outcome}
use Rattle.protocol.specs.declared.refusals.Refusal.{Refusal}
use Rattle.protocol.specs.declared.faults.Fault.{Fault}
use Rattle.protocol.specs.Numbers.{state_mark, confirmation_number}
use Rattle.protocol.specs.Models.{Model, without_key}
use Rattle.protocol.specs.Steps.{idle_effect}
use Rattle.protocol.specs.Calls.{Call, invoke, send, retrieve_data, retrieve_secret, terminate, frame, release, refusal_effect}
use Rattle.histories.specs.Histories.{is_member, serial_list, is_retrieved_by, serials_made_in, serials_destroyed_in, session_started}
use Rattle.promises.proofs.Cases.{clash}
use Rattle.promises.proofs.Books.{Clears, none, one, two}
use Rattle.promises.proofs.Forms.{none_live, one_live, two_live}
use Rattle.promises.proofs.Ledgers.{other}
use Rattle.promises.proofs.EntityForms.{SecretOnly, HasForm, at_idle, at_select, at_secret, at_sch, in_sch, Silent, Did, outside, inside, ends}

pub silent : {a : Result Outcome Refusal} → serials_made_in a ≡ [] → serials_destroyed_in a ≡ [] → session_started a ≡ 0 → Silent a
silent p q r = record { makes = p; destroys = q; begins = r }

-- a number that rises by no record
pub unmoved : (n : ℕ) → n ≡ (n + 0) + 0
unmoved n = omega arith

none_handed : (r : Refusal) (c : Call) → is_retrieved_by (Err r) c ≡ false
none_handed r (invoke service pid seed room) = refl
none_handed r (send plain room) = refl
none_handed r (retrieve_data room) = refl
none_handed r (retrieve_secret room) = refl
none_handed r (terminate room) = refl
none_handed r (frame bytes beside room) = refl
none_handed r release = refl

pub did_refused : (s : Scheme) (c : Call) (r : Refusal) {m : Model} → HasForm s m → Did s c m (refusal_effect m r)
did_refused s c r {m} S =
    elim (cases_Bool (in_sch m)) [
      | inl t ↦ inside S refl t t refl refl (silent refl refl refl) (unmoved m.number) (λ w e. other refl refl (none_handed r c))
      | inr o ↦ outside S refl o o (silent refl refl refl)
    ]

pub not_linked : {state : State} → SecretOnly state → eqb (state_mark state) 5 ≡ false
not_linked {state} k = ne_eqb (state_mark state) 5 (λ e. omega arith)

pub not_idle : {state : State} → SecretOnly state → eqb (state_mark state) 0 ≡ false
not_idle {state} k = ne_eqb (state_mark state) 0 (λ e. omega arith)

above_zero : (n : ℕ) → 0 < n → eqb n 0 ≡ false
above_zero n h = ne_eqb n 0 (λ e. omega arith)

none_started : (b : Bool) → b ≡ false → ◌≡◌ {A = ℕ} (cond b 0 0) 0
none_started b e = rw e

one_cleared : (n : ℕ) → 0 < n → Clears (n ∷ []) (serial_list n)
one_cleared n h = let ne = above_zero n h in rw ne one

two_cleared : (n : ℕ) → 0 < n → Clears (n ∷ (n + 1) ∷ []) (serial_list (n + 1) ++ serial_list n)
two_cleared n h =
    let ne = above_zero n h in
    let ne' = above_zero (n + 1) (omega arith) in
    let differ : n ≡ n + 1 → ⊥ = λ x. omega arith in
    rw (ne', ne) (two differ)

link_cleared : (n : ℕ) → is_member (n + 1) (serial_list (n + 1) ++ serial_list n) ≡ true
link_cleared n =
    let ne' = above_zero (n + 1) (omega arith) in
    let self' = eq-eqb (n + 1) (n + 1) refl in
    rw (ne', self')

-- the shared secret of a suite goes, and with it a link key

pub secret_gone : (root : List ℕ) (last n : ℕ) (v : List ℕ) → 0 < n → without_key (one_live root last n v) n ≡ none_live root last n
secret_gone root last n v h =
    let ne = above_zero n h in
    let self = eq-eqb n n refl in
    rw (ne, self) refl

pub both_gone : (root : List ℕ) (last n : ℕ) (v w : List ℕ) → 0 < n → without_key (without_key (two_live root last n v w) (n + 1)) n ≡ none_live root last (n + 1)
both_gone root last n v w h =
    let ne = above_zero n h in
    let self = eq-eqb n n refl in
    let ne' = above_zero (n + 1) (omega arith) in
    let self' = eq-eqb (n + 1) (n + 1) refl in
    let apart : eqb n (n + 1) ≡ false = ne_eqb n (n + 1) (λ x. omega arith) in
    rw (ne', apart, self', ne, self) refl

pub did_ended : (s : Scheme) (c : Call) (k : Confirmation) (r : List ℕ) (f : Option Fault) {m : Model} → eqb (confirmation_number k) 1 ≡ false → HasForm s m → Did s c m (idle_effect m k r f)
did_ended s c k r f e (at_idle b) = ends (at_idle b) refl refl refl refl (none_started _ e) none (λ x. clash false refl x)
did_ended s c k r f e (at_select b h) = ends (at_idle b) refl refl refl refl (none_started _ e) none (λ x. clash false refl x)
did_ended s c k r f e (at_secret {root} {last} {n} {v} state h o) =
    let out = not_linked h in
    let gone = secret_gone root last n v o.pos in
    rw gone (ends (at_idle o.base) refl refl refl refl (none_started _ e) (one_cleared n o.pos) (λ x. clash _ out x))
did_ended s c k r f e (at_sch {root} {last} {n} {v} {w} h lo hi) =
    let gone = both_gone root last n v w h.pos in
    rw gone (ends (at_idle h.base) refl refl refl refl (none_started _ e) (two_cleared n h.pos) (λ x. link_cleared n))
