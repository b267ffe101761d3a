-- What an entity asks of its suite is never denied as unfit or unknown.
use Rattle.std.proofs.Common.{◌≡◌, ◌≢◌, ℕ, ◌+◌, ◌≤◌, true, false, not, ◌||◌, eqb, List, [], ◌∷◌, length, Ok, Err, Result, sym, refl, ap, subst, arith}
use Rattle.std.proofs.lemmas.Bool.{ne_eqb, eq-eqb, or_left, or_right}
use Rattle.std.specs.Prelude.{is_some}
use Rattle.buffers.specs.declared.limits.TheConstants.{MAX_FRAME}
use Rattle.frame.specs.declared.types.Service.{Service}
use Rattle.suite.specs.declared.types.Role.{Role}
use Rattle.suite.specs.declared.types.KeyKind.TheVariants.{SharedSecret, LinkKey}
use Rattle.suite.specs.declared.types.Denial.{Denial}
use Rattle.suite.specs.declared.types.Denial.TheVariants.{BadOffer, Spent}
use Rattle.suite.specs.Numbers.{role_byte}
use Rattle.suite.specs.Meanings.{Meaning, keyring_of, value_in, is_live}
use Rattle.suite.specs.Schemes.{Scheme, IsLawful}
use Rattle.suite.specs.Calls.{is_spent, with_key, offer_result, agree_result, destroy_result}
use Rattle.suite.proofs.CallLaws.{offered_is, agreed_is, derived_is, checked_is, revealed_is, sealed_is, opened_is}
use Rattle.protocol.specs.declared.states.State.{State}
use Rattle.protocol.specs.declared.states.State.TheVariants.{Idle, Select, EstablishedSender, EstablishedRecipient, ConfirmedSse, ConfirmedSch}
use Rattle.protocol.specs.Numbers.{state_mark}
use Rattle.protocol.specs.Models.{Model, has_secret, has_link, without_key}
use Rattle.promises.specs.Promises.{IsWellAsked, ServesAsSecret, ServesAsLink, AsksWell}
use Rattle.promises.proofs.Cases.{both, clash}
use Rattle.promises.proofs.Forms.{Base, One, Two, none_live, one_live, two_live, secret_key, link_key, none_formed, one_formed, two_formed, secret_there, link_there}
use Rattle.promises.proofs.EntityForms.{unlinked, in_link, SecretOnly, HasForm, at_idle, at_select, at_secret, at_sch}

-- Answers that are no such denial.

answered : {A : Type 0} (x : A) → IsWellAsked (Ok x)
answered x = record { fit = λ e. (cc); known = λ e. (cc) }

bad_offer : {A : Type 0} → IsWellAsked {A = A} (Err BadOffer)
bad_offer = record { fit = λ e. (cc); known = λ e. (cc) }

spent_asked : {A : Type 0} → IsWellAsked {A = A} (Err Spent)
spent_asked = record { fit = λ e. (cc); known = λ e. (cc) }

-- an answer that equals one which is no such denial
same_as : {A : Type 0} {a b : Result A Denial} → a ≡ b → IsWellAsked b → IsWellAsked a
same_as e g = subst IsWellAsked (sym e) g

-- The suite's calls.

offer_asked : (s : Scheme) (m : Meaning) (seed : List ℕ) (room : ℕ) → length seed ≡ 16 → MAX_FRAME ≤ room → IsWellAsked (offer_result s m seed room)
offer_asked s m seed room e h = same_as (offered_is s m seed room e h) (answered _)

agreement_asked : (s : Scheme) (m : Meaning) (seed offer : List ℕ) (role : Role) → length seed ≡ 16 → IsWellAsked (agree_result s m seed offer (role_byte role))
agreement_asked s m seed offer role e =
    same_as (agreed_is s m seed offer role e)
    (both (not (s.fit_of (keyring_of m) offer)) IsWellAsked (λ _. bad_offer) (λ _. both (is_spent m) IsWellAsked (λ _. spent_asked) (λ _. answered _)))

secret_serves : (s : Scheme) (m : Meaning) (key : ℕ) → is_some (value_in m.live SharedSecret key) ≡ true → ServesAsSecret s m key
secret_serves s m key live = record {
  check = λ role room h. same_as (checked_is s m key role room h live) (answered _);
  link = same_as (derived_is s m key live) (both (is_spent m) IsWellAsked (λ _. spent_asked) (λ _. answered _));
  value = λ room h. same_as (revealed_is m key room h live) (answered _);
}

link_serves : (s : Scheme) → IsLawful s → (m : Meaning) (key : ℕ) → is_some (value_in m.live LinkKey key) ≡ true → ServesAsLink s m key
link_serves s law m key live = record {
  seal = λ role n plain room long top h.
      let final = law.final_bound in
      same_as (sealed_is s m key role n plain room long (omega arith) h live) (answered _);
  unseal = λ payload room short h. same_as (opened_is s m key payload room short h live) (answered _);
}

destroy_asked : (m : Meaning) (key : ℕ) → is_live m.live key ≡ true → IsWellAsked (destroy_result m key)
destroy_asked m key e = both (is_live m.live key) IsWellAsked (λ _. answered _) (λ f. clash (is_live m.live key) f e)

-- An entity over its suite.

no_key : {P : Type 0} → ◌≢◌ {A = ℕ} 0 0 → P
no_key ne = absurd (ne refl)

above_select : {state : State} → SecretOnly state → state ≢ Select
above_select k e = let mark = ap state_mark e in let low = k.low in omega arith

below_link : {state : State} → SecretOnly state → state ≢ ConfirmedSch
below_link k e = let mark = ap state_mark e in let high = k.high in omega arith

with_secret : (state : State) → SecretOnly state → has_secret state ≢ false
with_secret Idle k e = let low = k.low in omega arith
with_secret Select k e = let low = k.low in omega arith
with_secret EstablishedSender k e = cc
with_secret EstablishedRecipient k e = cc
with_secret ConfirmedSse k e = cc
with_secret ConfirmedSch k e = cc

is_sch : (state : State) → has_link state ≡ true → state ≡ ConfirmedSch
is_sch Idle e = absurd (cc)
is_sch Select e = absurd (cc)
is_sch EstablishedSender e = absurd (cc)
is_sch EstablishedRecipient e = absurd (cc)
is_sch ConfirmedSse e = absurd (cc)
is_sch ConfirmedSch e = refl

alone_live : (n : ℕ) (v : List ℕ) → is_live (secret_key n v ∷ []) n ≡ true
alone_live n v = or_left (eqb n n) false (eq-eqb n n refl)

link_live : (n : ℕ) (v w : List ℕ) → is_live (secret_key n v ∷ link_key (n + 1) w ∷ []) (n + 1) ≡ true
link_live n v w = or_right (eqb n (n + 1)) (eqb (n + 1) (n + 1) || false) (or_left (eqb (n + 1) (n + 1)) false (eq-eqb (n + 1) (n + 1) refl))

-- the shared secret stays where the link key goes
secret_stays : (root : List ℕ) (last n : ℕ) (v w : List ℕ) → is_live (without_key (two_live root last n v w) (n + 1)).live n ≡ true
secret_stays root last n v w =
    let above : eqb (n + 1) 0 ≡ false = ne_eqb (n + 1) 0 (λ x. omega arith) in
    let apart : eqb n (n + 1) ≡ false = ne_eqb n (n + 1) (λ x. omega arith) in
    let self = eq-eqb n n refl in
    rw (above, apart, self)

module _ (s : Scheme) (law : IsLawful s) where
  -- with no key
  serves_none : (root : List ℕ) (last n : ℕ) {state : State} {service : Service} {role : Role} {seed : List ℕ} {number : ℕ} → Base root last n → state ≢ ConfirmedSch → has_secret state ≡ false → (state ≡ Select → length seed ≡ 16) → AsksWell s (unlinked (none_live root last n) state service role seed number 0)
  serves_none root last n b unlinked' none kept = record {
    formed = none_formed root last n b;
    live = record { secret_live = λ some. clash _ none some; link_live = λ e. absurd (unlinked' (is_sch _ e)) };
    offer = λ seed room e h. offer_asked s (none_live root last n) seed room e h;
    agreement = λ seed offer role e. agreement_asked s (none_live root last n) seed offer role e;
    kept_seed = kept;
    new_secret = λ _ value. secret_serves s (with_key (none_live root last n) SharedSecret value) (n + 1) (ap is_some (secret_there (n + 1) value []));
    secret = λ some. clash _ none some;
    link = λ e. absurd (unlinked' e);
    link_goes = no_key;
    secret_goes = no_key;
  }

  serves_secret : (root : List ℕ) (last n : ℕ) (v : List ℕ) {state : State} {service : Service} {role : Role} {seed : List ℕ} {number : ℕ} → SecretOnly state → One root last n v → AsksWell s (unlinked (one_live root last n v) state service role seed number n)
  serves_secret root last n v k one = record {
    formed = one_formed root last n v one;
    live = record { secret_live = λ _. ap is_some (secret_there n v []); link_live = λ e. absurd (below_link k (is_sch _ e)) };
    offer = λ seed room e h. offer_asked s (one_live root last n v) seed room e h;
    agreement = λ seed offer role e. agreement_asked s (one_live root last n v) seed offer role e;
    kept_seed = λ e. absurd (above_select k e);
    new_secret = λ none value. absurd (with_secret _ k none);
    secret = λ some. secret_serves s (one_live root last n v) n (ap is_some (secret_there n v []));
    link = λ e. absurd (below_link k e);
    link_goes = no_key;
    secret_goes = λ ne. destroy_asked (one_live root last n v) n (alone_live n v);
  }

  serves_link : (root : List ℕ) (last n : ℕ) (v w : List ℕ) {role : Role} {seed : List ℕ} {number : ℕ} {held : List ℕ} → Two root last n v w → AsksWell s (in_link (two_live root last n v w) role seed number held n)
  serves_link root last n v w two = record {
    formed = two_formed root last n v w two;
    live = record { secret_live = λ _. ap is_some (secret_there n v (link_key (n + 1) w ∷ [])); link_live = λ _. ap is_some (link_there n v w) };
    offer = λ seed room e h. offer_asked s (two_live root last n v w) seed room e h;
    agreement = λ seed offer role e. agreement_asked s (two_live root last n v w) seed offer role e;
    kept_seed = λ e. (cc);
    new_secret = λ none value. (cc);
    secret = λ some. secret_serves s (two_live root last n v w) n (ap is_some (secret_there n v (link_key (n + 1) w ∷ [])));
    link = λ e. link_serves s law (two_live root last n v w) (n + 1) (ap is_some (link_there n v w));
    link_goes = λ ne. destroy_asked (two_live root last n v w) (n + 1) (link_live n v w);
    secret_goes = λ ne. destroy_asked (without_key (two_live root last n v w) (n + 1)) n (secret_stays root last n v w);
  }

  pub asks_well : {m : Model} → HasForm s m → AsksWell s m
  asks_well (at_idle {root} {last} {newest} b) = serves_none root last newest b (λ e. (cc)) refl (λ e. absurd (cc))
  asks_well (at_select {root} {last} {newest} b h) = serves_none root last newest b (λ e. (cc)) refl (λ e. h.long)
  asks_well (at_secret {root} {last} {n} {v} state k one) = serves_secret root last n v k one
  asks_well (at_sch {root} {last} {n} {v} {w} two lo hi) = serves_link root last n v w two
