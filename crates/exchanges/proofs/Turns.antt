-- What each call of an exchange does.
use Rattle.std.proofs.Common.{◌≡◌, ℕ, ◌+◌, ◌<◌, ◌≤◌, true, false, eqb, ltb, leb, List, [], length, Some, None, Ok, refl, ap, ◌∙◌, arith}
use Rattle.std.specs.Str.{bytes_eq}
use Rattle.std.proofs.lemmas.Bool.{le-ltb, lt-leb, eq-eqb, ne_eqb}
use Rattle.std.proofs.lemmas.Slice.Eq.{bytes_eq-Decides}
use Rattle.buffers.specs.declared.limits.TheConstants.{MAX_FRAME, MAX_PAYLOAD}
use Rattle.frame.specs.declared.types.Service.{Service}
use Rattle.frame.specs.declared.types.Service.TheVariants.{Sse, Sch}
use Rattle.frame.specs.Frames.{act_req, act_res, vfy_req, vfy_res, enc, tmn}
use Rattle.suite.specs.declared.limits.TheConstants.{MAX_DATA}
use Rattle.suite.specs.declared.types.Role.{Role}
use Rattle.suite.specs.declared.types.Role.TheVariants.{Sender, Recipient}
use Rattle.suite.specs.declared.types.KeyKind.TheVariants.{LinkKey}
use Rattle.suite.specs.Numbers.{role_byte}
use Rattle.suite.specs.Meanings.{IsBytes16, keyring_of, value_in}
use Rattle.suite.specs.Schemes.{Scheme}
use Rattle.suite.proofs.CallLaws.{room_enough}
use Rattle.suite.proofs.KeyLaws.{value_is}
use Rattle.protocol.specs.declared.states.State.{State}
use Rattle.protocol.specs.declared.states.State.TheVariants.{EstablishedSender, EstablishedRecipient, ConfirmedSse}
use Rattle.protocol.specs.declared.outcomes.Confirmation.{Confirmation}
use Rattle.protocol.specs.declared.outcomes.Confirmation.TheVariants as conf
use Rattle.protocol.specs.Outcomes.{ongoing_outcome}
use Rattle.protocol.specs.Models.{Model, Ancillary, new_model, no_seed}
use Rattle.protocol.specs.Steps.{frame_bytes, idle_effect, with_secret, check_value, derivation, sealed_record, good_record, opened_record}
use Rattle.protocol.specs.Calls.{CallEffect, invoke, send, retrieve_data, retrieve_secret, terminate, frame, call_effect}
use Rattle.exchanges.specs.Exchanges.{IsConfirmed, IsInLink, IsRecordData}
use Rattle.exchanges.proofs.Shapes.{bare, agreed_suite, secret_is, selecting, sharing, linking}

-- a call that meets no fault and destroys no key
abbrev pub stepped : Model → Confirmation → ℕ → List ℕ → CallEffect
stepped m confirmation made reply = record { model = m; answer = Ok (ongoing_outcome confirmation (length reply) made); reply = reply }

-- bytes are equal to themselves
same_bytes : (p : List ℕ) → bytes_eq p p ≡ true
same_bytes p = (bytes_eq-Decides p p).1 refl

-- Activations. The facts of each call: room for the reply, lengths, an offer that is fit, and a serial that is left.

module _ (s : Scheme) (root : List ℕ) (last n room : ℕ) (wide : ltb room MAX_FRAME ≡ false) where
  -- INVOKE
  pub ask_is : (v : Service) (seed : List ℕ) → eqb (length seed) 16 ≡ true
      → call_effect s (new_model (bare root last n)) (invoke v s.pid seed room)
      ≡ stepped (selecting (bare root last n) v seed) conf.Nothing 0 (frame_bytes v (act_req s.pid (s.offer_of (keyring_of (bare root last n)) seed)))
  ask_is v seed long = let pid = eq-eqb s.pid s.pid refl in rw (wide, long, pid)

  -- the two once they have a shared secret of this value
  abbrev agreeing : Service → List ℕ → Model
  agreeing v value = sharing root last (n + 1) value EstablishedRecipient v Recipient no_seed

  abbrev asking : Service → List ℕ → List ℕ → Model
  asking v seed value = sharing root last (n + 1) value EstablishedSender v Sender seed

  -- ACT_REQ
  pub reply_is : (v : Service) (offer : List ℕ) (answering : Ancillary) → eqb (length answering.seed) 16 ≡ true
      → ltb MAX_FRAME (length (frame_bytes v (act_req s.pid offer))) ≡ false → s.fit_of (keyring_of (bare root last n)) offer ≡ true → eqb n last ≡ false
      → let value = s.secret_of (keyring_of (bare root last n)) 2 answering.seed offer in
      call_effect s (new_model (bare root last n)) (frame (frame_bytes v (act_req s.pid offer)) answering room)
      ≡ stepped (agreeing v value) conf.Nothing (n + 1) (frame_bytes v (act_res (s.offer_of (keyring_of (agreed_suite root last (n + 1) value)) answering.seed)))
  reply_is Sse offer answering long short fit left = let pid = eq-eqb s.pid s.pid refl in rw (wide, long, short, pid, fit, left)
  reply_is Sch offer answering long short fit left = let pid = eq-eqb s.pid s.pid refl in rw (wide, long, short, pid, fit, left)

  -- the check value that the Sender asks with
  asks_by : (v : Service) (seed value : List ℕ)
      → check_value s (with_secret (selecting (bare root last n) v seed) value) Sender ≡ s.check_of (keyring_of (agreed_suite root last (n + 1) value)) (n + 1) value 1
  asks_by v seed value = ap (λ z. s.check_of (keyring_of (agreed_suite root last (n + 1) value)) (n + 1) z 1) (secret_is (n + 1) value)

  -- ACT_RES
  pub check_is : (v : Service) (offer seed : List ℕ) (beside : Ancillary) → eqb (length beside.seed) 16 ≡ true
      → ltb MAX_FRAME (length (frame_bytes v (act_res offer))) ≡ false → s.fit_of (keyring_of (bare root last n)) offer ≡ true → eqb n last ≡ false
      → let value = s.secret_of (keyring_of (bare root last n)) 1 seed offer in
      call_effect s (selecting (bare root last n) v seed) (frame (frame_bytes v (act_res offer)) beside room)
      ≡ stepped (asking v seed value) conf.Nothing (n + 1) (frame_bytes v (vfy_req (s.check_of (keyring_of (agreed_suite root last (n + 1) value)) (n + 1) value 1)))
  check_is Sse offer seed beside long short fit left = let own = asks_by Sse seed (s.secret_of (keyring_of (bare root last n)) 1 seed offer) in rw (wide, long, short, fit, left, own)
  check_is Sch offer seed beside long short fit left = let own = asks_by Sch seed (s.secret_of (keyring_of (bare root last n)) 1 seed offer) in rw (wide, long, short, fit, left, own)

-- with a shared secret, and the check values of the Sender and of the Recipient
module _ (s : Scheme) (root : List ℕ) (last n room : ℕ) (wide : ltb room MAX_FRAME ≡ false)
    (value : List ℕ) (beside : Ancillary) (long : eqb (length beside.seed) 16 ≡ true) (asked replied : List ℕ)
    (senders : s.check_of (keyring_of (agreed_suite root last n value)) n value 1 ≡ asked)
    (recipients : s.check_of (keyring_of (agreed_suite root last n value)) n value 2 ≡ replied) where
  -- before and after the confirmation
  abbrev before : State → Service → Role → List ℕ → Model
  before state v role seed = sharing root last n value state v role seed

  abbrev linked : Role → List ℕ → Model
  linked role seed = linking root last n value (s.link_of (keyring_of (agreed_suite root last n value)) n value) role seed s.first

  -- the check value of each role, and what is derived
  checks : (state : State) (v : Service) (role other : Role) (seed : List ℕ)
      → check_value s (before state v role seed) other ≡ s.check_of (keyring_of (agreed_suite root last n value)) n value (role_byte other)
  checks state v role other seed = ap (λ z. s.check_of (keyring_of (agreed_suite root last n value)) n z (role_byte other)) (secret_is n value)

  derives : (state : State) (role : Role) (seed : List ℕ) → eqb n last ≡ false
      → derivation s (before state Sch role seed).means n ≡ Ok (s.link_of (keyring_of (agreed_suite root last n value)) n value)
  derives state role seed left =
      let same = secret_is n value in
      rw (left, same)

  -- VFY_REQ
  pub confirm_sse : ltb MAX_FRAME (length (frame_bytes Sse (vfy_req asked))) ≡ false
      → call_effect s (before EstablishedRecipient Sse Recipient no_seed) (frame (frame_bytes Sse (vfy_req asked)) beside room)
      ≡ stepped (before ConfirmedSse Sse Recipient no_seed) conf.Established 0 (frame_bytes Sse (vfy_res replied))
  confirm_sse short =
      let theirs = checks EstablishedRecipient Sse Recipient Sender no_seed ∙ senders in
      let own = checks EstablishedRecipient Sse Recipient Recipient no_seed ∙ recipients in
      let same = same_bytes asked in
      rw (wide, long, short, theirs, same, own)

  pub confirm_sch : ltb MAX_FRAME (length (frame_bytes Sch (vfy_req asked))) ≡ false → eqb n last ≡ false
      → call_effect s (before EstablishedRecipient Sch Recipient no_seed) (frame (frame_bytes Sch (vfy_req asked)) beside room)
      ≡ stepped (linked Recipient no_seed) conf.Established (n + 1) (frame_bytes Sch (vfy_res replied))
  confirm_sch short left =
      let theirs = checks EstablishedRecipient Sch Recipient Sender no_seed ∙ senders in
      let own = checks EstablishedRecipient Sch Recipient Recipient no_seed ∙ recipients in
      let link = derives EstablishedRecipient Recipient no_seed left in
      let same = same_bytes asked in
      rw (wide, long, short, theirs, same, own, link)

  -- VFY_RES
  pub complete_sse : (seed : List ℕ) → ltb MAX_FRAME (length (frame_bytes Sse (vfy_res replied))) ≡ false
      → call_effect s (before EstablishedSender Sse Sender seed) (frame (frame_bytes Sse (vfy_res replied)) beside room)
      ≡ stepped (before ConfirmedSse Sse Sender seed) conf.Established 0 []
  complete_sse seed short =
      let theirs = checks EstablishedSender Sse Sender Recipient seed ∙ recipients in
      let same = same_bytes replied in
      rw (wide, long, short, theirs, same)

  pub complete_sch : (seed : List ℕ) → ltb MAX_FRAME (length (frame_bytes Sch (vfy_res replied))) ≡ false → eqb n last ≡ false
      → call_effect s (before EstablishedSender Sch Sender seed) (frame (frame_bytes Sch (vfy_res replied)) beside room)
      ≡ stepped (linked Sender seed) conf.Established (n + 1) []
  complete_sch seed short left =
      let theirs = checks EstablishedSender Sch Sender Recipient seed ∙ recipients in
      let link = derives EstablishedSender Sender seed left in
      let same = same_bytes replied in
      rw (wide, long, short, theirs, same, link)

-- RETRIEVE_SECRET
pub tell_is : (s : Scheme) (root : List ℕ) (last n : ℕ) (role : Role) (seed value : List ℕ) (room : ℕ) → ltb room 16 ≡ false
    → let m = sharing root last n value ConfirmedSse Sse role seed in
    call_effect s m (retrieve_secret room) ≡ stepped m conf.Nothing 0 value
tell_is s root last n role seed value room wide = let self = eq-eqb n n refl in rw (wide, self)

-- Records.

module _ (s : Scheme) (m : Model) (plain : List ℕ) (fit : IsRecordData plain) where
  -- the facts that each call needs
  filled : eqb (length plain) 0 ≡ false
  filled = let some = fit.some in ne_eqb (length plain) 0 (λ e. omega arith)

  not_long : ltb MAX_DATA (length plain) ≡ false
  not_long = le-ltb MAX_DATA (length plain) fit.most

  -- SEND
  pub send_is : (room : ℕ) → MAX_FRAME ≤ room → (value : List ℕ) → IsConfirmed Sch m → value_in m.means.live LinkKey m.link ≡ Some value
      → m.number < s.final
      → let payload = s.seal_of (keyring_of m.means) m.link value (role_byte m.role) (m.number + 1) plain in
      call_effect s m (send plain room) ≡ stepped (record m { number = m.number + 1 }) conf.DataSent 0 (frame_bytes Sch (enc payload))
  send_is room enough value c key below =
      let roomy = room_enough room enough in
      let state = c.state in
      let next : leb s.final m.number ≡ false = lt-leb s.final m.number below in
      let sealed : sealed_record s m (m.number + 1) plain ≡ s.seal_of (keyring_of m.means) m.link value (role_byte m.role) (m.number + 1) plain
      = ap (λ z. s.seal_of (keyring_of m.means) m.link z (role_byte m.role) (m.number + 1) plain) (value_is m.means.live LinkKey m.link value key) in
      rw (sealed, roomy, state, filled, not_long, next)

  -- ENC of the other role
  pub hear_is : (room : ℕ) → MAX_FRAME ≤ room → (beside : Ancillary) → IsBytes16 beside.seed → (value payload : List ℕ) (role : ℕ)
      → IsInLink value m → m.number < s.final → length payload ≤ MAX_PAYLOAD → eqb role (role_byte m.role) ≡ false
      → s.open_of (keyring_of m.means) m.link value payload ≡ Some (role, m.number + 1, plain)
      → call_effect s m (frame (frame_bytes Sch (enc payload)) beside room)
      ≡ stepped (record m { number = m.number + 1; held = plain }) conf.DataAvailable 0 []
  hear_is room enough beside h value payload role c below light differs opens =
      let roomy = room_enough room enough in
      let state = c.confirmed.state in
      let service = c.confirmed.service in
      let none = c.none_held in
      let opened : opened_record s m payload ≡ Ok (role, m.number + 1, plain)
      = ap (λ z. good_record (s.open_of (keyring_of m.means) m.link z payload)) (value_is m.means.live LinkKey m.link value c.key) ∙ ap good_record opens in
      let sixteen : eqb (length beside.seed) 16 ≡ true = eq-eqb (length beside.seed) 16 h.long in
      let short : ltb MAX_FRAME (length (frame_bytes Sch (enc payload))) ≡ false = le-ltb MAX_FRAME (length (frame_bytes Sch (enc payload))) (omega arith) in
      let other : eqb (m.number + 1) m.number ≡ false = ne_eqb (m.number + 1) m.number (λ e. omega arith) in
      let self : eqb (m.number + 1) (m.number + 1) ≡ true = eq-eqb (m.number + 1) (m.number + 1) refl in
      let low : ltb s.final (m.number + 1) ≡ false = le-ltb s.final (m.number + 1) (omega arith) in
      rw (roomy, sixteen, short, none, state, service, opened, filled, not_long, other, differs, self, low)

  -- RETRIEVE_DATA
  pub data_is : (room : ℕ) → MAX_DATA ≤ room → IsConfirmed Sch m → m.held ≡ plain → call_effect s m (retrieve_data room) ≡ stepped (record m { held = [] }) conf.Nothing 0 plain
  data_is room enough c held =
      let most = fit.most in
      let state = c.state in
      let fits : ltb room (length plain) ≡ false = le-ltb room (length plain) (omega arith) in
      rw (state, held, filled, fits)

-- The end, for either service.

module _ (s : Scheme) (m : Model) (room : ℕ) (enough : MAX_FRAME ≤ room) where
  wide : ltb room MAX_FRAME ≡ false
  wide = room_enough room enough

  -- TERMINATE
  pub terminate_is : (v : Service) → IsConfirmed v m → call_effect s m (terminate room) ≡ idle_effect m conf.Terminated (frame_bytes v (tmn [])) None
  terminate_is Sse c = let state = c.state in let service = c.service in rw (wide, state, service)
  terminate_is Sch c = let state = c.state in let service = c.service in rw (wide, state, service)

  -- TMN
  pub tmn_is : (v : Service) (beside : Ancillary) → IsConfirmed v m → IsBytes16 beside.seed
      → call_effect s m (frame (frame_bytes v (tmn [])) beside room) ≡ idle_effect m conf.Terminated [] None
  tmn_is Sse beside c h =
      let long = eq-eqb (length beside.seed) 16 h.long in
      let state = c.state in
      let service = c.service in
      rw (wide, long, state, service)
  tmn_is Sch beside c h =
      let long = eq-eqb (length beside.seed) 16 h.long in
      let state = c.state in
      let service = c.service in
      rw (wide, long, state, service)
