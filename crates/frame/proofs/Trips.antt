-- Reader and writer undo each other.
use Rattle.std.proofs.Common.{◌≡◌, ℕ, Bool, true, false, cond, not, eqb, ltb, ◌≤◌, List, [], ◌∷◌, length, take, drop, Some, None, Ok, Err, Option, Result, sym, refl, ap, ◌∙◌, subst, arith}
use Rattle.std.proofs.lemmas.List.{take_at}
use Rattle.std.proofs.lemmas.Bool.{eqb-true, le-ltb, ltb-false}
use Rattle.std.proofs.lemmas.Bool.Decides.{nat_tests}
use Rattle.buffers.specs.declared.limits.TheConstants.{MAX_FRAME, MAX_PAYLOAD}
use Rattle.frame.specs.declared.types.Service.{Service}
use Rattle.frame.specs.declared.types.Service.TheVariants.{Sse, Sch}
use Rattle.frame.specs.declared.types.MessageKind.{MessageKind}
use Rattle.frame.specs.declared.types.MessageKind.TheVariants as msg
use Rattle.frame.specs.declared.faults.FaultCode.{FaultCode}
use Rattle.frame.specs.declared.faults.Refusal.{Refusal}
use Rattle.frame.specs.Numbers.{service_code, message_code, codec_code}
use Rattle.frame.specs.Frames.{Contents, act_req, act_res, vfy_req, vfy_res, enc, tmn, error, FrameParts, kind_of, bytes_after_sep, sep, wire_bytes}
use Rattle.frame.specs.Reading.{rfu_bits, svc_bits, msg_bits, first_with_code, all_services, all_kinds, service_with, kind_with, service_and_kind, sep_reading, contents_reading, Reading, message, refused, reading_of_contents, reading_of_sep, reading}
use Rattle.buffers.specs.Buffers.{with_front, length_result, buffer_after}
use Rattle.frame.specs.Writing.{is_tmn_with_payload, writing_result, numbered_result, ReadsBack, WritesAgain}

never : {P : Type 0} → ◌≡◌ {A = ℕ} 0 1 → P
never z = absurd (omega arith)

-- From bytes to a message and back.

coded_at : {A : Type 0} (code : A → ℕ) (more : List A) (n : ℕ) (b a : A) → (first_with_code code more n ≡ Some a → n ≡ code a) → (t : Bool) → eqb n (code b) ≡ t → cond t (Some b) (first_with_code code more n) ≡ Some a → n ≡ code a
coded_at code more n b a later true q r = let same : b ≡ a = cc in eqb-true n (code b) q ∙ ap code same
coded_at code more n b a later false q r = later r

-- what is found under a code has that code
coded_is : {A : Type 0} (code : A → ℕ) (some : List A) (n : ℕ) (a : A) → first_with_code code some n ≡ Some a → n ≡ code a
coded_is code [] n a e = never (cc)
coded_is code (b ∷ more) n a e = coded_at code more n b a (coded_is code more n a) (eqb n (code b)) refl e

joined : (b : ℕ) (s : Service) (k : MessageKind) → rfu_bits b ≡ 0 → svc_bits b ≡ service_code s → msg_bits b ≡ message_code k → b ≡ sep s k
joined b s k r v m = omega arith

-- a SEP byte that is read is the byte of its service and message
head_is : (b : ℕ) (s : Service) (k : MessageKind) → sep_reading b ≡ Ok (s, k) → b ≡ sep s k
head_is b s k e = at (eqb (rfu_bits b) 0) refl e
  where
    name : (o : Option Service) (p : Option MessageKind) → service_with (svc_bits b) ≡ o → kind_with (msg_bits b) ≡ p → rfu_bits b ≡ 0 → service_and_kind o p ≡ Ok (s, k) → b ≡ sep s k
    name None p ho hp r q = never (cc)
    name (Some v) None ho hp r q = never (cc)
    name (Some v) (Some m) ho hp r q =
        let pair : ◌≡◌ {A = Service × MessageKind} (v, m) (s, k) = cc in
        let hv = coded_is service_code all_services (svc_bits b) v ho ∙ ap (λ z. service_code z.0) pair in
        let hm = coded_is message_code all_kinds (msg_bits b) m hp ∙ ap (λ z. message_code z.1) pair in
        joined b s k r hv hm

    at : (t : Bool) → eqb (rfu_bits b) 0 ≡ t → cond (not t) (Err (codec_code 1 0)) (service_and_kind (service_with (svc_bits b)) (kind_with (msg_bits b))) ≡ Ok (s, k) → b ≡ sep s k
    at true q r = name (service_with (svc_bits b)) (kind_with (msg_bits b)) refl refl (eqb-true (rfu_bits b) 0 q) r
    at false q r = never (cc)

-- what was read of the bytes after SEP
record Shaped (k : MessageKind) (rest : List ℕ) (x : Contents) : Type 0 where
  kind : kind_of x ≡ k
  bytes : bytes_after_sep x ≡ rest
  light : is_tmn_with_payload x ≡ false

shaped_as : (y x : Contents) → is_tmn_with_payload y ≡ false → ◌≡◌ {A = Result Contents FaultCode} (Ok y) (Ok x) → Shaped (kind_of y) (bytes_after_sep y) x
shaped_as y x light e = let same : y ≡ x = cc in subst (Shaped (kind_of y) (bytes_after_sep y)) same (record { kind = refl; bytes = refl; light = light })

shaped_is : (k : MessageKind) (rest : List ℕ) (x : Contents) → contents_reading k rest ≡ Ok x → Shaped k rest x
shaped_is msg.ActReq [] x e = never (cc)
shaped_is msg.ActReq (pid ∷ p) x e = shaped_as (act_req pid p) x refl e
shaped_is msg.ActRes p x e = shaped_as (act_res p) x refl e
shaped_is msg.VfyReq p x e = shaped_as (vfy_req p) x refl e
shaped_is msg.VfyRes p x e = shaped_as (vfy_res p) x refl e
shaped_is msg.Enc p x e = shaped_as (enc p) x refl e
shaped_is msg.Tmn [] x e = shaped_as (tmn []) x refl e
shaped_is msg.Tmn (y ∷ p) x e = never (cc)
shaped_is msg.Error p x e = shaped_as (error p) x refl e

-- a frame that is read as a message is the bytes of that message, which the writer does not refuse
record Taken (frame : List ℕ) (x : FrameParts) : Type 0 where
  bytes : wire_bytes x ≡ frame
  light : is_tmn_with_payload x.contents ≡ false
  short : ltb MAX_FRAME (length frame) ≡ false

taken_body : (b : ℕ) (rest : List ℕ) (s : Service) (k : MessageKind) (x : FrameParts) (r : Result Contents FaultCode) → b ≡ sep s k → ltb MAX_FRAME (length (b ∷ rest)) ≡ false → contents_reading k rest ≡ r → reading_of_contents s r ≡ message x → Taken (b ∷ rest) x
taken_body b rest s k x (Err f) hb short hr e = never (cc)
taken_body b rest s k x (Ok y) hb short hr e =
    let h = shaped_is k rest y hr in
    let same : ◌≡◌ {A = FrameParts} (record { service = s; contents = y }) x = cc in
    let head' : sep s (kind_of y) ≡ b = ap (sep s) h.kind ∙ sym hb in
    let whole : wire_bytes (record { service = s; contents = y }) ≡ b ∷ rest = ap (λ z. z ∷ bytes_after_sep y) head' ∙ ap (λ z. b ∷ z) h.bytes in
    subst (Taken (b ∷ rest)) same (record { bytes = whole; light = h.light; short = short })

taken_head : (b : ℕ) (rest : List ℕ) (x : FrameParts) (r : Result (Service × MessageKind) FaultCode) → ltb MAX_FRAME (length (b ∷ rest)) ≡ false → sep_reading b ≡ r → reading_of_sep r rest ≡ message x → Taken (b ∷ rest) x
taken_head b rest x (Err f) short hr e = never (cc)
taken_head b rest x (Ok (s, k)) short hr e = taken_body b rest s k x (contents_reading k rest) (head_is b s k hr) short refl e

taken_at : (b : ℕ) (rest : List ℕ) (x : FrameParts) (t : Bool) → ltb MAX_FRAME (length (b ∷ rest)) ≡ t → cond t (refused 3) (reading_of_sep (sep_reading b) rest) ≡ message x → Taken (b ∷ rest) x
taken_at b rest x true short e = never (cc)
taken_at b rest x false short e = taken_head b rest x (sep_reading b) short refl e

taken : (frame : List ℕ) (x : FrameParts) → reading frame ≡ message x → Taken frame x
taken [] x e = never (cc)
taken (b ∷ rest) x e = taken_at b rest x (ltb MAX_FRAME (length (b ∷ rest))) refl e

-- bytes that are read as a message are the bytes of that message
pub read_is : (frame : List ℕ) (x : FrameParts) → reading frame ≡ message x → wire_bytes x ≡ frame
read_is frame x e = (taken frame x e).bytes

-- what stands after its SEP has at most MAX_PAYLOAD bytes
pub read_short : (frame : List ℕ) (x : FrameParts) → reading frame ≡ message x → length (bytes_after_sep x.contents) ≤ MAX_PAYLOAD
read_short frame x e =
    let t = taken frame x e in
    let long : length (wire_bytes x) ≡ length frame = ap length t.bytes in
    let most : length frame ≤ MAX_FRAME = ltb-false MAX_FRAME (length frame) t.short in
    omega arith

pub writes_again : (frame : List ℕ) (r : Reading) → r ≡ reading frame → WritesAgain frame r
writes_again frame r is x room e h =
    let t = taken frame x (sym is ∙ e) in
    let enough : ltb room MAX_FRAME ≡ false = le-ltb room MAX_FRAME h in
    let short : ltb MAX_FRAME (length (wire_bytes x)) ≡ false = ap (λ z. ltb MAX_FRAME (length z)) t.bytes ∙ t.short in
    rw (enough, short, t.light, t.bytes)

-- From a message to bytes and back.

head_of : (s : Service) (k : MessageKind) → sep_reading (sep s k) ≡ Ok (s, k)
head_of Sse msg.ActReq = refl
head_of Sse msg.ActRes = refl
head_of Sse msg.VfyReq = refl
head_of Sse msg.VfyRes = refl
head_of Sse msg.Enc = refl
head_of Sse msg.Tmn = refl
head_of Sse msg.Error = refl
head_of Sch msg.ActReq = refl
head_of Sch msg.ActRes = refl
head_of Sch msg.VfyReq = refl
head_of Sch msg.VfyRes = refl
head_of Sch msg.Enc = refl
head_of Sch msg.Tmn = refl
head_of Sch msg.Error = refl

shaped_of : (x : Contents) → is_tmn_with_payload x ≡ false → contents_reading (kind_of x) (bytes_after_sep x) ≡ Ok x
shaped_of (act_req pid p) h = refl
shaped_of (act_res p) h = refl
shaped_of (vfy_req p) h = refl
shaped_of (vfy_res p) h = refl
shaped_of (enc p) h = refl
shaped_of (tmn []) h = refl
shaped_of (tmn (y ∷ p)) h = never (grind (arith, nat_tests))
shaped_of (error p) h = refl

reads : (x : FrameParts) → ltb MAX_FRAME (length (wire_bytes x)) ≡ false → is_tmn_with_payload x.contents ≡ false → reading (wire_bytes x) ≡ message x
reads x short light =
    ap (λ b. cond b (refused 3) (reading_of_sep (sep_reading (sep x.service (kind_of x.contents))) (bytes_after_sep x.contents))) short
    ∙ ap (λ r. reading_of_sep r (bytes_after_sep x.contents)) (head_of x.service (kind_of x.contents))
    ∙ ap (reading_of_contents x.service) (shaped_of x.contents light)

pub reads_back : (x : FrameParts) (r : Result ℕ Refusal) (old new : List ℕ) → numbered_result r ≡ length_result (writing_result x (length old)) → new ≡ buffer_after (writing_result x (length old)) old → ReadsBack x r new
reads_back x (Err e) old new h k = tt
reads_back x (Ok n) old new h k =
    let s : ltb MAX_FRAME (length (wire_bytes x)) ≡ false = grind (arith, nat_tests) in
    let light : is_tmn_with_payload x.contents ≡ false = grind (arith, nat_tests) in
    let is : n ≡ length (wire_bytes x) = grind (arith, nat_tests) in
    let all : new ≡ with_front (wire_bytes x) old = grind (arith, nat_tests) in
    ap reading (ap (take n) all ∙ take_at (wire_bytes x) (drop (length (wire_bytes x)) old) n (sym is)) ∙ reads x s light
