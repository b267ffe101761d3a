-- What a frame is: the SEP byte, the PID byte in ACT_REQ alone, and the payload.
use Rattle.std.specs.Prelude.{ℕ, ◌+◌, ◌*◌, List, ◌∷◌}
use Rattle.frame.specs.declared.types.Service.{Service}
use Rattle.frame.specs.declared.types.MessageKind.{MessageKind}
use Rattle.frame.specs.declared.types.MessageKind.TheVariants as msg
use Rattle.frame.specs.declared.types.Body.{Body}
use Rattle.frame.specs.declared.types.Body.TheVariants as body
use Rattle.frame.specs.declared.types.Message.{Message}
use Rattle.frame.specs.Numbers.{service_code, message_code}

-- what a message says
pub data Contents : Type 0 where
  act_req : (pid : ℕ) (payload : List ℕ) → Contents
  act_res : (payload : List ℕ) → Contents
  vfy_req : (payload : List ℕ) → Contents
  vfy_res : (payload : List ℕ) → Contents
  enc : (payload : List ℕ) → Contents
  tmn : (payload : List ℕ) → Contents
  error : (payload : List ℕ) → Contents

-- the parts of a frame
pub record FrameParts : Type 0 where
  pub service : Service
  pub contents : Contents

-- the kind of message, which MSG names
abbrev pub kind_of : Contents → MessageKind
kind_of (act_req pid p) = msg.ActReq
kind_of (act_res p) = msg.ActRes
kind_of (vfy_req p) = msg.VfyReq
kind_of (vfy_res p) = msg.VfyRes
kind_of (enc p) = msg.Enc
kind_of (tmn p) = msg.Tmn
kind_of (error p) = msg.Error

-- the payload, without the PID
abbrev pub payload_of : Contents → List ℕ
payload_of (act_req pid p) = p
payload_of (act_res p) = p
payload_of (vfy_req p) = p
payload_of (vfy_res p) = p
payload_of (enc p) = p
payload_of (tmn p) = p
payload_of (error p) = p

-- what stands after SEP
abbrev pub bytes_after_sep : Contents → List ℕ
bytes_after_sep (act_req pid p) = pid ∷ p
bytes_after_sep (act_res p) = p
bytes_after_sep (vfy_req p) = p
bytes_after_sep (vfy_res p) = p
bytes_after_sep (enc p) = p
bytes_after_sep (tmn p) = p
bytes_after_sep (error p) = p

-- SEP: bits 8 and 7 RFU and ZERO, bits 6 and 5 the service, bits 4 to 1 the message
abbrev pub sep : Service → MessageKind → ℕ
sep s k = service_code s * 16 + message_code k

-- the frame's bytes: SEP, then the rest
abbrev pub wire_bytes : FrameParts → List ℕ
wire_bytes x = sep x.service (kind_of x.contents) ∷ bytes_after_sep x.contents

-- the code's message, which borrows its payload
abbrev pub contents_of : Body → Contents
contents_of (body.ActReq pid p) = act_req pid p.now
contents_of (body.ActRes p) = act_res p.now
contents_of (body.VfyReq p) = vfy_req p.now
contents_of (body.VfyRes p) = vfy_res p.now
contents_of (body.Enc p) = enc p.now
contents_of (body.Tmn p) = tmn p.now
contents_of (body.Error p) = error p.now

-- the parts of the code's message
abbrev pub parts_of : Message → FrameParts
parts_of m = record { service = m.service; contents = contents_of m.body }
