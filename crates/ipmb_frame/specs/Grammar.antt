-- Frames of the Intelligent Platform Management Bus (its communications protocol 1.0, message formats).
use Rattle.std.specs.Prelude.{◌≡◌, ℕ, ◌+◌, ◌*◌, ◌%◌, ◌<◌, ◌≤◌, List, [], ◌∷◌, ◌++◌, length}
use Rattle.two_wire.specs.Check.{check_byte}
use Rattle.two_wire.specs.Circles.{sequence_numbers}
use Rattle.two_wire.specs.Sizes.{most_ipmi_request_data, most_ipmi_reply_data}
use Rattle.ipmb_frame.specs.declared.message.Party.{Party}
use Rattle.ipmb_frame.specs.declared.message.Header.{Header}
use Rattle.ipmb_frame.specs.declared.message.Request.{Request}
use Rattle.ipmb_frame.specs.declared.message.Response.{Response}
use Rattle.ipmb_frame.specs.declared.message.Msg.{Msg}
use Rattle.ipmb_frame.specs.declared.message.Msg.TheVariants as msg

-- the byte with one number in its bits 7:2 and another in its bits 1:0
abbrev pub packed : ℕ → ℕ → ℕ
packed high low = 4 * high + low

-- bytes, and behind them their checksum, which makes the sum 0 modulo 256
abbrev pub checked : List ℕ → List ℕ
checked bytes = bytes ++ check_byte bytes ∷ []

-- a frame is its connection header and what follows it, each with its checksum
abbrev pub frame : List ℕ → List ℕ → List ℕ
frame head tail = checked head ++ checked tail

-- a request's connection header: rsSA, netFn and rsLUN
abbrev pub request_head : Request → List ℕ
request_head r = r.header.responder.address ∷ packed r.header.net_fn r.header.responder.lun ∷ []

-- what follows it: rqSA, rqSeq and rqLUN, cmd, the data
abbrev pub request_tail : Request → List ℕ
request_tail r = r.header.requester.address ∷ packed r.header.sequence r.header.requester.lun ∷ r.header.command ∷ r.body

-- a request's bytes without addresses and checksums
abbrev pub request_bytes : Request → List ℕ
request_bytes r =
    packed r.header.net_fn r.header.responder.lun ∷ packed r.header.sequence r.header.requester.lun ∷ r.header.command ∷ r.body

-- the connection header of a response to this header: rqSA, the next netFn and rqLUN
abbrev pub response_connection : Header → List ℕ
response_connection h = h.requester.address ∷ packed (h.net_fn + 1) h.requester.lun ∷ []

-- what follows it before the data: rsSA, rqSeq and rsLUN, cmd, the completion code
abbrev pub response_lead : Header → ℕ → List ℕ
response_lead h code = h.responder.address ∷ packed h.sequence h.responder.lun ∷ h.command ∷ code ∷ []

-- all of a response that stands before its data
abbrev pub response_start : Header → ℕ → List ℕ
response_start h code = checked (response_connection h) ++ response_lead h code

-- a response's connection header
abbrev pub response_head : Response → List ℕ
response_head r = response_connection r.header

-- what follows it: up to the completion code, and the data
abbrev pub response_tail : Response → List ℕ
response_tail r = response_lead r.header r.code ++ r.body

-- an address is an even byte, a logical unit's number is below 4
pub record IsParty (p : Party) : Type 0 where
  pub address : p.address < 256
  pub even : p.address % 2 ≡ 0
  pub lun : p.lun < 4

-- a header's netFn is even and below 64, its sequence number one of IPMB's
pub record IsHeader (h : Header) : Type 0 where
  pub responder : IsParty h.responder
  pub requester : IsParty h.requester
  pub net_fn : h.net_fn < 64
  pub even : h.net_fn % 2 ≡ 0
  pub sequence : h.sequence < sequence_numbers

-- the bytes are the request
pub record IsRequest (r : Request) (bytes : List ℕ) : Type 0 where
  pub header : IsHeader r.header
  pub fits : length r.body ≤ most_ipmi_request_data
  pub spelled : bytes ≡ frame (request_head r) (request_tail r)

-- the bytes are the response
pub record IsResponse (r : Response) (bytes : List ℕ) : Type 0 where
  pub header : IsHeader r.header
  pub fits : length r.body ≤ most_ipmi_reply_data
  pub spelled : bytes ≡ frame (response_head r) (response_tail r)

-- the bytes are the message
abbrev pub IsMessage : Msg → List ℕ → Type 0
IsMessage (msg.Request r) bytes = IsRequest r bytes
IsMessage (msg.Response r) bytes = IsResponse r bytes
