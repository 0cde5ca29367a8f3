-- Requests and replies as the bytes of each bus: all but addresses and check bytes, the number included.
use Rattle.std.specs.Prelude.{◌≡◌, ◌↔◌, ℕ, ◌+◌, ◌*◌, ◌/◌, ◌%◌, ◌<◌, Bool, false, ◌==◌, ◌&&◌, ◌||◌, not, List, ◌∷◌, Option, Some, None, if◌then◌else◌}
use Rattle.two_wire.specs.Circles.{instances}
use Rattle.two_wire.specs.Codes.{node_busy, pldm_not_ready}
use Rattle.two_wire.specs.declared.Bus.{Bus}
use Rattle.two_wire.specs.declared.Bus.TheVariants.{Ipmb, Smbus}
use Rattle.model_bus.specs.Request.{Request}

-- ---- the codes of a busy port

-- A manager takes a reply with either code as none, whichever bus it comes on: IPMI's "node busy", or PLDM's "not ready".
abbrev pub is_busy_code : ℕ → Bool
is_busy_code code = (code == node_busy) || (code == pldm_not_ready)

-- ---- IPMB

-- what a request and its reply share, beside addresses and number: the request's netFn, both ends' LUNs, the command
pub record IpmbHeader : Type 0 where
  pub net_fn : ℕ
  pub responder_lun : ℕ
  pub requester_lun : ℕ
  pub command : ℕ

-- LUNs are below 4
pub record IsIpmbHeader (header : IpmbHeader) : Type 0 where
  pub responder : header.responder_lun < 4
  pub requester : header.requester_lun < 4

-- a request: netFn and rsLUN, rqSeq and rqLUN, command, data
abbrev pub ipmb_request : IpmbHeader → ℕ → List ℕ → List ℕ
ipmb_request header number body = (4 * header.net_fn + header.responder_lun) ∷ (4 * number + header.requester_lun) ∷ header.command ∷ body

-- a reply: the next netFn and rqLUN, the same rqSeq and rsLUN, command, completion code, data
abbrev pub ipmb_reply : IpmbHeader → ℕ → ℕ → List ℕ → List ℕ
ipmb_reply header number code body = (4 * (header.net_fn + 1) + header.requester_lun) ∷ (4 * number + header.responder_lun) ∷ header.command ∷ code ∷ body

-- the bytes are a request's with this rqSeq
pub record IsIpmbRequest (number : ℕ) (bytes : List ℕ) : Type 0 where
  pub header : IpmbHeader
  pub is_header : IsIpmbHeader header
  pub body : List ℕ
  pub spelled : bytes ≡ ipmb_request header number body

-- the bytes are a reply's, with this code, to the request of these bytes
pub record IsIpmbReply (code : ℕ) (request reply : List ℕ) : Type 0 where
  pub header : IpmbHeader
  pub is_header : IsIpmbHeader header
  pub number : ℕ
  pub request_body : List ℕ
  pub body : List ℕ
  pub request_spelled : request ≡ ipmb_request header number request_body
  pub reply_spelled : reply ≡ ipmb_reply header number code body

-- The manager's test on the open request's bytes and a reply's: the next netFn, the same rqSeq, the same command, and a code
-- that isn't one of a busy port. It doesn't look at LUNs.
abbrev pub ipmb_answers : List ℕ → List ℕ → Bool
ipmb_answers (opened_fn ∷ opened_number ∷ opened_command ∷ opened) (net_fn ∷ number ∷ command ∷ code ∷ body) =
    ((net_fn / 4 == opened_fn / 4 + 1) && (number / 4 == opened_number / 4)) && ((command == opened_command) && not (is_busy_code code))
ipmb_answers _ _ = false

-- ---- PLDM, from the message's type byte, 01h

-- the message type of MCTP control messages (DSP0239)
abbrev pub control_message_type : ℕ
control_message_type = 0

-- the message type of PLDM (DSP0239)
abbrev pub pldm_message_type : ℕ
pldm_message_type = 1

-- what a request and its reply share beside the instance: PLDM type and command
pub record PldmHeader : Type 0 where
  pub pldm_type : ℕ
  pub command : ℕ

-- a request: 01h, the request bit and the instance, type (with version 00b), command, data; the ignored bit is 0
abbrev pub pldm_request : PldmHeader → ℕ → List ℕ → List ℕ
pldm_request header number body = pldm_message_type ∷ (128 + number) ∷ header.pldm_type ∷ header.command ∷ body

-- a reply: 01h, the instance, type, command, completion code, data
abbrev pub pldm_reply : PldmHeader → ℕ → ℕ → List ℕ → List ℕ
pldm_reply header number code body = pldm_message_type ∷ number ∷ header.pldm_type ∷ header.command ∷ code ∷ body

-- the bytes are a request's with this instance
pub record IsPldmRequest (number : ℕ) (bytes : List ℕ) : Type 0 where
  pub header : PldmHeader
  pub instance : number < instances
  pub body : List ℕ
  pub spelled : bytes ≡ pldm_request header number body

-- the bytes are a reply's, with this code, to the request of these bytes
pub record IsPldmReply (code : ℕ) (request reply : List ℕ) : Type 0 where
  pub header : PldmHeader
  pub number : ℕ
  pub instance : number < instances
  pub request_body : List ℕ
  pub body : List ℕ
  pub request_spelled : request ≡ pldm_request header number request_body
  pub reply_spelled : reply ≡ pldm_reply header number code body

-- the manager's test: type 01h, request and datagram bit clear, and the same instance, PLDM type and command, and a code that
-- isn't one of a busy port
abbrev pub pldm_answers : List ℕ → List ℕ → Bool
pldm_answers (opened_kind ∷ opened_flags ∷ opened_type ∷ opened_command ∷ opened) (kind ∷ flags ∷ pldm_type ∷ command ∷ code ∷ body) =
    (((kind == pldm_message_type) && (flags / 64 == 0)) && (flags % instances == opened_flags % instances)) && (((pldm_type == opened_type) && (command == opened_command)) && not (is_busy_code code))
pldm_answers _ _ = false

-- The request that a whole message to the port is: with its instance, and the ignored bit 0. None where the message is of another
-- type, as control messages are, or is no request: under 3 bytes behind the type, a version other than 00b, or request and
-- datagram bit other than 10b.
abbrev pub request_in : ℕ → List ℕ → Option Request
request_in source (kind ∷ flags ∷ pldm_type ∷ command ∷ body) =
    if (kind == pldm_message_type) && ((pldm_type / 64 == 0) && (flags / 64 == 2))
    then Some (record { requester = source; number = flags % instances; bytes = pldm_request (record { pldm_type = pldm_type; command = command }) (flags % instances) body })
    else None
request_in source _ = None

-- bytes of a message that is the request, with this ignored bit, from this source
pub record SpellsRequest (source : ℕ) (request : Request) (bytes : List ℕ) : Type 0 where
  pub header : PldmHeader
  pub number : ℕ
  pub ignored : ℕ
  pub body : List ℕ
  pub instance : number < instances
  pub bit : ignored < 2
  pub of_type : header.pldm_type < 64
  pub spelled : bytes ≡ pldm_message_type ∷ (128 + 32 * ignored + number) ∷ header.pldm_type ∷ header.command ∷ body
  pub read : request ≡ record { requester = source; number = number; bytes = pldm_request header number body }

-- a request is read in exactly the messages that spell it
abbrev pub ReadsRequests : Type 0
ReadsRequests = (source : ℕ) (request : Request) (bytes : List ℕ) → (request_in source bytes ≡ Some request) ↔ SpellsRequest source request bytes

-- ---- either

-- the completion code with which a port of the bus says that it is busy
abbrev pub busy_code : Bus → ℕ
busy_code Ipmb = node_busy
busy_code Smbus = pldm_not_ready

-- the bytes are a request's under this number
abbrev pub IsRequestOn : Bus → ℕ → List ℕ → Type 0
IsRequestOn Ipmb number bytes = IsIpmbRequest number bytes
IsRequestOn Smbus number bytes = IsPldmRequest number bytes

-- the bytes are a reply's with this code, to the request of these bytes
abbrev pub IsReplyOn : Bus → ℕ → List ℕ → List ℕ → Type 0
IsReplyOn Ipmb code request reply = IsIpmbReply code request reply
IsReplyOn Smbus code request reply = IsPldmReply code request reply

-- what the manager asks of a reply beside its addresses, and its tag on SMBus
abbrev pub answers : Bus → List ℕ → List ℕ → Bool
answers Ipmb opened reply = ipmb_answers opened reply
answers Smbus opened reply = pldm_answers opened reply
