-- Requests and replies as bytes: all of a message but addresses and check bytes, the number included. On SMBus a message from its type
-- byte on, with PLDM's ignored bit 0. `Wires` has those of the manager's requests and of replies.
use Rattle.std.specs.Prelude.{◌≡◌, ℕ, ◌+◌, ◌<◌, true, false, List, [], ◌∷◌, Option, Some, None}
use Rattle.two_wire.specs.declared.Bus.{Bus}
use Rattle.two_wire.specs.declared.Bus.TheVariants.{Ipmb}
use Rattle.record_base.specs.declared.message.Asked.{Asked}
use Rattle.record_base.specs.declared.message.Asked.TheVariants.{Ipmi, Pldm}
use Rattle.ipmb_frame.specs.declared.message.Request.{Request}
use Rattle.ipmb_frame.specs.declared.message.Response.{Response}
use Rattle.ipmb_frame.specs.Grammar.{packed, request_bytes}
use Rattle.pldm_base.specs.declared.message.PldmRequest.{PldmRequest}
use Rattle.pldm_base.specs.Message.{request_bytes as pldm_request_bytes}
use Rattle.model_bus.specs.Circle.{circle_of}
use Rattle.model_bus.specs.Request.{Request as Heard}
use Rattle.model_bus.specs.Bytes.{pldm_message_type, busy_code, is_busy_code, answers, IsRequestOn, IsReplyOn}
use Rattle.bmc_board.specs.Decode.{sent_by}
use Rattle.model_bus.specs.Answered.{Answered}
use Rattle.bmc_core.specs.Wires.{bus_of, bytes_of, asked_from, reply_to, answered_from}

-- ---- requests

-- the request that bytes from this requester are on a bus
abbrev pub asked_by_bytes : ℕ → Bus → List ℕ → Asked
asked_by_bytes from on bytes = sent_by from (asked_from (λ other. record { manager = from; controller = from }) on bytes)

-- a logical unit is below 4
abbrev pub UnitFits : Asked → Type 0
UnitFits (Ipmi from net_fn lun command body) = lun < 4
UnitFits (Pldm from kind command body) = Unit {0}

-- the number is one of the bus's numbers
abbrev pub IsNumber : Bus → ℕ → Type 0
IsNumber on number = number < circle_of on

-- a request that a port hears on IPMB
abbrev pub heard_in : Request → Heard
heard_in request = record { requester = request.header.requester.address; number = request.header.sequence; bytes = request_bytes request }

-- a request that a port hears on SMBus, from this endpoint
abbrev pub pldm_heard_in : ℕ → PldmRequest → Heard
pldm_heard_in from request = record { requester = from; number = request.header.instance; bytes = pldm_message_type ∷ pldm_request_bytes request }

-- ---- replies

-- the answer of a port that is busy
abbrev pub busy_on : Bus → Answered
busy_on on = record { code = busy_code on; body = [] }

-- what a port replies to a request: the reply, or that it is busy, where there is none
abbrev pub said : Bus → Heard → Option (List ℕ) → List ℕ
said on heard (Some reply) = reply
said on heard None = reply_to on heard.bytes (busy_on on)

-- the bytes of a response
abbrev pub response_bytes : Response → List ℕ
response_bytes response =
    packed (response.header.net_fn + 1) response.header.requester.lun ∷ packed response.header.sequence response.header.responder.lun ∷ response.header.command ∷ response.code ∷ response.body

-- the response to a request that gives the answer
abbrev pub response_to : Request → Answered → Response
response_to request answered = record { header = request.header; code = answered.code; body = answered.body }

-- the response of these bytes, which are the reply to the request
abbrev pub response_of : Request → List ℕ → Response
response_of request bytes = response_to request (answered_from Ipmb bytes)

-- ---- what holds of these bytes

-- a reader gives the request of a request's bytes, whoever sent it, and the answer of a reply's bytes
pub record AreReadBack : Type 0 where
  pub request : (from number : ℕ) (asked : Asked) → UnitFits asked → asked_by_bytes from (bus_of asked) (bytes_of number asked) ≡ sent_by from asked
  pub reply : (on : Bus) (bytes : List ℕ) (answered : Answered) → answered_from on (reply_to on bytes answered) ≡ answered

-- the bytes are a request's and a reply's of the model
pub record AreTheModels : Type 0 where
  pub request : (number : ℕ) (asked : Asked) → UnitFits asked → IsNumber (bus_of asked) number → IsRequestOn (bus_of asked) number (bytes_of number asked)
  pub reply : (on : Bus) (number : ℕ) (bytes : List ℕ) (answered : Answered) → IsRequestOn on number bytes → IsReplyOn on answered.code bytes (reply_to on bytes answered)

-- the reply to a request passes the manager's test against it, unless its code is one of a busy port
abbrev pub AcceptsFrames : Type 0
AcceptsFrames = (on : Bus) (number : ℕ) (bytes : List ℕ) (answered : Answered) → IsRequestOn on number bytes → is_busy_code answered.code ≡ false
    → answers on bytes (reply_to on bytes answered) ≡ true

-- a reply that passes the manager's test has the open request's number
abbrev pub IsNumbered : Type 0
IsNumbered = (on : Bus) (open_number number : ℕ) (opened bytes : List ℕ) (answered : Answered) → IsRequestOn on open_number opened → IsRequestOn on number bytes
    → answers on opened (reply_to on bytes answered) ≡ true → number ≡ open_number
