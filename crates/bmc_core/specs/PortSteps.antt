-- What a port does with what comes to it: its log, the board and what it sends.
use Rattle.std.specs.Prelude.{ℕ, Bool, false, List, [], ◌∷◌, ◌++◌, map, Option, Some, None, if◌then◌else◌, ◌==◌}
use Rattle.two_wire.specs.Circles.{sequence_numbers, instances}
use Rattle.two_wire.specs.declared.Bus.TheVariants.{Ipmb, Smbus}
use Rattle.ipmb_frame.specs.declared.message.Request.{Request}
use Rattle.mctp_net.specs.declared.packet.Envelope.{Envelope}
use Rattle.mctp_net.specs.declared.packet.Packet.{Packet}
use Rattle.mctp_net.specs.declared.message.Message.{Message}
use Rattle.mctp_net.specs.declared.taken.DropCause.{DropCause}
use Rattle.mctp_net.specs.Assembly.{Assemblies, nothing, drop_cause, after as kept_after, message_of}
use Rattle.mctp_net.specs.Control.{Request as ControlRequest, request_of as control_request_of, reply_to as control_reply_to, eid_after}
use Rattle.pldm_base.specs.declared.message.PldmRequest.{PldmRequest}
use Rattle.pldm_base.specs.Message.{request_in as pldm_request_in}
use Rattle.record_base.specs.declared.message.Asked.{Asked}
use Rattle.record_base.specs.declared.message.Asked.TheVariants.{Ipmi, Pldm}
use Rattle.record_base.specs.declared.message.Answered.{Answered}
use Rattle.cfg_records.specs.declared.board_file.BoardFile.{BoardFile}
use Rattle.model_bus.specs.Request.{Request as Heard, Kept, Entry, Idled}
use Rattle.two_wire.specs.declared.Bus.{Bus}
use Rattle.model_bus.specs.Bytes.{control_message_type, pldm_message_type}
use Rattle.model_bus.specs.Numbering.{is_above}
use Rattle.model_bus.specs.Carried.{Outcome, Repeats, IsBusy, IsNew, outcome, log_after, reply_after}
use Rattle.bmc_board.specs.State.{State}
use Rattle.bmc_board.specs.Answer.{answer_of}
use Rattle.bmc_core.specs.Values.{Value, Asks, Tells, Part, parts_of}
use Rattle.bmc_core.specs.Wires.{family_answer, reply_to}
use Rattle.bmc_core.specs.Bytes.{heard_in, pldm_heard_in, said, response_of}

-- a port: its two-wire address, its endpoint's identifier, the packets that wait at it, and what it did, newest first
pub record PortState : Type 0 where
  pub wire : ℕ
  pub eid : ℕ
  pub kept : Assemblies
  pub log : List Entry

-- a port that has heard nothing yet
abbrev pub quiet_port : (wire eid : ℕ) → PortState
quiet_port wire eid = record { wire = wire; eid = eid; kept = nothing; log = [] }

-- ---- one request

-- a turn: what a port did with a request, the log and the board after it, and the reply, none where the port is busy
pub record Turn : Type 0 where
  pub outcome : Outcome
  pub log : List Entry
  pub left : State
  pub replied : Option (List ℕ)

-- the reply to a request, as bytes
abbrev pub spelled : Bus → Heard → Answered → List ℕ
spelled on heard answered = reply_to on heard.bytes (family_answer answered)

-- the board after a request: the request changes it only where it is new
abbrev pub left_by : Outcome → State → State → State
left_by IsNew after before = after
left_by IsBusy after before = before
left_by (Repeats reply) after before = before

-- the turn of a request that asks this of a board: the board carries it out, or it repeats an earlier one, or it finds the port busy
unfoldable pub turn : (ℕ → ℕ → Bool) → Heard → (Answered → List ℕ) → BoardFile → Asked → List Entry → State → Turn
turn above heard spell setup asked log before =
    let done = outcome above heard log in
    let given = answer_of setup before asked in
    let kept : Kept = record { request = heard; reply = spell given.0 } in
    record { outcome = done; log = log_after done kept log; left = left_by done given.1 before; replied = reply_after done kept }

-- a port and the board after something came, and what the port sends
pub record StepResult : Type 0 where
  pub port : PortState
  pub board : State
  pub sent : List Value

-- nothing changes, and the port sends nothing
abbrev pub stays : PortState → State → StepResult
stays port before = record { port = port; board = before; sent = [] }

-- ---- IPMB

-- what a request asks of the board
abbrev pub asked_in : Request → Asked
asked_in request = Ipmi request.header.requester.address request.header.net_fn request.header.responder.lun request.header.command request.body

-- the turn of a request on IPMB
abbrev pub request_turn : BoardFile → PortState → State → Request → Turn
request_turn setup port before request = turn (is_above sequence_numbers) (heard_in request) (spelled Ipmb (heard_in request)) setup (asked_in request) port.log before

-- the response that a port sends: that of its reply's bytes, or that it is busy
abbrev pub response_after : Request → Option (List ℕ) → Value
response_after request replied = Tells (response_of request (said Ipmb (heard_in request) replied))

-- a request on IPMB comes
unfoldable pub hears_request : BoardFile → PortState → State → Request → StepResult
hears_request setup port before request =
    let done = request_turn setup port before request in
    record { port = record port { log = done.log }; board = done.left; sent = response_after request done.replied ∷ [] }

-- ---- SMBus: messages

-- The reply to a message goes to where the message's last packet came from. Its envelope has the identifiers exchanged, and the message's tag, which
-- the controller doesn't own.
abbrev pub reply_envelope : PortState → Envelope → Envelope
reply_envelope port envelope = record {
  destination = envelope.source;
  source = port.wire;
  destination_eid = envelope.source_eid;
  source_eid = port.eid;
  tag_owner = false;
  tag = envelope.tag;
}

-- the packets of the reply to a message
abbrev pub replies : PortState → Message → List ℕ → List Value
replies port message body = map Part (parts_of (record { envelope = reply_envelope port message.envelope; body = body }))

-- a port hears a control message: it sends the endpoint's reply, from the identifier that the endpoint has then
abbrev pub hears_control : PortState → State → Message → Option ControlRequest → StepResult
hears_control port before message None = stays port before
hears_control port before message (Some request) =
    let next = record port { eid = eid_after port.eid request.command request.content } in
    record { port = next; board = before; sent = replies next message (control_reply_to port.eid request) }

-- what a PLDM request asks of the board, from this endpoint
abbrev pub pldm_asked : ℕ → PldmRequest → Asked
pldm_asked from request = Pldm from request.header.pldm_type request.header.command request.body

-- the turn of a PLDM request
abbrev pub pldm_turn : BoardFile → PortState → State → ℕ → PldmRequest → Turn
pldm_turn setup port before from request =
    turn (is_above instances) (pldm_heard_in from request) (spelled Smbus (pldm_heard_in from request)) setup (pldm_asked from request) port.log before

-- a port hears a PLDM message
abbrev pub hears_pldm : BoardFile → PortState → State → Message → Option PldmRequest → StepResult
hears_pldm setup port before message None = stays port before
hears_pldm setup port before message (Some request) =
    let from = message.envelope.source_eid in
    let done = pldm_turn setup port before from request in
    record { port = record port { log = done.log }; board = done.left; sent = replies port message (said Smbus (pldm_heard_in from request) done.replied) }

-- a port hears a message whose sender owns its tag, by the message's type: control, or PLDM
abbrev pub hears_typed : BoardFile → PortState → State → Message → List ℕ → StepResult
hears_typed setup port before message [] = stays port before
hears_typed setup port before message (kind ∷ rest) =
    if kind == control_message_type then hears_control port before message (control_request_of message.body)
    else if kind == pldm_message_type then hears_pldm setup port before message (pldm_request_in rest)
    else stays port before

-- a port hears a whole message; a reply is nothing to it
unfoldable pub hears_message : BoardFile → PortState → State → Message → StepResult
hears_message setup port before message = if message.envelope.tag_owner then hears_typed setup port before message message.body else stays port before

-- ---- SMBus: packets

-- a port has taken a packet: it dropped the packet for the cause, or the packet ended a message, or others are to come
abbrev pub ends_message : BoardFile → PortState → State → Packet → Option DropCause → StepResult
ends_message setup port before packet (Some cause) = stays port before
ends_message setup port before packet None = if packet.end then hears_message setup port before (message_of port.kept packet) else stays port before

-- a packet comes: the port drops or keeps it first
unfoldable pub hears_part : BoardFile → PortState → State → Packet → StepResult
hears_part setup port before packet = ends_message setup (record port { kept = kept_after port.eid port.kept packet }) before packet (drop_cause port.eid port.kept packet)

-- packets come, one after another
unfoldable pub hears_parts : BoardFile → PortState → State → List Packet → StepResult
hears_parts setup port before [] = stays port before
hears_parts setup port before (packet ∷ packets) =
    let first = hears_part setup port before packet in
    let rest = hears_parts setup first.port first.board packets in
    record { port = rest.port; board = rest.board; sent = first.sent ++ rest.sent }

-- all packets of a message come, one after another, if they go to the port's address
abbrev pub hears_all : BoardFile → PortState → State → Message → StepResult
hears_all setup port before message = if message.envelope.destination == port.wire then hears_parts setup port before (parts_of message) else stays port before

-- ---- any frame

-- the port hears the frames to its address, and a response is nothing to it
abbrev pub hears : BoardFile → PortState → State → Value → StepResult
hears setup port before (Asks request) = if request.header.responder.address == port.wire then hears_request setup port before request else stays port before
hears setup port before (Tells response) = stays port before
hears setup port before (Part packet) = if packet.envelope.destination == port.wire then hears_part setup port before packet else stays port before

-- the port forgets a requester's window
abbrev pub idles : ℕ → PortState → PortState
idles requester port = record port { log = Idled requester ∷ port.log }
