-- What a port on the System Management Bus hears, and what comes of it, apart from the board (DSP0236, DSP0237, DSP0240).
use Rattle.std.specs.Prelude.{ℕ, ◌==◌, if◌then◌else◌, List, [], ◌∷◌, find, map, Option, Some, None}
use Rattle.two_wire.specs.Circles.{instances}
use Rattle.two_wire.specs.declared.Bus.TheVariants.{Smbus}
use Rattle.mctp_net.specs.declared.packet.Envelope.{Envelope}
use Rattle.mctp_net.specs.declared.packet.Packet.{Packet}
use Rattle.mctp_net.specs.declared.message.Message.{Message}
use Rattle.mctp_net.specs.declared.taken.DropCause.{DropCause}
use Rattle.mctp_net.specs.Assembly.{drop_cause, after as kept_after, message_of}
use Rattle.mctp_net.specs.Control.{Request as ControlRequest, request_of as control_request_of, reply_to as control_reply_to, eid_after}
use Rattle.pldm_base.specs.declared.fault.PldmFault.{PldmFault}
use Rattle.pldm_base.specs.declared.message.PldmRequest.{PldmRequest}
use Rattle.pldm_base.specs.Message.{request_in as pldm_request_in, has_fault as has_pldm_fault, faults as pldm_faults}
use Rattle.record_base.specs.declared.message.Asked.{Asked}
use Rattle.record_base.specs.declared.message.Answered.{Answered}
use Rattle.model_bus.specs.Bytes.{control_message_type, pldm_message_type}
use Rattle.model_bus.specs.Request.{Request as Asking, Kept, Entry}
use Rattle.model_bus.specs.Numbering.{is_above}
use Rattle.model_bus.specs.Carried.{Outcome, Repeats, IsBusy, IsNew, outcome, log_after, reply_after}
use Rattle.bmc_core.specs.Bytes.{pldm_heard_in, said}
use Rattle.bmc_core.specs.Values.{Value, Part, parts_of}
use Rattle.bmc_core.specs.PortSteps.{PortState, reply_envelope, spelled, pldm_asked}
use Rattle.bmc_core.specs.declared.out.Disposition.{Disposition}
use Rattle.bmc_core.specs.declared.out.Disposition.TheVariants as done
use Rattle.bmc_core.specs.declared.out.Reason.{Reason}
use Rattle.bmc_core.specs.declared.out.Reason.TheVariants as reason
use Rattle.bmc_core.specs.Outs.{done_by}

-- ---- what is heard

-- a request of PLDM, in a message of this envelope
pub record InMessage : Type 0 where
  pub envelope : Envelope
  pub request : PldmRequest

-- a request's bytes behind the first
abbrev pub behind_first : PldmRequest → List ℕ
behind_first request = request.header.pldm_type ∷ request.header.command ∷ request.body

-- what a port hears: nothing, for a reason; a packet whose message isn't whole yet; a control request; or a request of PLDM
pub data HeardMessage : Type 0 where
  Ignored : Reason → HeardMessage
  Waiting : HeardMessage
  Control : Envelope → ControlRequest → HeardMessage
  Asks : InMessage → HeardMessage

-- what a port hears in a control message, by the request that it is read as, if any
abbrev pub control_heard : Envelope → Option ControlRequest → HeardMessage
control_heard envelope (Some request) = Control envelope request
control_heard envelope None = Ignored reason.NotRequest

-- What a port hears in a PLDM message: the request that it is read as, or its first fault. Each message of at most 256 bytes has one of the two.
abbrev pub pldm_heard : Envelope → Option PldmRequest → Option PldmFault → HeardMessage
pldm_heard envelope (Some request) fault = Asks (record { envelope = envelope; request = request })
pldm_heard envelope None (Some fault) = Ignored (reason.Pldm fault)
pldm_heard envelope None None = Ignored reason.NotRequest

-- what a port hears in the body of a control message
abbrev pub control_in : Envelope → List ℕ → HeardMessage
control_in envelope body = control_heard envelope (control_request_of body)

-- and in the bytes of a PLDM message, behind their type
abbrev pub pldm_in : Envelope → List ℕ → HeardMessage
pldm_in envelope bytes = pldm_heard envelope (pldm_request_in bytes) (find (has_pldm_fault bytes) pldm_faults)

-- what a port hears in a message whose sender owns its tag, by the message's type: control, or PLDM
abbrev pub typed_heard : Message → List ℕ → HeardMessage
typed_heard message [] = Ignored reason.MessageType
typed_heard message (kind ∷ rest) =
    if kind == control_message_type then control_in message.envelope message.body
    else if kind == pldm_message_type then pldm_in message.envelope rest
    else Ignored reason.MessageType

-- what a port hears in a whole message
abbrev pub message_heard : Message → HeardMessage
message_heard message = if message.envelope.tag_owner then typed_heard message message.body else Ignored reason.NotRequest

-- and in a message of this envelope and body
abbrev pub message_in : Envelope → List ℕ → HeardMessage
message_in envelope body = message_heard (record { envelope = envelope; body = body })

-- what a port that has taken a packet hears in it, by the cause for which it dropped the packet, if any
abbrev pub part_heard : PortState → Packet → Option DropCause → HeardMessage
part_heard port packet (Some cause) = Ignored (reason.Dropped cause)
part_heard port packet None = if packet.end then message_heard (message_of port.kept packet) else Waiting

-- the port, once a packet to its address was dropped or kept
abbrev pub with_part : PortState → Packet → PortState
with_part port packet = record port { kept = kept_after port.eid port.kept packet }

-- the port, once it has taken a packet
abbrev pub taken : PortState → Packet → PortState
taken port packet = record port { kept = if packet.envelope.destination == port.wire then kept_after port.eid port.kept packet else port.kept }

-- what a port hears in the packet
abbrev pub heard_in : PortState → Packet → HeardMessage
heard_in port packet = if packet.envelope.destination == port.wire then part_heard (with_part port packet) packet (drop_cause port.eid port.kept packet) else Ignored reason.NotOurs

-- ---- what comes of it

-- the request as windows have it
abbrev pub asking : InMessage → Asking
asking message = pldm_heard_in message.envelope.source_eid message.request

-- the request as the board has it
abbrev pub asked_of : InMessage → Asked
asked_of asking = pldm_asked asking.envelope.source_eid asking.request

-- what the rule does with the request after this log: it looks for a repeat first
abbrev pub found_in : List Entry → InMessage → Outcome
found_in log message = outcome (is_above instances) (asking message) log

-- what the port does with the request
abbrev pub found : PortState → InMessage → Outcome
found port asking = found_in port.log asking

abbrev pub asks_of : InMessage → Outcome → Option InMessage
asks_of asking IsNew = Some asking
asks_of asking IsBusy = None
asks_of asking (Repeats reply) = None

-- what the board is asked: the request, if it is new
abbrev pub asks : PortState → HeardMessage → Option InMessage
asks port (Asks request) = asks_of request (found port request)
asks port (Ignored why) = None
asks port Waiting = None
asks port (Control envelope request) = None

-- what the port does with what it heard
abbrev pub done_of : PortState → HeardMessage → Disposition
done_of port (Ignored why) = done.Ignored why
done_of port Waiting = done.Waiting
done_of port (Control envelope request) = done.Control
done_of port (Asks request) = done_by (found port request)

-- the packets of a reply to a message of this envelope
abbrev pub reply_parts : PortState → Envelope → List ℕ → List Value
reply_parts port envelope body = map Part (parts_of (record { envelope = reply_envelope port envelope; body = body }))

-- an effect: the port that it leaves, and the packets that the port sends
pub record Effect : Type 0 where
  pub port : PortState
  pub sent : List Value

-- the reply of a port that is busy
abbrev pub busy_reply : InMessage → List ℕ
busy_reply message = said Smbus (asking message) None

-- the request with the reply of this answer
abbrev pub kept_with : InMessage → Answered → Kept
kept_with message answered = record { request = asking message; reply = spelled Smbus (asking message) answered }

abbrev pub asks_effect : PortState → InMessage → Outcome → Kept → Effect
asks_effect port message outcome kept = record { port = record port { log = log_after outcome kept port.log }; sent = reply_parts port message.envelope (said Smbus (asking message) (reply_after outcome kept)) }

-- the effect of what the port heard, where the board would give this answer
abbrev pub effect : PortState → HeardMessage → Answered → Effect
effect port (Ignored why) answered = record { port = port; sent = [] }
effect port Waiting answered = record { port = port; sent = [] }
effect port (Control envelope request) answered =
    let next = record port { eid = eid_after port.eid request.command request.content } in
    record { port = next; sent = reply_parts next envelope (control_reply_to port.eid request) }
effect port (Asks request) answered = asks_effect port request (found port request) (kept_with request answered)
