-- The requests of a look, their frames, and what answers them.
use Rattle.std.specs.Prelude.{ℕ, zero, suc, ◌+◌, ◌*◌, ◌%◌, ◌≤◌, Bool, true, false, not, ◌==◌, ◌&&◌, List, ◌∷◌, length, Option, Some, None, if◌then◌else◌}
use Rattle.two_wire.specs.Circles.{sequence_numbers, instances, tags}
use Rattle.two_wire.specs.declared.Bus.{Bus}
use Rattle.two_wire.specs.declared.Bus.TheVariants.{Ipmb, Smbus}
use Rattle.ipmb_frame.specs.declared.message.Request.{Request}
use Rattle.ipmb_frame.specs.declared.message.Response.{Response}
use Rattle.ipmb_frame.specs.Grammar.{IsRequest}
use Rattle.mctp_net.specs.declared.packet.Envelope.{Envelope}
use Rattle.mctp_net.specs.declared.packet.Packet.{Packet}
use Rattle.mctp_net.specs.Grammar.{IsSpelled}
use Rattle.pldm_base.specs.Parts.{part_length}
use Rattle.pldm_base.specs.declared.message.Header.{Header}
use Rattle.pldm_base.specs.declared.message.PldmReply.{PldmReply}
use Rattle.pldm_base.specs.Message.{reply_in}
use Rattle.record_base.specs.declared.message.Asked.{Asked}
use Rattle.record_base.specs.declared.message.Asked.TheVariants.{Ipmi, Pldm}
use Rattle.bios_attr.specs.EntryParts.{goes_on}
use Rattle.undo_plans.specs.declared.names.Names.{Names}
use Rattle.undo_plans.specs.declared.undo_list.NextNumbers.{NextNumbers}
use Rattle.model_bus.specs.Answered.{Answered}
use Rattle.model_bus.specs.Bytes.{pldm_message_type, pldm_request}
use Rattle.undo_look.specs.declared.target.Target.{Target}
use Rattle.undo_look.specs.Targets.{first_asked, next_at}

-- ---- the requests

-- the request of this place, counted from 0, among those of a look: the first asks for what is looked at, and each behind it for a part
abbrev pub get_at : Target → (part : ℕ) → Option Asked
get_at target zero = Some (first_asked target)
get_at target (suc part) = next_at target (part_length * suc part)

-- the request for the next part, behind so many replies of which this is the last
abbrev pub next_behind : Target → (count : ℕ) → List ℕ → Option Asked
next_behind target count body = if goes_on count body then next_at target (part_length * count) else None

-- the bus on which a request goes
abbrev pub bus_of : Asked → Bus
bus_of (Ipmi from net_fn lun command body) = Ipmb
bus_of (Pldm from kind command body) = Smbus

-- how many data a request over PLDM has at most: a transfer handle, a flag and an attribute's handle (DSP0247)
abbrev pub most_get_data : ℕ
most_get_data = 7

-- a request over PLDM has no more, so that one packet carries it
abbrev pub IsShort : Asked → Type 0
IsShort (Ipmi from net_fn lun command body) = Unit {0}
IsShort (Pldm from kind command body) = length body ≤ most_get_data

-- the numbers of the next requests behind one on this bus
abbrev pub numbers_after : NextNumbers → Bus → NextNumbers
numbers_after next Ipmb = record { ipmb = (next.ipmb + 1) % sequence_numbers; smbus = next.smbus }
numbers_after next Smbus = record { ipmb = next.ipmb; smbus = (next.smbus + 1) % instances }

-- a request on IPMB under this number
abbrev pub request_of : Names → (sequence net_fn lun command : ℕ) → List ℕ → Request
request_of names sequence net_fn lun command body = record {
  header = record {
    responder = record { address = names.peer_address; lun = lun };
    requester = record { address = names.own_address; lun = 0 };
    net_fn = net_fn;
    sequence = sequence;
    command = command;
  };
  body = body;
}

-- the sender, the receiver and the tag of a message under this number
abbrev pub envelope_at : Names → (instance : ℕ) → Envelope
envelope_at names instance = record {
  destination = names.peer_wire;
  source = names.own_wire;
  destination_eid = names.peer_eid;
  source_eid = names.own_eid;
  tag_owner = true;
  tag = instance % tags;
}

-- the one packet of a request on SMBus under this number
abbrev pub packet_of : Names → (instance kind command : ℕ) → List ℕ → Packet
packet_of names instance kind command body = record {
  envelope = envelope_at names instance;
  start = true;
  end = true;
  sequence = 0;
  payload = pldm_request (record { pldm_type = kind; command = command }) instance body;
}

-- the frame is that of the request, under the next number of its bus
abbrev pub IsLookFrame : Names → NextNumbers → Asked → List ℕ → Type 0
IsLookFrame names next (Ipmi from net_fn lun command body) frame = IsRequest (request_of names next.ipmb net_fn lun command body) frame
IsLookFrame names next (Pldm from kind command body) frame = IsSpelled (packet_of names next.smbus kind command body) 0 frame

-- ---- what answers them

-- the response goes from the controller to the manager
abbrev pub is_from_controller : Names → Response → Bool
is_from_controller names response = response.header.requester.address == names.own_address && response.header.responder.address == names.peer_address

-- the response has the number, the network function and the command of the request
abbrev pub is_answer_to : Asked → (sequence : ℕ) → Response → Bool
is_answer_to (Ipmi from net_fn lun command body) sequence response =
    (response.header.net_fn == net_fn && response.header.sequence == sequence) && response.header.command == command
is_answer_to (Pldm from kind command body) sequence response = false

-- the packet goes from the controller to the manager, under the tag of the request of this number
abbrev pub is_part : Names → (instance : ℕ) → Packet → Bool
is_part names instance packet =
    (packet.envelope.destination == names.own_wire && packet.envelope.source == names.peer_wire)
    && (packet.envelope.source_eid == names.peer_eid && (not packet.envelope.tag_owner && packet.envelope.tag == instance % tags))

-- the header has this instance, type and command
abbrev pub is_header : Header → (instance kind command : ℕ) → Bool
is_header header instance kind command = (header.instance == instance && header.pldm_type == kind) && header.command == command

-- what a message says that is this reply, if it is one, where it has the instance, the type and the command
abbrev pub told_in : (instance kind command : ℕ) → Option PldmReply → Option Answered
told_in instance kind command None = None
told_in instance kind command (Some reply) =
    if is_header reply.header instance kind command then Some (record { code = reply.code; body = reply.body }) else None

-- what a message says that is the reply to the request of this number, if it is one
abbrev pub reply_of : Asked → (instance : ℕ) → List ℕ → Option Answered
reply_of (Pldm from kind command body) instance (first ∷ bytes) = if first == pldm_message_type then told_in instance kind command (reply_in bytes) else None
reply_of asked instance message = None
