-- The requests of a greeting, their frames, and what answers them.
use Rattle.std.specs.Prelude.{ℕ, ◌%◌, Bool, true, false, not, ◌==◌, ◌&&◌, List, [], ◌∷◌, Option, Some, None, IsTrue}
use Rattle.two_wire.specs.Circles.{sequence_numbers, instances, tags}
use Rattle.two_wire.specs.declared.Bus.{Bus}
use Rattle.two_wire.specs.declared.Bus.TheVariants.{Ipmb, Smbus}
use Rattle.ipmb_frame.specs.declared.message.Request.{Request}
use Rattle.ipmb_frame.specs.declared.message.Response.{Response}
use Rattle.ipmb_frame.specs.Grammar.{IsRequest, IsResponse}
use Rattle.mctp_net.specs.declared.packet.Envelope.{Envelope}
use Rattle.mctp_net.specs.declared.packet.Packet.{Packet}
use Rattle.mctp_net.specs.Assembly.{is_ours}
use Rattle.mctp_net.specs.Grammar.{IsSpelled, IsPacket}
use Rattle.pldm_base.specs.declared.message.PldmReply.{PldmReply}
use Rattle.pldm_base.specs.Message.{reply_in}
use Rattle.undo_plans.specs.declared.names.Names.{Names}
use Rattle.model_bus.specs.Bytes.{pldm_message_type, pldm_request, is_busy_code}

-- ---- the requests

-- the application network function, and Get Device ID (IPMI 2.0), which takes no data
abbrev pub application : ℕ
application = 0x06

abbrev pub get_device_id : ℕ
get_device_id = 0x01

-- the PLDM type of messaging control, and GetTID (DSP0240), which takes no data
abbrev pub messaging_control : ℕ
messaging_control = 0x00

abbrev pub get_tid : ℕ
get_tid = 0x02

-- the data that the greeting's requests have nevertheless: HELO
abbrev pub greeting_data : List ℕ
greeting_data = 0x48 ∷ 0x45 ∷ 0x4C ∷ 0x4F ∷ []

-- Get Device ID with data, as the manager's request of this count on IPMB
abbrev pub request_at : Names → ℕ → Request
request_at names count = record {
  header = record {
    responder = record { address = names.peer_address; lun = 0 };
    requester = record { address = names.own_address; lun = 0 };
    net_fn = application;
    sequence = count % sequence_numbers;
    command = get_device_id;
  };
  body = greeting_data;
}

-- GetTID with data, as the message of the manager's request of this count on SMBus
abbrev pub message_at : ℕ → List ℕ
message_at count = pldm_request (record { pldm_type = messaging_control; command = get_tid }) (count % instances) greeting_data

-- the sender, the receiver and the tag of that message
abbrev pub envelope_at : Names → ℕ → Envelope
envelope_at names count = record {
  destination = names.peer_wire;
  source = names.own_wire;
  destination_eid = names.peer_eid;
  source_eid = names.own_eid;
  tag_owner = true;
  tag = count % tags;
}

-- the one packet that it is
abbrev pub packet_at : Names → ℕ → Packet
packet_at names count = record { envelope = envelope_at names count; start = true; end = true; sequence = 0; payload = message_at count }

-- the bytes are the frame of the greeting's request of this count on the bus
abbrev pub IsGreetingFrame : Names → Bus → (count : ℕ) → List ℕ → Type 0
IsGreetingFrame names Ipmb count frame = IsRequest (request_at names count) frame
IsGreetingFrame names Smbus count frame = IsSpelled (packet_at names count) 0 frame

-- ---- what answers them

-- the response goes from the controller to the manager
abbrev pub is_from_controller : Names → Response → Bool
is_from_controller names response = response.header.requester.address == names.own_address && response.header.responder.address == names.peer_address

-- the packet goes from the controller to the manager, under the tag of the request of this count
abbrev pub is_part : Names → ℕ → Packet → Bool
is_part names count packet =
    (packet.envelope.destination == names.own_wire && packet.envelope.source == names.peer_wire)
    && (packet.envelope.source_eid == names.peer_eid && (not packet.envelope.tag_owner && packet.envelope.tag == count % tags))

-- of a code: that it says that the controller is busy, or that it doesn't
abbrev pub is_code : (busy : Bool) → ℕ → Bool
is_code true code = is_busy_code code
is_code false code = not (is_busy_code code)

-- The response is the reply to the request of this count: it goes from the controller to the manager, and has the request's number, network
-- function and command, and such a code.
abbrev pub is_told_by : (busy : Bool) → Names → ℕ → Response → Bool
is_told_by busy names count response =
    is_from_controller names response
    && ((response.header.net_fn == application && response.header.sequence == count % sequence_numbers) && (response.header.command == get_device_id && is_code busy response.code))

-- the reply has the number, the type and the command of the request of this count, and such a code
abbrev pub replies_to : (busy : Bool) → ℕ → PldmReply → Bool
replies_to busy count reply =
    (reply.header.instance == count % instances && reply.header.pldm_type == messaging_control) && (reply.header.command == get_tid && is_code busy reply.code)

abbrev pub replies_in : (busy : Bool) → ℕ → Option PldmReply → Bool
replies_in busy count None = false
replies_in busy count (Some reply) = replies_to busy count reply

-- the message is such a reply
abbrev pub is_reply : (busy : Bool) → ℕ → List ℕ → Bool
is_reply busy count [] = false
is_reply busy count (kind ∷ bytes) = kind == pldm_message_type && replies_in busy count (reply_in bytes)

-- the packet is a whole message
abbrev pub is_single : Packet → Bool
is_single packet = (packet.start && packet.end) && packet.sequence == 0

-- The packet is the reply to the request of this count: it goes from the controller to the manager's endpoint, under the request's tag, and
-- is a whole message, which is such a reply.
abbrev pub is_told_in : (busy : Bool) → Names → ℕ → Packet → Bool
is_told_in busy names count packet = (is_part names count packet && is_ours names.own_eid packet) && (is_single packet && is_reply busy count packet.payload)

-- the bytes are the reply to the greeting's request of this count on the bus, with such a code
abbrev pub IsReplyTo : (busy : Bool) → Names → Bus → (count : ℕ) → List ℕ → Type 0
IsReplyTo busy names Ipmb count bytes = (response : Response) × IsResponse response bytes × IsTrue (is_told_by busy names count response)
IsReplyTo busy names Smbus count bytes = (packet : Packet) × IsPacket packet bytes × IsTrue (is_told_in busy names count packet)

-- they answer it: the reply has any other code than those of a busy controller
abbrev pub IsAnswer : Names → Bus → (count : ℕ) → List ℕ → Type 0
IsAnswer names on count bytes = IsReplyTo false names on count bytes

-- they say that the controller is busy
abbrev pub SaysBusy : Names → Bus → (count : ℕ) → List ℕ → Type 0
SaysBusy names on count bytes = IsReplyTo true names on count bytes
