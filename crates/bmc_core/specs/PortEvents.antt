-- What comes to a port in a lab, as events of the model of a bus.
use Rattle.std.specs.Prelude.{◌≡◌, ℕ, ◌≤◌, List, [], ◌∷◌, length, Option, Some, None, slice_get}
use Rattle.two_wire.specs.declared.Bus.TheVariants.{Ipmb, Smbus}
use Rattle.ipmb_frame.specs.declared.message.Request.{Request}
use Rattle.mctp_net.specs.declared.packet.Packet.{Packet}
use Rattle.mctp_net.specs.declared.taken.DropCause.{DropCause}
use Rattle.mctp_net.specs.declared.taken.DropCause.TheVariants.{NotOurs, NoStart, TooLong, OutOfSequence, UnitSize, NoSlot}
use Rattle.mctp_net.specs.Sizes.{unit_size}
use Rattle.mctp_net.specs.Cut.{piece}
use Rattle.mctp_net.specs.Assembly.{name_of, drop_cause, after as kept_after, message_of}
use Rattle.mctp_net.specs.Sound.{AreSoundAssemblies}
use Rattle.pldm_base.specs.declared.message.PldmRequest.{PldmRequest}
use Rattle.pldm_base.specs.Message.{request_in as pldm_request_in}
use Rattle.cfg_records.specs.declared.board_file.BoardFile.{BoardFile}
use Rattle.model_bus.specs.Numbering.{Rules, ipmb}
use Rattle.model_bus.specs.BusState.{BusState, Frame, Ask, OtherAsks, ReachesPort, request_of, happens}
use Rattle.model_bus.specs.Bytes.{request_in}
use Rattle.model_bus.specs.Assembly.{Name}
use Rattle.model_bus.specs.PacketBus.{PacketBus, rules_of, request_name, BusEnds, PacketEvent, PacketReachesPort, OtherPacket, Closes, packet_happens}
use Rattle.model_bus.specs.PacketEffect.{HasPacketEffect}
use Rattle.bmc_board.specs.State.{State}
use Rattle.bmc_board.specs.Answer.{answer_of}
use Rattle.bmc_core.specs.Seen.{seen, seen_name, WaitsAlike}
use Rattle.bmc_core.specs.Bytes.{heard_in, pldm_heard_in}
use Rattle.bmc_core.specs.PortSteps.{PortState, spelled, asked_in, pldm_asked, hears_request, hears_part}

-- ---- IPMB

-- the reply that the board would give to the request
abbrev pub answer_to : BoardFile → State → Request → List ℕ
answer_to setup before request = spelled Ipmb (heard_in request) (answer_of setup before (asked_in request)).0

-- A request leaves the log that the model's event leaves: another's asking, or a frame of the manager that holds these bytes.
pub record RequestsAreEvents (setup : BoardFile) (port : PortState) (before : State) (request : Request) (rules : Rules) (state : BusState) : Type 0 where
  pub others : (happens rules state (OtherAsks (heard_in request) (answer_to setup before request))).log ≡ (hears_request setup port before request).port.log
  pub managers : (which : ℕ) (frame : Frame) (bytes : List ℕ) → slice_get state.frames which ≡ Some frame → frame.content ≡ Ask bytes → heard_in request ≡ request_of rules frame.request bytes
      → (happens rules state (ReachesPort which (answer_to setup before request))).log ≡ (hears_request setup port before request).port.log

-- so it is with every request, where the model's log is the port's
abbrev pub RequestsLeaveLog : Type 0
RequestsLeaveLog = (setup : BoardFile) (port : PortState) (before : State) (request : Request) (manager controller first : ℕ) (state : BusState) → state.log ≡ port.log
    → RequestsAreEvents setup port before request (ipmb manager controller first) state

-- ---- SMBus

-- the reply that the board would give to the request that a message from this endpoint is read as, if any
abbrev pub pldm_answer_to : BoardFile → State → ℕ → Option PldmRequest → List ℕ
pldm_answer_to setup before from None = []
pldm_answer_to setup before from (Some request) = spelled Smbus (pldm_heard_in from request) (answer_of setup before (pldm_asked from request)).0

-- the reply that the board would give to a message's bytes
abbrev pub message_answer_to : BoardFile → State → ℕ → List ℕ → List ℕ
message_answer_to setup before from [] = []
message_answer_to setup before from (kind ∷ rest) = pldm_answer_to setup before from (pldm_request_in rest)

-- the reply that the board would give to the message that the packet ends, if any
abbrev pub part_answer_to : BoardFile → PortState → State → Packet → List ℕ
part_answer_to setup port before packet =
    message_answer_to setup before packet.envelope.source_eid (message_of (kept_after port.eid port.kept packet) packet).body

-- under which name the packet is sent
abbrev pub name_in : Packet → Name
name_in packet = seen_name (name_of packet.envelope)

-- The event of a packet, by the cause for which the port drops it, if it does. A packet that isn't the endpoint's is no event. A packet for which there
-- is no slot closes the assembly of its name. This event takes any other packet.
abbrev pub event_by : Option DropCause → Name → PacketEvent → Option PacketEvent
event_by (Some NotOurs) name taken = None
event_by (Some NoSlot) name taken = Some (Closes name)
event_by (Some NoStart) name taken = Some taken
event_by (Some TooLong) name taken = Some taken
event_by (Some OutOfSequence) name taken = Some taken
event_by (Some UnitSize) name taken = Some taken
event_by None name taken = Some taken

-- both ends after the event, if there is one
abbrev pub happens_if : PacketBus → Option PacketEvent → BusEnds → BusEnds
happens_if bus None ends = ends
happens_if bus (Some event) ends = packet_happens bus ends event

-- both ends after a packet that came to the port, where this event would take it
abbrev pub after_part : PacketBus → PortState → Packet → PacketEvent → BusEnds → BusEnds
after_part bus port packet taken ends = happens_if bus (event_by (drop_cause port.eid port.kept packet) (name_in packet) taken) ends

-- the model's port is the lab's: both did the same, and the same packets wait at both
pub record IsPortOf (ends : BusEnds) (port : PortState) : Type 0 where
  pub log : ends.bus.log ≡ port.log
  pub waits : WaitsAlike ends.port port.kept
  pub sound : AreSoundAssemblies port.kept

-- The packet is the one at this place of frame `which`, a frame of the manager that holds a PLDM request under its number.
pub record IsManagersPart (bus : PacketBus) (ends : BusEnds) (which place : ℕ) (packet : Packet) : Type 0 where
  pub frame : Frame
  pub bytes : List ℕ
  pub sent : slice_get ends.bus.frames which ≡ Some frame
  pub asks : frame.content ≡ Ask bytes
  pub part : slice_get (bus.split bytes) place ≡ Some (seen (piece packet))
  pub named : name_in packet ≡ request_name bus frame.request
  pub read : request_in bus.manager bytes ≡ Some (request_of (rules_of bus) frame.request bytes)

-- The model's event leaves at its port what a packet of at most 64 bytes leaves at the lab's port: the log, and the packets that wait. The packet is
-- another requester's, or the manager's, where the event does what it does in each honest schedule.
pub record PartsAreEvents (setup : BoardFile) (port : PortState) (before : State) (packet : Packet) (bus : PacketBus) (ends : BusEnds) : Type 0 where
  pub others : IsPortOf (after_part bus port packet (OtherPacket (name_in packet) (seen (piece packet)) (part_answer_to setup port before packet)) ends) (hears_part setup port before packet).port
  pub managers : (which place : ℕ) → let event = PacketReachesPort which place (part_answer_to setup port before packet) in
      IsManagersPart bus ends which place packet → HasPacketEffect bus ends event → IsPortOf (after_part bus port packet event ends) (hears_part setup port before packet).port

-- so it is with every packet
abbrev pub PartsLeaveLog : Type 0
PartsLeaveLog = (setup : BoardFile) (port : PortState) (before : State) (packet : Packet) (bus : PacketBus) (ends : BusEnds) → length packet.payload ≤ unit_size → IsPortOf ends port
    → PartsAreEvents setup port before packet bus ends
