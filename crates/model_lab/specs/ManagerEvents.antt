-- What comes to the manager in a lab, as events of the model of a bus.
use Rattle.std.specs.Prelude.{◌≡◌, ℕ, ◌+◌, ◌%◌, true, false, List, length, Option, Some, None, slice_get, IfSome}
use Rattle.two_wire.specs.Circles.{tags}
use Rattle.two_wire.specs.declared.Bus.{Bus}
use Rattle.two_wire.specs.declared.Bus.TheVariants.{Ipmb, Smbus}
use Rattle.ipmb_frame.specs.declared.message.Response.{Response}
use Rattle.mctp_net.specs.declared.packet.Packet.{Packet}
use Rattle.mctp_net.specs.declared.packet.Name.{Name}
use Rattle.mctp_net.specs.Cut.{piece}
use Rattle.mctp_net.specs.Assembly.{Assemblies, open_beside, is_ours}
use Rattle.model_bus.specs.Numbering.{Rules}
use Rattle.model_bus.specs.Schedule.{IsLive}
use Rattle.model_bus.specs.BusState.{BusState, Frame, Content, Ask, Reply, ReachesManager}
use Rattle.model_bus.specs.Bytes.{is_busy_code, IsReplyOn}
use Rattle.model_bus.specs.Answering.{TestsAgree}
use Rattle.model_bus.specs.PacketBus.{PacketBus, rules_of, reply_name, BusEnds, PacketReachesManager, packet_happens}
use Rattle.model_bus.specs.PacketEffect.{HasPacketEffect}
use Rattle.model_undo.specs.Machine.{Part as TaskPart, reply_of}
use Rattle.model_undo.specs.Line.{brings_whole, brings_packets}
use Rattle.bmc_core.specs.Wires.{answered_from}
use Rattle.bmc_core.specs.Seen.{seen, WaitsAlike}
use Rattle.undo_plans.specs.declared.names.Names.{Names}
use Rattle.bmc_core.specs.Bytes.{response_bytes}
use Rattle.model_lab.specs.ManagerSteps.{Plans, ManagerState, ManagerStepResult, is_answer, rests, taken_or, heeded_on, open_count, open_bytes, hears_response, hears_packet}
use Rattle.bmc_core.specs.PortEvents.{name_in}

-- the bytes are a reply which says that the port is busy
abbrev pub SaysBusy : Bus → List ℕ → Type 0
SaysBusy kind bytes = (code : ℕ) × (request : List ℕ) × (is_busy_code code ≡ true) × IsReplyOn kind code request bytes

-- the bytes are the reply that the model's frame holds; where it holds none, they say that the port is busy
abbrev pub HoldsReply : Bus → List ℕ → Content → Type 0
HoldsReply kind bytes (Ask asked) = ⊥
HoldsReply kind bytes (Reply number (Some reply)) = bytes ≡ reply
HoldsReply kind bytes (Reply number None) = SaysBusy kind bytes

-- the packet stands at this place of the reply that the frame holds; a port says in one packet that it is busy
abbrev pub HoldsPart : PacketBus → ℕ → Packet → Content → Type 0
HoldsPart bus place packet (Ask asked) = ⊥
HoldsPart bus place packet (Reply number (Some reply)) = slice_get (bus.split reply) place ≡ Some (seen (piece packet))
HoldsPart bus place packet (Reply number None) = (packet.start ≡ true) × (packet.end ≡ true) × (packet.sequence ≡ 0) × SaysBusy Smbus packet.payload

-- the name under which the packets of the reply to the request of this count come
abbrev pub name_awaited : Names → ℕ → Name
name_awaited names count = record { source_eid = names.peer_eid; tag_owner = false; tag = count % tags }

-- the response is the reply in frame `which`, which is live, and goes from the controller to the manager
pub record IsRepliesResponse (names : Names) (rules : Rules) (state : BusState) (which : ℕ) (response : Response) : Type 0 where
  pub frame : Frame
  pub sent : slice_get state.frames which ≡ Some frame
  pub live : IsLive rules state frame
  pub held : HoldsReply Ipmb (response_bytes response) frame.content
  pub answers : is_answer names response ≡ true

-- the packet stands at this place of frame `which`, which is live, and goes from the controller to the manager
pub record IsRepliesPart (names : Names) (bus : PacketBus) (ends : BusEnds) (which place : ℕ) (packet : Packet) : Type 0 where
  pub frame : Frame
  pub sent : slice_get ends.bus.frames which ≡ Some frame
  pub live : IsLive (rules_of bus) ends.bus frame
  pub held : HoldsPart bus place packet frame.content
  pub named : name_in packet ≡ reply_name bus frame.request
  pub destination : packet.envelope.destination ≡ names.own_wire
  pub source : packet.envelope.source ≡ names.peer_wire
  pub ours : is_ours names.own_eid packet ≡ true

module _ (plans : Plans) where
  -- the manager takes the reply of these bytes, if there is one
  abbrev pub takes_if : Bus → Option (List ℕ) → ManagerState plans → ManagerStepResult plans
  takes_if on None manager = rests plans manager
  takes_if on (Some reply) manager = taken_or plans manager (reply_of plans.words (answered_from on reply) manager.machine)

  -- the manager's open request on the bus is heeded, and the model's has its bytes
  pub record IsOpenOn (on : Bus) (manager : ManagerState plans) (open_part : TaskPart plans.words) (state : BusState) : Type 0 where
    pub heeded : heeded_on plans on manager.machine.stage ≡ Some open_part
    pub opened : slice_get state.begun (length state.taken) ≡ Some (open_bytes plans on manager open_part)

  -- Under every name the packets that wait at the model's manager wait at the lab's. All of them are of the open request, which has the model's count
  -- and controller.
  pub record IsManagerOf (manager : ManagerState plans) (bus : PacketBus) (ends : BusEnds) : Type 0 where
    pub waits : WaitsAlike ends.manager manager.joined
    pub alone : open_beside (name_awaited manager.names (open_count plans Smbus manager)) manager.joined ≡ 0
    pub counted : open_count plans Smbus manager ≡ bus.first + length ends.bus.taken
    pub controller : bus.controller ≡ manager.names.peer_eid

  -- the manager takes the reply that the model's event brings, if it brings one
  abbrev pub BringsResponse : ManagerState plans → Rules → BusState → ℕ → Response → Type 0
  BringsResponse manager rules state which response = hears_response plans response manager ≡ takes_if Ipmb (brings_whole rules state (ReachesManager which)) manager

  -- The manager takes the reply that the model's event of a packet brings, if it brings one. Then the same packets wait at both, of the open request
  -- alone; or no packet waits, where the event brought a reply.
  pub record BringsPart (manager : ManagerState plans) (bus : PacketBus) (ends : BusEnds) (which place : ℕ) (packet : Packet) : Type 0 where
    pub joined : Assemblies
    pub deed : hears_packet plans packet manager ≡ takes_if Smbus (brings_packets bus ends (PacketReachesManager which place)) (record manager { joined = joined })
    pub waits : WaitsAlike (packet_happens bus ends (PacketReachesManager which place)).manager joined
    pub alone : open_beside (name_awaited manager.names (open_count plans Smbus manager)) joined ≡ 0
    pub none_left : IfSome (brings_packets bus ends (PacketReachesManager which place)) (λ reply. joined.open_count ≡ 0)

  -- What a live reply makes of the manager, where the manager's test takes the replies that the model takes, and the event does what it does in each
  -- honest schedule. While the manager heeds no request on the bus, no reply changes it.
  pub record RepliesAreBrought : Type 0 where
    pub responses : (manager : ManagerState plans) (open_part : TaskPart plans.words) (rules : Rules) (state : BusState) (which : ℕ) (response : Response) → TestsAgree Ipmb rules state
        → IsOpenOn Ipmb manager open_part state → IsRepliesResponse manager.names rules state which response → BringsResponse manager rules state which response
    pub parts : (manager : ManagerState plans) (open_part : TaskPart plans.words) (bus : PacketBus) (ends : BusEnds) (which place : ℕ) (packet : Packet) → TestsAgree Smbus (rules_of bus) ends.bus
        → HasPacketEffect bus ends (PacketReachesManager which place) → IsOpenOn Smbus manager open_part ends.bus → IsManagerOf manager bus ends → IsRepliesPart manager.names bus ends which place packet
        → BringsPart manager bus ends which place packet
    pub unheeded_response : (manager : ManagerState plans) (response : Response) → heeded_on plans Ipmb manager.machine.stage ≡ None → hears_response plans response manager ≡ rests plans manager
    pub unheeded_part : (manager : ManagerState plans) (packet : Packet) → heeded_on plans Smbus manager.machine.stage ≡ None → hears_packet plans packet manager ≡ rests plans manager
