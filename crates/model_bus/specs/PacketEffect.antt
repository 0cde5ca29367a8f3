-- What an event of packets does to the manager's requests.
use Rattle.std.specs.Prelude.{◌≡◌, List, [], ◌∷◌, ◌++◌, ℕ, Option, Some, None, slice_get, if◌then◌else◌, IfSome, MatchOption}
use Rattle.model_bus.specs.Request.{Request}
use Rattle.model_bus.specs.Carried.{outcome}
use Rattle.model_bus.specs.Numbering.{Rules}
use Rattle.model_bus.specs.BusState.{BusState, Frame, Content, Ask, Reply, OtherAsks, request_of, new_bytes, taken_content, happens}
use Rattle.model_bus.specs.Effect.{SameRequests, CarriesOpen, TakesReply, HasEffect}
use Rattle.model_bus.specs.Packet.{Packet, IsCutting}
use Rattle.model_bus.specs.Assembly.{Name, SentPacket, Step, Waits, Whole, Drops, takes, first_request, message_of}
use Rattle.model_bus.specs.PacketBus.{PacketBus, rules_of, request_name, reply_name, is_awaited, other_request, BusEnds, PacketEvent, Plain, PacketReachesPort, PacketReachesManager, OtherPacket, OtherReplyPacket, Closes, Clears, PacketResumes, packet_happens, packet_run}
use Rattle.model_bus.specs.Start.{NothingUnderWay, NothingWaits, FreshWindow}
use Rattle.model_bus.specs.PacketSchedule.{JoinRule, AllPacketHonest}

-- what an end does with a packet under a name; a frame has no packet at a place past its last
abbrev pub step_of : (Name → List SentPacket) → Name → ℕ → ℕ → Option Packet → Step
step_of assemblies name request idles None = Drops
step_of assemblies name request idles (Some packet) = (takes (assemblies name) (record { request = request; idles = idles; packet = packet })).0

-- the request that is complete, if one is
abbrev pub whole_request : Rules → ℕ → Step → Option Request
whole_request rules request (Whole ss) = Some (request_of rules (first_request request ss) (message_of ss))
whole_request rules request Waits = None
whole_request rules request Drops = None

-- the reply that is complete, under this number
abbrev pub whole_reply : ℕ → Step → Option Content
whole_reply number (Whole ss) = Some (Reply number (Some (message_of ss)))
whole_reply number Waits = None
whole_reply number Drops = None

-- the request that packet `place` of a frame of this request completes at the port
abbrev pub completed_request : PacketBus → BusEnds → ℕ → ℕ → ℕ → Content → Option Request
completed_request bus ends place request idles (Ask bytes) = whole_request (rules_of bus) request (step_of ends.port (request_name bus request) request idles (slice_get (bus.split bytes) place))
completed_request bus ends place request idles (Reply number reply) = None

-- the reply that packet `place` of a frame of this request completes at the manager
abbrev pub completed_reply : PacketBus → BusEnds → ℕ → ℕ → ℕ → Content → Option Content
completed_reply bus ends place request idles (Ask bytes) = None
completed_reply bus ends place request idles (Reply number None) = None
completed_reply bus ends place request idles (Reply number (Some reply)) =
    if is_awaited bus request ends.bus
    then whole_reply number (step_of ends.manager (reply_name bus request) request idles (slice_get (bus.split reply) place))
    else None

-- what the port carries out of a request that is complete
abbrev pub carried_of : Rules → Option Request → BusState → Option (List ℕ)
carried_of rules None state = None
carried_of rules (Some request) state = new_bytes (outcome rules.is_above request state.log) request.bytes

-- what the manager takes of a reply that is complete
abbrev pub taken_of : Rules → Option Content → BusState → Option (List ℕ)
taken_of rules None state = None
taken_of rules (Some content) state = taken_content rules content state

-- the request that was read is the one that the frame holds
abbrev pub HoldsRequest : Rules → ℕ → Content → Request → Type 0
HoldsRequest rules request (Ask bytes) asked = asked ≡ request_of rules request bytes
HoldsRequest rules request (Reply number reply) asked = ⊥

-- Where a request is complete at the port, the frame holds that request. No request of the manager moves, unless the rule says that the request
-- is new: then it is the open request, and the port carries it out for the first time.
pub record PortEffect (rules : Rules) (request : ℕ) (content : Content) (complete : Option Request) (answer : List ℕ) (old new : BusState) : Type 0 where
  pub as_sent : IfSome complete (HoldsRequest rules request content)
  pub moves : MatchOption (carried_of rules complete old) (SameRequests old new) (λ bytes. CarriesOpen old new bytes answer)

-- Where a reply is complete at the manager, the frame holds that reply. No request moves, unless the reply has the open request's number: then
-- the manager takes it, and the port keeps that reply for the request.
pub record ManagerEffect (rules : Rules) (content : Content) (complete : Option Content) (old new : BusState) : Type 0 where
  pub as_sent : IfSome complete (λ whole. whole ≡ content)
  pub moves : MatchOption (taken_of rules complete old) (SameRequests old new) (λ reply. TakesReply old new reply)

-- what a packet of a frame does at the port; nothing, if there is no such frame
abbrev pub FrameAtPort : PacketBus → BusEnds → ℕ → List ℕ → BusState → Option Frame → Type 0
FrameAtPort bus ends place answer new None = SameRequests ends.bus new
FrameAtPort bus ends place answer new (Some frame) = PortEffect (rules_of bus) frame.request frame.content (completed_request bus ends place frame.request frame.idles frame.content) answer ends.bus new

-- what a packet of a frame does at the manager; nothing, if there is no such frame
abbrev pub FrameAtManager : PacketBus → BusEnds → ℕ → BusState → Option Frame → Type 0
FrameAtManager bus ends place new None = SameRequests ends.bus new
FrameAtManager bus ends place new (Some frame) = ManagerEffect (rules_of bus) frame.content (completed_reply bus ends place frame.request frame.idles frame.content) ends.bus new

-- what each event does
abbrev pub HasPacketEffect : PacketBus → BusEnds → PacketEvent → Type 0
HasPacketEffect bus ends (Plain event) = HasEffect (rules_of bus) ends.bus event
HasPacketEffect bus ends (PacketReachesPort which place answer) =
    FrameAtPort bus ends place answer (packet_happens bus ends (PacketReachesPort which place answer)).bus (slice_get ends.bus.frames which)
HasPacketEffect bus ends (PacketReachesManager which place) =
    FrameAtManager bus ends place (packet_happens bus ends (PacketReachesManager which place)).bus (slice_get ends.bus.frames which)
HasPacketEffect bus ends (OtherPacket name packet answer) = SameRequests ends.bus (packet_happens bus ends (OtherPacket name packet answer)).bus
HasPacketEffect bus ends (OtherReplyPacket name packet number) = SameRequests ends.bus (packet_happens bus ends (OtherReplyPacket name packet number)).bus
HasPacketEffect bus ends (Closes name) = SameRequests ends.bus (packet_happens bus ends (Closes name)).bus
HasPacketEffect bus ends Clears = SameRequests ends.bus (packet_happens bus ends Clears).bus
HasPacketEffect bus ends PacketResumes = SameRequests ends.bus (packet_happens bus ends PacketResumes).bus

-- Another requester's packet leaves the bus and its log as they are, unless it completes a request: so does a packet that waits or is dropped, and
-- a packet that ends a control message, a message of another type, a malformed request or a reply. A packet that completes a request is that
-- requester's asking.
abbrev pub OthersAsk : Type 0
OthersAsk = (bus : PacketBus) (ends : BusEnds) (name : Name) (packet : Packet) (answer : List ℕ)
    → let new = (packet_happens bus ends (OtherPacket name packet answer)).bus in
    MatchOption (other_request name (takes (ends.port name) (record { request = 0; idles = 0; packet = packet })).0) (new ≡ ends.bus)
    (λ heard. (heard.requester ≡ name.source) × (new ≡ happens (rules_of bus) ends.bus (OtherAsks heard answer)))

-- of every event of every honest schedule of packets, by the rule, from a start
abbrev pub EventsHavePacketEffects : JoinRule → Type 0
EventsHavePacketEffects rule = (bus : PacketBus) → IsCutting bus.split → (start : BusEnds) (events : List PacketEvent) (event : PacketEvent)
    → NothingUnderWay start.bus → NothingWaits bus start → FreshWindow (rules_of bus) start.bus.log
    → AllPacketHonest rule bus (events ++ event ∷ []) start → HasPacketEffect bus (packet_run bus events start) event
