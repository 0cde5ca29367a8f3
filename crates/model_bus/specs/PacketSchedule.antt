-- Honest schedules of packets.
use Rattle.std.specs.Prelude.{◌≡◌, ◌≢◌, ℕ, ◌+◌, ◌≤◌, false, ◌||◌, List, [], ◌∷◌, ◌++◌, length, Option, Some, None, slice_get, IfSome}
use Rattle.model_bus.specs.Request.{idles_of}
use Rattle.model_bus.specs.Numbering.{Rules}
use Rattle.model_bus.specs.BusState.{BusState, Content, Ask, Reply, Event, ReachesPort, ReachesManager, IsIdle, Resumes, is_open}
use Rattle.model_bus.specs.Schedule.{IsLive, IsHonest}
use Rattle.model_bus.specs.Repeat.{In}
use Rattle.model_bus.specs.Packet.{Packet, IsCutting}
use Rattle.model_bus.specs.Assembly.{SentPacket, IsWhole, IsJoined, takes, waiting}
use Rattle.model_bus.specs.PacketBus.{PacketBus, rules_of, request_name, BusEnds, PacketEvent, Plain, PacketReachesPort, PacketReachesManager, OtherPacket, OtherReplyPacket, Closes, Clears, PacketResumes, packet_happens, packet_run}
use Rattle.model_bus.specs.Start.{NothingUnderWay, NothingWaits, FreshWindow}
use Rattle.model_bus.specs.AtMostOnce.{AtMostOnce}

-- What is asked of the packets that wait at the port where another is joined to them. Nothing need be asked of the
-- manager's, which joins packets of the open request alone.
pub data JoinRule : Type 0 where
  -- nothing
  AnyJoin : JoinRule
  -- a packet that waits counts as delivered again when another is joined to it, so it is live still
  LiveWhereJoined : JoinRule
  -- no packet is joined to one of another request
  OneRequestWhereJoined : JoinRule
  -- where a message is complete, its packets are of requests that are recent still
  RecentWhereWhole : JoinRule

-- the rule allows this packet to be taken to those that wait
abbrev pub MayJoin : JoinRule → Rules → BusState → List SentPacket → SentPacket → Type 0
MayJoin AnyJoin rules state taken sent = Unit {0}
MayJoin LiveWhereJoined rules state taken sent =
    IsJoined (takes taken sent).0 → (sending : SentPacket) → In sending (waiting taken sent) → (length state.begun ≤ sending.request + rules.span) × (sending.idles ≡ idles_of rules.manager state.log)
MayJoin OneRequestWhereJoined rules state taken sent = IsJoined (takes taken sent).0 → (sending : SentPacket) → In sending (waiting taken sent) → sending.request ≡ sent.request
MayJoin RecentWhereWhole rules state taken sent = IsWhole (takes taken sent).0 → (sending : SentPacket) → In sending (waiting taken sent) → length state.begun ≤ sending.request + rules.span

-- the rule allows a packet of this request, if there is such a packet
abbrev pub PacketMayJoin : JoinRule → Rules → BusState → List SentPacket → ℕ → ℕ → Option Packet → Type 0
PacketMayJoin rule rules state taken request idles None = Unit {0}
PacketMayJoin rule rules state taken request idles (Some packet) = MayJoin rule rules state taken (record { request = request; idles = idles; packet = packet })

-- the rule allows packet `place` of a frame that comes to the port
abbrev pub JoinsAtPort : JoinRule → PacketBus → BusEnds → ℕ → ℕ → ℕ → Content → Type 0
JoinsAtPort rule bus ends place request idles (Ask bytes) = PacketMayJoin rule (rules_of bus) ends.bus (ends.port (request_name bus request)) request idles (slice_get (bus.split bytes) place)
JoinsAtPort rule bus ends place request idles (Reply number reply) = Unit {0}

-- the event is the same in packets: it brings no frame to an end, and changes nothing that waits
abbrev pub IsPlain : Event → Type 0
IsPlain (ReachesPort which answer) = ⊥
IsPlain (ReachesManager which) = ⊥
IsPlain Resumes = ⊥
IsPlain _ = Unit {0}

-- only packets of live frames are delivered, joined to others at the port by the rule, and nobody else uses
-- the manager's endpoint, or replies from the controller's
abbrev pub IsPacketHonest : JoinRule → PacketBus → BusEnds → PacketEvent → Type 0
IsPacketHonest rule bus ends (Plain event) = IsPlain event × IsHonest (rules_of bus) ends.bus event
IsPacketHonest rule bus ends (PacketReachesPort which place answer) =
    IfSome (slice_get ends.bus.frames which) (λ frame. IsLive (rules_of bus) ends.bus frame × JoinsAtPort rule bus ends place frame.request frame.idles frame.content)
IsPacketHonest rule bus ends (PacketReachesManager which place) =
    IfSome (slice_get ends.bus.frames which) (IsLive (rules_of bus) ends.bus)
IsPacketHonest rule bus ends (OtherPacket name packet answer) = name.source ≢ bus.manager
IsPacketHonest rule bus ends (OtherReplyPacket name packet number) = name.source ≢ bus.controller
IsPacketHonest rule bus ends (Closes name) = Unit {0}
IsPacketHonest rule bus ends Clears = Unit {0}
IsPacketHonest rule bus ends PacketResumes = IsHonest (rules_of bus) ends.bus Resumes

-- every event of a schedule of packets is honest, where it happens
abbrev pub AllPacketHonest : JoinRule → PacketBus → List PacketEvent → BusEnds → Type 0
AllPacketHonest rule bus [] ends = Unit {0}
AllPacketHonest rule bus (event ∷ events) ends = IsPacketHonest rule bus ends event × AllPacketHonest rule bus events (packet_happens bus ends event)

-- at every event of every honest schedule of packets, by the rule, from a start, whoever takes the manager's place on the way
abbrev pub AlwaysAtMostOnceInPackets : JoinRule → Type 0
AlwaysAtMostOnceInPackets rule = (bus : PacketBus) → IsCutting bus.split → (start : BusEnds) (events later : List PacketEvent)
    → NothingUnderWay start.bus → NothingWaits bus start → FreshWindow (rules_of bus) start.bus.log
    → AllPacketHonest rule bus (events ++ later) start → AtMostOnce (rules_of bus) start.bus.log (packet_run bus events start).bus

-- a schedule that is honest by the rule is honest by the weaker rule
abbrev pub RuleImplies : JoinRule → JoinRule → Type 0
RuleImplies rule weaker = (bus : PacketBus) (events : List PacketEvent) (ends : BusEnds) → AllPacketHonest rule bus events ends → AllPacketHonest weaker bus events ends

-- a lab that forgets the manager's window, or puts another in its place, only while no request is open on either bus is
-- honest in packets, too
pub record NoneOpenIsPacketHonest : Type 0 where
  pub idle : (rule : JoinRule) (bus : PacketBus) (here : BusEnds) (there : BusState) (requester : ℕ) → (is_open here.bus || is_open there) ≡ false → IsPacketHonest rule bus here (Plain (IsIdle requester))
  pub resumes : (rule : JoinRule) (bus : PacketBus) (here : BusEnds) (there : BusState) → (is_open here.bus || is_open there) ≡ false → IsPacketHonest rule bus here PacketResumes
