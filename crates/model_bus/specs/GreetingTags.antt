-- What a greeting in packets leaves at the port: none of the manager's packets waits, under the tag of any request.
use Rattle.std.specs.Prelude.{◌≡◌, ◌<◌, ◌≤◌, ◌⊎◌, ℕ, true, false, List, [], ◌∷◌}
use Rattle.two_wire.specs.Circles.{tags}
use Rattle.model_bus.specs.Repeat.{In}
use Rattle.model_bus.specs.Packet.{Packet}
use Rattle.model_bus.specs.Assembly.{Name, SentPacket}
use Rattle.model_bus.specs.PacketBus.{PacketBus, request_name, BusEnds, PacketEvent, PacketReachesPort, OtherPacket, packet_run}
use Rattle.model_bus.specs.Start.{NothingWaits}

-- ---- a greeting in packets

-- the places of the greeting's requests, counted from the manager's first: half a circle before it, and one under each of the eight tags
abbrev pub packet_places : List ℕ
packet_places = 15 ∷ 24 ∷ 25 ∷ 26 ∷ 27 ∷ 28 ∷ 29 ∷ 30 ∷ 31 ∷ []

-- the packet is all of its message
pub record IsSingle (packet : Packet) : Type 0 where
  pub first : packet.first ≡ true
  pub last : packet.last ≡ true
  pub sequence : packet.sequence ≡ 0

-- such a packet comes under this name; what the board would answer to it is left open
abbrev pub SingleComes : Name → List PacketEvent → Type 0
SingleComes name events = (packet : Packet) × (answer : List ℕ) × IsSingle packet × In (OtherPacket name packet answer) events

-- Under the manager's endpoint nothing else comes to the port. What others send, and what the port closes, is left open.
abbrev pub IsOfGreeting : PacketBus → PacketEvent → Type 0
IsOfGreeting bus (PacketReachesPort which place answer) = ⊥
IsOfGreeting bus (OtherPacket name packet answer) = name.source ≡ bus.manager → IsSingle packet
IsOfGreeting bus _ = Unit {0}

-- the manager greets: the packet of each of these requests comes, as often as it likes and in any order
pub record GreetsInPackets (bus : PacketBus) (events : List PacketEvent) : Type 0 where
  pub alone : (event : PacketEvent) → In event events → IsOfGreeting bus event
  pub each : (place : ℕ) → In place packet_places → SingleComes (request_name bus place) events

-- ---- what waits

-- under the names of the manager's requests nothing waits
abbrev pub NoRequestWaits : PacketBus → (Name → List SentPacket) → Type 0
NoRequestWaits bus port = (request : ℕ) → port (request_name bus request) ≡ []

-- the manager sends nothing under this name: it owns the tag of each of its packets, and a tag is below eight
abbrev pub IsUnsent : Name → Type 0
IsUnsent name = (name.owner ≡ false) ⊎ (tags ≤ name.tag)

-- under the manager's endpoint packets of requests alone wait
abbrev pub OnlyRequestsWait : PacketBus → (Name → List SentPacket) → Type 0
OnlyRequestsWait bus port = (name : Name) → name.source ≡ bus.manager → IsUnsent name → port name ≡ []

-- under the manager's endpoint packets of requests alone come
abbrev pub SendsRequests : PacketBus → PacketEvent → Type 0
SendsRequests bus (OtherPacket name packet answer) = name.source ≡ bus.manager → (name.owner ≡ true) × (name.tag < tags)
SendsRequests bus _ = Unit {0}

pub record GreetingClears : Type 0 where
  -- whatever waited before, no packet of a request of the manager waits behind the greeting
  pub clears : (bus : PacketBus) (before : BusEnds) (events : List PacketEvent)
      → GreetsInPackets bus events → NoRequestWaits bus (packet_run bus events before).port
  -- Where packets of requests alone come under the manager's endpoint, in this run and in any before, nothing else of it waits.
  pub keeps : (bus : PacketBus) (before : BusEnds) (events : List PacketEvent)
      → ((event : PacketEvent) → In event events → SendsRequests bus event)
      → OnlyRequestsWait bus before.port → OnlyRequestsWait bus (packet_run bus events before).port
  -- so nothing waits where a manager begins behind its greeting, which drops what waits at itself
  pub nothing_waits : (bus : PacketBus) (before : BusEnds) (events : List PacketEvent)
      → GreetsInPackets bus events → ((event : PacketEvent) → In event events → SendsRequests bus event)
      → OnlyRequestsWait bus before.port → NothingWaits bus (record (packet_run bus events before) { manager = λ name. [] })
