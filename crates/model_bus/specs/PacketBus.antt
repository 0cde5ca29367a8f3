-- A bus on which messages go in packets, with the assemblies at both ends, and what an event does to it.
use Rattle.std.specs.Prelude.{ℕ, Bool, true, false, ◌==◌, ◌&&◌, length, List, [], ◌∷◌, Option, Some, None, if◌then◌else◌, slice_get}
use Rattle.model_bus.specs.Request.{Request, Entry}
use Rattle.model_bus.specs.Numbering.{Rules, smbus, tag_of}
use Rattle.model_bus.specs.BusState.{BusState, Frame, Content, Ask, Reply, Event, OtherAsks, Resumes, opening, is_open, request_of, hears, taken_content, takes_if, happens}
use Rattle.model_bus.specs.Bytes.{request_in}
use Rattle.model_bus.specs.Packet.{Packet}
use Rattle.model_bus.specs.Assembly.{Name, is_name, SentPacket, Step, Waits, Whole, Drops, takes, first_request, message_of}

-- what the bus fixes: both endpoints, the count from which the manager's requests go on, and how messages are cut
pub record PacketBus : Type 0 where
  pub manager : ℕ
  pub controller : ℕ
  pub first : ℕ
  pub split : List ℕ → List Packet

-- its rules for whole messages
abbrev pub rules_of : PacketBus → Rules
rules_of bus = smbus bus.manager bus.controller bus.first

-- the name of the packets of this request at the port; the requester owns the tag
abbrev pub request_name : PacketBus → ℕ → Name
request_name bus request = record { source = bus.manager; owner = true; tag = tag_of bus.first request }

-- the name of the packets of the reply to this request, at the manager
abbrev pub reply_name : PacketBus → ℕ → Name
reply_name bus request = record { source = bus.controller; owner = false; tag = tag_of bus.first request }

-- the bus in whole messages, and the packets that wait at either end, under each name
pub record BusEnds : Type 0 where
  pub bus : BusState
  pub port : Name → List SentPacket
  pub manager : Name → List SentPacket

-- what can happen on the bus in packets; a schedule is a list of these
pub data PacketEvent : Type 0 where
  -- an event that brings no frame to an end
  Plain : (event : Event) → PacketEvent
  -- packet `place` of frame `which` reaches the port, where the board would answer this if it completes a message
  PacketReachesPort : (which place : ℕ) (answer : List ℕ) → PacketEvent
  -- packet `place` of frame `which` reaches the manager
  PacketReachesManager : (which place : ℕ) → PacketEvent
  -- somebody else's packet reaches the port, where the board would answer this if it completes a request
  OtherPacket : (name : Name) (packet : Packet) (answer : List ℕ) → PacketEvent
  -- somebody else's packet reaches the manager; `number` is the instance that a reply which it completes has
  OtherReplyPacket : (name : Name) (packet : Packet) (number : ℕ) → PacketEvent
  -- the port closes an assembly, as where it has no slot for a start of that name
  Closes : (name : Name) → PacketEvent
  -- the manager drops what waits at it, as where it begins to undo
  Clears : PacketEvent
  -- another manager, at which nothing waits, takes the manager's place
  PacketResumes : PacketEvent

-- the assemblies with one of them changed
abbrev pub set_at : Name → List SentPacket → (Name → List SentPacket) → Name → List SentPacket
set_at name taken assemblies other = if is_name other name then taken else assemblies other

-- The port hears a request that is complete, under the number in its first packet. The reply belongs to `request`, since a packet of that
-- request's frame completed the message.
abbrev pub whole_comes : Rules → List ℕ → ℕ → Step → BusState → BusState
whole_comes rules answer request Waits state = state
whole_comes rules answer request Drops state = state
whole_comes rules answer request (Whole ss) state = hears rules request (record { request = request_of rules (first_request request ss) (message_of ss); reply = answer }) state

-- a reply that is complete at the manager, under the number of its last packet's frame
abbrev pub whole_returns : Rules → ℕ → Step → BusState → BusState
whole_returns rules number Waits state = state
whole_returns rules number Drops state = state
whole_returns rules number (Whole ss) state = takes_if (taken_content rules (Reply number (Some (message_of ss))) state) state

-- the request that another's packet completes: a whole message under a tag of its source's own, if that is a request
abbrev pub other_request : Name → Step → Option Request
other_request name Waits = None
other_request name Drops = None
other_request name (Whole ss) = if name.owner then request_in name.source (message_of ss) else None

-- the port hears a request of another, if there is one; control messages, other types and malformed requests take no window
abbrev pub hears_other : Rules → List ℕ → Option Request → BusState → BusState
hears_other rules answer None state = state
hears_other rules answer (Some request) state = happens rules state (OtherAsks request answer)

-- the port takes a packet of this request, if there is such a packet
abbrev pub port_takes : PacketBus → List ℕ → ℕ → ℕ → Option Packet → BusEnds → BusEnds
port_takes bus answer request idles None ends = ends
port_takes bus answer request idles (Some packet) ends =
    let taken = takes (ends.port (request_name bus request)) (record { request = request; idles = idles; packet = packet }) in
    record ends { bus = whole_comes (rules_of bus) answer request taken.0 ends.bus; port = set_at (request_name bus request) taken.1 ends.port }

-- the manager looks only at packets under the open request's tag
abbrev pub is_awaited : PacketBus → ℕ → BusState → Bool
is_awaited bus request state = is_open state && (tag_of bus.first request == tag_of bus.first (length state.taken))

-- the manager takes a packet of a reply to this request, if there is such a packet
abbrev pub manager_takes : PacketBus → ℕ → ℕ → ℕ → Option Packet → BusEnds → BusEnds
manager_takes bus number request idles None ends = ends
manager_takes bus number request idles (Some packet) ends =
    let taken = takes (ends.manager (reply_name bus request)) (record { request = request; idles = idles; packet = packet }) in
    record ends { bus = whole_returns (rules_of bus) number taken.0 ends.bus; manager = set_at (reply_name bus request) taken.1 ends.manager }

-- the port takes a packet of another requester
abbrev pub other_takes : PacketBus → Name → Packet → List ℕ → BusEnds → BusEnds
other_takes bus name packet answer ends =
    let taken = takes (ends.port name) (record { request = 0; idles = 0; packet = packet }) in
    record ends { bus = hears_other (rules_of bus) answer (other_request name taken.0) ends.bus; port = set_at name taken.1 ends.port }

-- the manager takes a packet of another only under the open request's reply's name
abbrev pub other_returns : PacketBus → Name → Packet → ℕ → BusEnds → BusEnds
other_returns bus name packet number ends =
    if is_open ends.bus && is_name name (reply_name bus (length ends.bus.taken)) then manager_takes bus number (length ends.bus.taken) 0 (Some packet) ends else ends

-- a packet of this content comes to the port, which ignores packets of anything but a request
abbrev pub packet_comes : PacketBus → List ℕ → ℕ → ℕ → ℕ → Content → BusEnds → BusEnds
packet_comes bus answer place request idles (Ask bytes) ends = port_takes bus answer request idles (slice_get (bus.split bytes) place) ends
packet_comes bus answer place request idles (Reply number reply) ends = ends

-- a busy reply is a single packet, a start, so what waited is closed, and it counts as no reply
abbrev pub packet_returns : PacketBus → ℕ → ℕ → ℕ → Content → BusEnds → BusEnds
packet_returns bus place request idles (Ask bytes) ends = ends
packet_returns bus place request idles (Reply number None) ends =
    if is_awaited bus request ends.bus then record ends { manager = set_at (reply_name bus request) [] ends.manager } else ends
packet_returns bus place request idles (Reply number (Some reply)) ends =
    if is_awaited bus request ends.bus then manager_takes bus number request idles (slice_get (bus.split reply) place) ends else ends

-- a packet of a frame comes to the port, if there is such a frame
abbrev pub packet_at_port : PacketBus → List ℕ → ℕ → Option Frame → BusEnds → BusEnds
packet_at_port bus answer place None ends = ends
packet_at_port bus answer place (Some frame) ends = packet_comes bus answer place frame.request frame.idles frame.content ends

-- a packet of a frame comes to the manager, if there is such a frame
abbrev pub packet_at_manager : PacketBus → ℕ → Option Frame → BusEnds → BusEnds
packet_at_manager bus place None ends = ends
packet_at_manager bus place (Some frame) ends = packet_returns bus place frame.request frame.idles frame.content ends

-- both ends after an event
abbrev pub packet_happens : PacketBus → BusEnds → PacketEvent → BusEnds
packet_happens bus ends (Plain event) = record ends { bus = happens (rules_of bus) ends.bus event }
packet_happens bus ends (PacketReachesPort which place answer) = packet_at_port bus answer place (slice_get ends.bus.frames which) ends
packet_happens bus ends (PacketReachesManager which place) = packet_at_manager bus place (slice_get ends.bus.frames which) ends
packet_happens bus ends (OtherPacket name packet answer) = other_takes bus name packet answer ends
packet_happens bus ends (OtherReplyPacket name packet number) = other_returns bus name packet number ends
packet_happens bus ends (Closes name) = record ends { port = set_at name [] ends.port }
packet_happens bus ends Clears = record ends { manager = λ name. [] }
packet_happens bus ends PacketResumes = record ends { bus = happens (rules_of bus) ends.bus Resumes; manager = λ name. [] }

-- both ends after a schedule, event by event
abbrev pub packet_run : PacketBus → List PacketEvent → BusEnds → BusEnds
packet_run bus [] ends = ends
packet_run bus (event ∷ events) ends = packet_run bus events (packet_happens bus ends event)

-- no packet waits
abbrev pub opening_ends : List Entry → BusEnds
opening_ends before = record { bus = opening before; port = λ name. []; manager = λ name. [] }
