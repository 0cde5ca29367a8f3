-- A bus as a manager sees it: what can happen on the bus, and what each event does to the manager's requests.
use Rattle.std.specs.Prelude.{ℕ, Bool, true, false, List, Option, Some, None, slice_get}
use Rattle.model_bus.specs.Numbering.{Rules}
use Rattle.model_bus.specs.BusState.{BusState, Frame, Event, Begins, SendsAgain, ReachesPort, ReachesManager, OtherReplies, Resumes, carried_now, taken_now, happens}
use Rattle.model_bus.specs.Schedule.{IsHonest}
use Rattle.model_bus.specs.Start.{NothingUnderWay, FreshWindow, NothingWaits}
use Rattle.model_bus.specs.PacketBus.{PacketBus, rules_of, BusEnds, PacketEvent, Plain, PacketReachesPort, PacketReachesManager, OtherReplyPacket, Clears, PacketResumes, packet_happens}
use Rattle.model_bus.specs.PacketEffect.{completed_request, completed_reply, carried_of, taken_of}
use Rattle.model_bus.specs.PacketSchedule.{RecentWhereWhole, IsPacketHonest}

-- a request that is carried out, and the reply that is kept for it
pub record Exchange : Type 0 where
  pub bytes : List ℕ
  pub reply : List ℕ

pub record Line : Type 1 where
  pub State : Type 0
  pub Event : Type 0
  -- the manager's requests
  pub requests : State → BusState
  -- nothing is under way at this moment
  pub IsStart : State → Type 0
  -- the bus after the event, and whether the event is honest there
  pub happens : State → Event → State
  pub IsHonest : State → Event → Type 0
  -- what the manager does: it begins a request, sends the open request again, or gives its place to another manager
  pub begins : List ℕ → Event
  pub sends_again : Event
  pub resumes : Event
  -- the manager's process ends, and is made again: of the bus it keeps nothing
  pub restarts : State → State
  -- the event is none of these
  pub IsOutside : Event → Type 0
  -- something comes to the manager's end
  pub is_to_manager : Event → Bool
  -- the manager's request that the event has carried out, if it has one
  pub carries : State → Event → Option Exchange
  -- the reply that the event brings the manager, if it brings one whole
  pub brings : State → Event → Option (List ℕ)

-- the exchange of the request that is carried out, if any, with this answer
abbrev pub exchange : Option (List ℕ) → List ℕ → Option Exchange
exchange None reply = None
exchange (Some bytes) reply = Some (record { bytes = bytes; reply = reply })

-- ---- whole messages

abbrev pub IsOutsideWhole : Event → Type 0
IsOutsideWhole (Begins bytes) = ⊥
IsOutsideWhole SendsAgain = ⊥
IsOutsideWhole Resumes = ⊥
IsOutsideWhole _ = Unit {0}

abbrev pub is_to_manager_whole : Event → Bool
is_to_manager_whole (ReachesManager which) = true
is_to_manager_whole (OtherReplies source number reply) = true
is_to_manager_whole _ = false

abbrev pub carries_whole : Rules → BusState → Event → Option Exchange
carries_whole rules state (ReachesPort which answer) = exchange (carried_now rules (slice_get state.frames which) state) answer
carries_whole rules state _ = None

abbrev pub brings_whole : Rules → BusState → Event → Option (List ℕ)
brings_whole rules state (ReachesManager which) = taken_now rules (slice_get state.frames which) state
brings_whole rules state _ = None

-- a bus in whole messages
abbrev pub whole : Rules → Line
whole rules = record {
  State = BusState;
  Event = Event;
  requests = λ state. state;
  IsStart = λ state. NothingUnderWay state × FreshWindow rules state.log;
  happens = happens rules;
  IsHonest = IsHonest rules;
  begins = Begins;
  sends_again = SendsAgain;
  resumes = Resumes;
  restarts = λ state. state;
  IsOutside = IsOutsideWhole;
  is_to_manager = is_to_manager_whole;
  carries = carries_whole rules;
  brings = brings_whole rules;
}

-- ---- packets

abbrev pub IsOutsidePackets : PacketEvent → Type 0
IsOutsidePackets (Plain event) = IsOutsideWhole event
IsOutsidePackets PacketResumes = ⊥
IsOutsidePackets _ = Unit {0}

abbrev pub is_to_manager_packets : PacketEvent → Bool
is_to_manager_packets (Plain event) = is_to_manager_whole event
is_to_manager_packets (PacketReachesManager which place) = true
is_to_manager_packets (OtherReplyPacket name packet number) = true
is_to_manager_packets _ = false

-- the request that a packet of the frame has carried out, if there is such a frame
abbrev pub carried_at : PacketBus → BusEnds → ℕ → Option Frame → Option (List ℕ)
carried_at bus ends place None = None
carried_at bus ends place (Some frame) = carried_of (rules_of bus) (completed_request bus ends place frame.request frame.idles frame.content) ends.bus

abbrev pub carries_packets : PacketBus → BusEnds → PacketEvent → Option Exchange
carries_packets bus ends (PacketReachesPort which place answer) = exchange (carried_at bus ends place (slice_get ends.bus.frames which)) answer
carries_packets bus ends _ = None

-- the reply that a packet of the frame completes, if there is such a frame
abbrev pub brought_at : PacketBus → BusEnds → ℕ → Option Frame → Option (List ℕ)
brought_at bus ends place None = None
brought_at bus ends place (Some frame) = taken_of (rules_of bus) (completed_reply bus ends place frame.request frame.idles frame.content) ends.bus

abbrev pub brings_packets : PacketBus → BusEnds → PacketEvent → Option (List ℕ)
brings_packets bus ends (PacketReachesManager which place) = brought_at bus ends place (slice_get ends.bus.frames which)
brings_packets bus ends _ = None

-- A bus in packets. The packets of a message that becomes whole at the port must be of recent requests alone. No premise on packets that wait asks
-- less. A restart drops what waits at the manager.
abbrev pub packets : PacketBus → Line
packets bus = record {
  State = BusEnds;
  Event = PacketEvent;
  requests = λ ends. ends.bus;
  IsStart = λ ends. NothingUnderWay ends.bus × NothingWaits bus ends × FreshWindow (rules_of bus) ends.bus.log;
  happens = packet_happens bus;
  IsHonest = IsPacketHonest RecentWhereWhole bus;
  begins = λ bytes. Plain (Begins bytes);
  sends_again = Plain SendsAgain;
  resumes = PacketResumes;
  restarts = λ ends. packet_happens bus ends Clears;
  IsOutside = IsOutsidePackets;
  is_to_manager = is_to_manager_packets;
  carries = carries_packets bus;
  brings = brings_packets bus;
}
