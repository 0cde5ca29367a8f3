-- A line that loses nothing: each frame comes to its end once, as soon as it is sent.
use Rattle.std.specs.Prelude.{◌≡◌, ℕ, suc, ◌-◌, false, List, [], ◌∷◌, length, Option, Some, None, slice_get}
use Rattle.model_bus.specs.Numbering.{Rules}
use Rattle.model_bus.specs.Carried.{is_busy}
use Rattle.model_bus.specs.BusState.{BusState, Frame, Content, Ask, Reply, ReachesPort, ReachesManager}
use Rattle.model_bus.specs.Packet.{Packet, IsCut}
use Rattle.model_bus.specs.PacketBus.{PacketBus, PacketEvent, PacketReachesPort, PacketReachesManager}
use Rattle.model_undo.specs.Line.{Line, whole, packets}

-- the events that bring the newest frame to its end, whole and once
pub record Delivery (line : Line) : Type 1 where
  -- a request's frame to the port, where the board would answer so
  pub to_port : line.State → List ℕ → List line.Event
  -- a reply's frame to the manager
  pub to_manager : line.State → List line.Event
  -- the port has a window for the manager, or a place for one
  pub HasPlace : line.State → Type 0
  -- bytes that can be sent on the line
  pub CanSend : List ℕ → Type 0

-- the place of the newest frame
abbrev pub newest : BusState → ℕ
newest state = length state.frames - 1

-- in whole messages a frame comes in one event, and has any bytes
abbrev pub by_message : (rules : Rules) → Delivery (whole rules)
by_message rules = record {
  to_port = λ state answer. ReachesPort (newest state) answer ∷ [];
  to_manager = λ state. ReachesManager (newest state) ∷ [];
  HasPlace = λ state. is_busy rules.manager state.log ≡ false;
  CanSend = λ bytes. Unit {0};
}

-- the packets of a frame; a frame which says that the port is busy counts as none
abbrev pub packets_of_content : PacketBus → Content → List Packet
packets_of_content bus (Ask bytes) = bus.split bytes
packets_of_content bus (Reply number None) = []
packets_of_content bus (Reply number (Some reply)) = bus.split reply

abbrev pub packets_of_frame : PacketBus → Option Frame → List Packet
packets_of_frame bus None = []
packets_of_frame bus (Some frame) = packets_of_content bus frame.content

-- an event for each packet, by its place
abbrev pub each_place : (ℕ → PacketEvent) → ℕ → List Packet → List PacketEvent
each_place event place [] = []
each_place event place (packet ∷ packets) = event place ∷ each_place event (suc place) packets

-- in packets a frame comes packet by packet, in order; its message can be sent where it can be cut
abbrev pub by_packets : (bus : PacketBus) → Delivery (packets bus)
by_packets bus = record {
  to_port = λ ends answer. each_place (λ place. PacketReachesPort (newest ends.bus) place answer) 0
      (packets_of_frame bus (slice_get ends.bus.frames (newest ends.bus)));
  to_manager = λ ends. each_place (λ place. PacketReachesManager (newest ends.bus) place) 0
      (packets_of_frame bus (slice_get ends.bus.frames (newest ends.bus)));
  HasPlace = λ ends. is_busy bus.manager ends.bus.log ≡ false;
  CanSend = λ bytes. IsCut (bus.split bytes) bytes;
}
