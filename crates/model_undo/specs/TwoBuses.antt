-- The two buses between a manager and a controller: IPMB in whole messages, SMBus in whole messages or in packets.
use Rattle.std.specs.Prelude.{ℕ, List}
use Rattle.two_wire.specs.declared.Bus.{Bus}
use Rattle.two_wire.specs.declared.Bus.TheVariants.{Ipmb, Smbus}
use Rattle.model_bus.specs.Addresses.{Addresses}
use Rattle.model_bus.specs.Numbering.{ipmb, smbus}
use Rattle.model_bus.specs.Packet.{Packet, IsCutting}
use Rattle.model_undo.specs.Line.{Line, whole, packets}
use Rattle.model_undo.specs.Delivery.{Delivery, by_message, by_packets}

-- both buses in whole messages
abbrev pub in_messages : (Bus → Addresses) → Bus → Line
in_messages at Ipmb = whole (ipmb (at Ipmb).manager (at Ipmb).controller 0)
in_messages at Smbus = whole (smbus (at Smbus).manager (at Smbus).controller 0)

-- SMBus in packets, for a way to cut messages
abbrev pub with_packets : (Bus → Addresses) → (List ℕ → List Packet) → Bus → Line
with_packets at split Ipmb = whole (ipmb (at Ipmb).manager (at Ipmb).controller 0)
with_packets at split Smbus = packets (record { manager = (at Smbus).manager; controller = (at Smbus).controller; first = 0; split = split })

-- in whole messages both buses bring a frame to its end in one event
abbrev pub messages_come : (at : Bus → Addresses) (bus : Bus) → Delivery (in_messages at bus)
messages_come at Ipmb = by_message (ipmb (at Ipmb).manager (at Ipmb).controller 0)
messages_come at Smbus = by_message (smbus (at Smbus).manager (at Smbus).controller 0)

-- in packets those on SMBus come one after another
abbrev pub packets_come : (at : Bus → Addresses) (split : List ℕ → List Packet) (bus : Bus) → Delivery (with_packets at split bus)
packets_come at split Ipmb = by_message (ipmb (at Ipmb).manager (at Ipmb).controller 0)
packets_come at split Smbus = by_packets (record { manager = (at Smbus).manager; controller = (at Smbus).controller; first = 0; split = split })

-- this holds of the lines of both buses: in whole messages, and in packets, cut in any way that a receiver can join
abbrev pub OverBothBuses : (at : Bus → Addresses) → (Holds : (Bus → Line) → Type 0) → Type 0
OverBothBuses at Holds = Holds (in_messages at) × ((split : List ℕ → List Packet) → IsCutting split → Holds (with_packets at split))

-- this holds of the lines of both buses and of how each brings a frame to its end, likewise
abbrev pub DeliveredOverBothBuses : (at : Bus → Addresses)
    → (Holds : (lines : Bus → Line) → ((bus : Bus) → Delivery (lines bus)) → Type 0) → Type 0
DeliveredOverBothBuses at Holds = Holds (in_messages at) (messages_come at)
    × ((split : List ℕ → List Packet) → IsCutting split → Holds (with_packets at split) (packets_come at split))

-- this holds of the lines of both buses: in whole messages, and in packets, whatever is sent of a message
abbrev pub HoweverSent : (at : Bus → Addresses) → (Holds : (Bus → Line) → Type 0) → Type 0
HoweverSent at Holds = Holds (in_messages at) × ((split : List ℕ → List Packet) → Holds (with_packets at split))
