-- The two buses are lines.
use Rattle.std.proofs.Common.{ℕ, List, lit≤}
use Rattle.two_wire.specs.declared.Bus.{Bus}
use Rattle.two_wire.specs.declared.Bus.TheVariants.{Ipmb, Smbus}
use Rattle.model_bus.specs.Numbering.{ipmb, smbus}
use Rattle.model_bus.specs.Packet.{Packet, IsCutting}
use Rattle.model_bus.proofs.NumberLaws.{ipmb_numbers, smbus_numbers}
use Rattle.model_bus.specs.Addresses.{Addresses}
use Rattle.model_undo.specs.Line.{Line}
use Rattle.model_undo.specs.Delivery.{Delivery}
use Rattle.model_undo.specs.TwoBuses.{in_messages, with_packets, messages_come, packets_come, OverBothBuses, DeliveredOverBothBuses, HoweverSent}
use Rattle.model_undo.proofs.LineLaws.{IsLine, whole_is_line, packets_are_line}
use Rattle.model_undo.proofs.Delivery.{LosesNothing, messages_lose_nothing}
use Rattle.model_undo.proofs.PacketDelivery.{packets_lose_nothing}

unfoldable pub message_lines : (at : Bus → Addresses) (bus : Bus) → IsLine (in_messages at bus)
message_lines at Ipmb = whole_is_line (ipmb (at Ipmb).manager (at Ipmb).controller 0) (ipmb_numbers (at Ipmb).manager (at Ipmb).controller 0)
message_lines at Smbus = whole_is_line (smbus (at Smbus).manager (at Smbus).controller 0) (smbus_numbers (at Smbus).manager (at Smbus).controller 0)

unfoldable pub packet_lines : (at : Bus → Addresses) (split : List ℕ → List Packet) → IsCutting split → (bus : Bus) → IsLine (with_packets at split bus)
packet_lines at split cutting Ipmb = whole_is_line (ipmb (at Ipmb).manager (at Ipmb).controller 0) (ipmb_numbers (at Ipmb).manager (at Ipmb).controller 0)
packet_lines at split cutting Smbus = packets_are_line (record { manager = (at Smbus).manager; controller = (at Smbus).controller; first = 0; split = split }) cutting

pub message_lines_lose_nothing : (at : Bus → Addresses) (bus : Bus) → LosesNothing (in_messages at bus) (messages_come at bus) (message_lines at bus)
unfolding message_lines
message_lines_lose_nothing at Ipmb = messages_lose_nothing (ipmb (at Ipmb).manager (at Ipmb).controller 0) (ipmb_numbers (at Ipmb).manager (at Ipmb).controller 0) (lit≤ tt)
message_lines_lose_nothing at Smbus = messages_lose_nothing (smbus (at Smbus).manager (at Smbus).controller 0) (smbus_numbers (at Smbus).manager (at Smbus).controller 0) (lit≤ tt)

pub packet_lines_lose_nothing : (at : Bus → Addresses) (split : List ℕ → List Packet) (cutting : IsCutting split) (bus : Bus) → LosesNothing (with_packets at split bus) (packets_come at split bus) (packet_lines at split cutting bus)
unfolding packet_lines
packet_lines_lose_nothing at split cutting Ipmb = messages_lose_nothing (ipmb (at Ipmb).manager (at Ipmb).controller 0) (ipmb_numbers (at Ipmb).manager (at Ipmb).controller 0) (lit≤ tt)
packet_lines_lose_nothing at split cutting Smbus = packets_lose_nothing (record { manager = (at Smbus).manager; controller = (at Smbus).controller; first = 0; split = split }) cutting

-- what holds of any two lines holds over both buses
pub over_both_buses : (at : Bus → Addresses) (Holds : (Bus → Line) → Type 0) → ((L : Bus → Line) → ((bus : Bus) → IsLine (L bus)) → Holds L) → OverBothBuses at Holds
over_both_buses at Holds holds = (holds (in_messages at) (message_lines at), λ split cutting. holds (with_packets at split) (packet_lines at split cutting))

-- so does what holds of any two that lose nothing
pub delivered_over_both_buses : (at : Bus → Addresses) (Holds : (L : Bus → Line) → ((bus : Bus) → Delivery (L bus)) → Type 0)
    → ((L : Bus → Line) (lines : (bus : Bus) → IsLine (L bus)) (come : (bus : Bus) → Delivery (L bus)) → ((bus : Bus) → LosesNothing (L bus) (come bus) (lines bus)) → Holds L come)
    → DeliveredOverBothBuses at Holds
delivered_over_both_buses at Holds holds = (
  holds (in_messages at) (message_lines at) (messages_come at) (message_lines_lose_nothing at),
  λ split cutting. holds (with_packets at split) (packet_lines at split cutting) (packets_come at split) (packet_lines_lose_nothing at split cutting),
)

-- what holds of any two holds however messages are sent
pub however_sent : (at : Bus → Addresses) (Holds : (Bus → Line) → Type 0) → ((L : Bus → Line) → Holds L) → HoweverSent at Holds
however_sent at Holds holds = (holds (in_messages at), λ split. holds (with_packets at split))
