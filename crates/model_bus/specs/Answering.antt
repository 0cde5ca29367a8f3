-- The manager's test on bytes, and what the model takes by the number alone.
use Rattle.std.specs.Prelude.{◌≡◌, ℕ, true, false, List, length, Option, Some, None, if◌then◌else◌, slice_get}
use Rattle.two_wire.specs.declared.Bus.{Bus}
use Rattle.model_bus.specs.Request.{Kept}
use Rattle.model_bus.specs.Numbering.{Rules}
use Rattle.model_bus.specs.BusState.{BusState, Frame, Content, Ask, Reply, Event, taken_content, run}
use Rattle.model_bus.specs.Schedule.{IsLive, AllHonest}
use Rattle.model_bus.specs.Start.{NothingUnderWay, FreshWindow, NothingWaits}
use Rattle.model_bus.specs.Packet.{IsCutting}
use Rattle.model_bus.specs.PacketBus.{PacketBus, rules_of, BusEnds, PacketEvent, packet_run}
use Rattle.model_bus.specs.PacketSchedule.{JoinRule, AllPacketHonest}
use Rattle.model_bus.specs.Bytes.{is_busy_code, IsRequestOn, IsReplyOn, answers}

-- The bytes of the manager's requests are requests, each under its number. The bytes that the port keeps for them are replies to them, with other
-- codes than those of a busy port.
pub record AreWritten (on : Bus) (rules : Rules) (state : BusState) : Type 0 where
  pub requests : (request : ℕ) (bytes : List ℕ) → slice_get state.begun request ≡ Some bytes → IsRequestOn on (rules.number_of request) bytes
  pub replies : (request : ℕ) (kept : Kept) → slice_get state.carried request ≡ Some kept → (code : ℕ) × (is_busy_code code ≡ false) × IsReplyOn on code kept.request.bytes kept.reply

-- what the manager takes of content, where these are the open request's bytes: it looks at bytes alone
abbrev pub taken_by_test : Bus → List ℕ → Content → Option (List ℕ)
taken_by_test on opened (Ask bytes) = None
taken_by_test on opened (Reply number None) = None
taken_by_test on opened (Reply number (Some reply)) = if answers on opened reply then Some reply else None

-- of every live frame the test takes the reply that the model takes
abbrev pub TestsAgree : Bus → Rules → BusState → Type 0
TestsAgree on rules state = (which : ℕ) (frame : Frame) (opened : List ℕ) → slice_get state.frames which ≡ Some frame → IsLive rules state frame
    → slice_get state.begun (length state.taken) ≡ Some opened → taken_content rules frame.content state ≡ taken_by_test on opened frame.content

-- so it is at every event of every honest schedule from a start
abbrev pub TestIsModel : Bus → Rules → Type 0
TestIsModel on rules = (start : BusState) (events : List Event) → NothingUnderWay start → FreshWindow rules start.log
    → AllHonest rules events start → AreWritten on rules (run rules events start) → TestsAgree on rules (run rules events start)

-- so it is at every event of every schedule of packets that is honest by the rule
abbrev pub TestIsModelInPackets : Bus → JoinRule → Type 0
TestIsModelInPackets on rule = (bus : PacketBus) → IsCutting bus.split → (start : BusEnds) (events : List PacketEvent)
    → NothingUnderWay start.bus → NothingWaits bus start → FreshWindow (rules_of bus) start.bus.log
    → AllPacketHonest rule bus events start → AreWritten on (rules_of bus) (packet_run bus events start).bus → TestsAgree on (rules_of bus) (packet_run bus events start).bus

-- no reply with either code of a busy port passes the test, on either bus, whatever it answers
abbrev pub BusyFails : Bus → Type 0
BusyFails on = (code : ℕ) (opened request reply : List ℕ) → is_busy_code code ≡ true → IsReplyOn on code request reply → answers on opened reply ≡ false
