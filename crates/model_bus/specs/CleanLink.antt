-- What a link without loss gives: the open request is carried out, its reply is taken, and packets in order are the message.
use Rattle.std.specs.Prelude.{◌≡◌, ℕ, true, false, List, [], ◌∷◌, length, map, Some, None, slice_get}
use Rattle.model_bus.specs.Carried.{is_busy}
use Rattle.model_bus.specs.Numbering.{Rules}
use Rattle.model_bus.specs.BusState.{BusState, Frame, Ask, Reply, Event, is_open, carried_now, taken_now, run}
use Rattle.model_bus.specs.Schedule.{AllHonest}
use Rattle.model_bus.specs.Start.{NothingUnderWay, FreshWindow, NothingWaits}
use Rattle.model_bus.specs.Effect.{IsKeptFor}
use Rattle.model_bus.specs.Packet.{Packet, IsCut, IsCutting}
use Rattle.model_bus.specs.Assembly.{SentPacket, Waits, Whole, takes, message_of}
use Rattle.model_bus.specs.PacketBus.{PacketBus, rules_of, BusEnds, PacketEvent, packet_run}
use Rattle.model_bus.specs.PacketSchedule.{JoinRule, AllPacketHonest}

-- what becomes of the open request's frames
pub record GoesThrough (rules : Rules) (state : BusState) : Type 0 where
  -- where it isn't carried out yet, and the controller isn't busy, any frame of it that comes is carried out
  pub carried : (which : ℕ) (frame : Frame) (bytes : List ℕ) → slice_get state.frames which ≡ Some frame → frame.request ≡ length state.taken → frame.content ≡ Ask bytes
      → slice_get state.carried (length state.taken) ≡ None → is_busy rules.manager state.log ≡ false → carried_now rules (Some frame) state ≡ Some bytes
  -- any frame with a reply to it holds the one that is kept, and where it comes, that is taken
  pub answered : (which : ℕ) (frame : Frame) (number : ℕ) (reply : List ℕ) → slice_get state.frames which ≡ Some frame → frame.request ≡ length state.taken → frame.content ≡ Reply number (Some reply)
      → is_open state ≡ true → IsKeptFor state.carried (length state.taken) reply × (taken_now rules (Some frame) state ≡ Some reply)

-- so it is at every event of every honest schedule from a start
abbrev pub OpenGoesThrough : Rules → Type 0
OpenGoesThrough rules = (start : BusState) (events : List Event) → NothingUnderWay start → FreshWindow rules start.log
    → AllHonest rules events start → GoesThrough rules (run rules events start)

-- and in packets, by the rule
abbrev pub OpenGoesThroughInPackets : JoinRule → Type 0
OpenGoesThroughInPackets rule = (bus : PacketBus) → IsCutting bus.split → (start : BusEnds) (events : List PacketEvent)
    → NothingUnderWay start.bus → NothingWaits bus start → FreshWindow (rules_of bus) start.bus.log
    → AllPacketHonest rule bus events start → GoesThrough (rules_of bus) (packet_run bus events start).bus

-- packets as they are sent in a frame of this request
abbrev pub sent_in : ℕ → ℕ → List Packet → List SentPacket
sent_in request idles ps = map (λ (packet : Packet). record { request = request; idles = idles; packet = packet }) ps

-- packets that come one after another to what was taken: each waits, but the last, which completes these
abbrev pub CompletesMessage : List SentPacket → List SentPacket → List SentPacket → Type 0
CompletesMessage whole taken [] = ⊥
CompletesMessage whole taken (sent ∷ []) = takes taken sent ≡ (Whole whole, [])
CompletesMessage whole taken (sent ∷ sending ∷ sents) = ((takes taken sent).0 ≡ Waits) × CompletesMessage whole (takes taken sent).1 (sending ∷ sents)

-- the packets of a cut, one after another, are the message, whatever waited before
abbrev pub CutIsWhole : Type 0
CutIsWhole = (n idles : ℕ) (ps : List Packet) (bytes : List ℕ) (taken : List SentPacket) → IsCut ps bytes
    → CompletesMessage (sent_in n idles ps) taken (sent_in n idles ps) × (message_of (sent_in n idles ps) ≡ bytes)
