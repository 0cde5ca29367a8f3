-- Another manager in the place of one: it does what the bus says of it, by what it knows.
use Rattle.std.specs.Prelude.{◌≡◌, ℕ, ◌+◌, ◌%◌, false, List, [], ◌∷◌, ◌++◌, length, drop, slice_get}
use Rattle.two_wire.specs.Circles.{instances}
use Rattle.model_bus.specs.Numbering.{Rules, tag_of}
use Rattle.model_bus.specs.BusState.{BusState, Content, Event, Resumes, is_open, taken_content, run}
use Rattle.model_bus.specs.Schedule.{AllHonest}
use Rattle.model_bus.specs.Start.{NothingUnderWay, FreshWindow, NothingWaits}
use Rattle.model_bus.specs.Packet.{IsCutting}
use Rattle.model_bus.specs.PacketBus.{PacketBus, rules_of, BusEnds, PacketEvent, PacketResumes, reply_name, packet_run}
use Rattle.model_bus.specs.PacketSchedule.{JoinRule, AllPacketHonest}

-- the bus as the new manager knows it, where the old one left it so: of requests and replies only its own
abbrev pub known_since : BusState → BusState → BusState
known_since old state = record state { begun = drop (length old.begun) state.begun; taken = drop (length old.taken) state.taken }

-- A manager under the rules `own`, which knows this of the bus, does what the bus says of a manager: a request is open for it where one is open on the
-- bus, with the same bytes and number; its next request has the next number; and it takes the same replies.
pub record ActsAs (own : Rules) (known : BusState) (rules : Rules) (state : BusState) : Type 0 where
  pub opened : is_open known ≡ is_open state
  pub open_request : slice_get known.begun (length known.taken) ≡ slice_get state.begun (length state.taken)
  pub open_number : own.number_of (length known.taken) ≡ rules.number_of (length state.taken)
  pub next_number : own.number_of (length known.begun) ≡ rules.number_of (length state.begun)
  pub takes : (content : Content) → taken_content own content known ≡ taken_content rules content state

-- After every resume of an honest schedule the new manager acts so, and goes on doing so. Its requests count from the number that came next. `bus`
-- gives the rules by the count from which a manager's requests go on.
abbrev pub ResumedGoesOn : (ℕ → Rules) → Type 0
ResumedGoesOn bus = (first : ℕ) (start : BusState) (events later : List Event) → NothingUnderWay start → FreshWindow (bus first) start.log
    → AllHonest (bus first) (events ++ Resumes ∷ later) start
    → let old = run (bus first) events start in
    let later_state = run (bus first) later old in
    ActsAs (bus ((bus first).number_of (length old.begun))) (known_since old later_state) (bus first) later_state

-- the tags go on as well, from the instance that came next
abbrev pub TagsGoOn : Type 0
TagsGoOn = (first n later : ℕ) → tag_of ((first + n) % instances) later ≡ tag_of first (n + later)

-- the same in packets, by the rule
abbrev pub GoesOnInPackets : JoinRule → Type 0
GoesOnInPackets rule = (bus : PacketBus) → IsCutting bus.split → (start : BusEnds) (events later : List PacketEvent)
    → NothingUnderWay start.bus → NothingWaits bus start → FreshWindow (rules_of bus) start.bus.log
    → AllPacketHonest rule bus (events ++ PacketResumes ∷ later) start
    → let old = packet_run bus events start in
    let later_state = packet_run bus (PacketResumes ∷ later) old in
    let own : PacketBus = record bus { first = (rules_of bus).number_of (length old.bus.begun) } in
    ActsAs (rules_of own) (known_since old.bus later_state.bus) (rules_of bus) later_state.bus

-- while no request is open nothing waits at the manager, so a resume drops nothing
abbrev pub NothingWaitsWhereClosed : JoinRule → Type 0
NothingWaitsWhereClosed rule = (bus : PacketBus) → IsCutting bus.split → (start : BusEnds) (events : List PacketEvent)
    → NothingUnderWay start.bus → NothingWaits bus start → FreshWindow (rules_of bus) start.bus.log
    → AllPacketHonest rule bus events start → is_open (packet_run bus events start).bus ≡ false
    → (request : ℕ) → (packet_run bus events start).manager (reply_name bus request) ≡ []
