-- Schedules of packets that compute: an honest one that is hard on every rule, and one that shows why joins need a premise.
use Rattle.std.specs.Prelude.{◌≡◌, ℕ, zero, suc, ◌+◌, true, false, List, [], ◌∷◌, ◌++◌, length, replicate, map, Some, None, slice_get}
use Rattle.std.specs.List.{list_any}
use Rattle.std.specs.Str.{bytes_eq}
use Rattle.model_bus.specs.BusState.{Content, Reply, Begins, SendsAgain, IsIdle, request_of}
use Rattle.model_bus.specs.Example.{others}
use Rattle.model_bus.specs.Packet.{packets_of}
use Rattle.model_bus.specs.PacketBus.{PacketBus, rules_of, PacketEvent, Plain, PacketReachesPort, PacketReachesManager, OtherPacket, OtherReplyPacket, PacketResumes, packet_run, opening_ends}
use Rattle.model_bus.specs.PacketSchedule.{AnyJoin, LiveWhereJoined, AllPacketHonest}

-- a message of two packets
abbrev pub long : ℕ → List ℕ
long n = replicate 70 n

-- a manager whose requests count from `first`
abbrev pub example_bus : ℕ → PacketBus
example_bus first = record { manager = 8; controller = 10; first = first; split = packets_of }

-- both packets of a frame reach the port
abbrev pub both_reach_port : ℕ → ℕ → List PacketEvent
both_reach_port which answer = PacketReachesPort which 0 [] ∷ PacketReachesPort which 1 (long answer) ∷ []

-- both packets of a frame reach the manager
abbrev pub both_reach_manager : ℕ → List PacketEvent
both_reach_manager which = PacketReachesManager which 0 ∷ PacketReachesManager which 1 ∷ []

-- so many requests, each begun, carried and answered at once; the first one's frame has this place
abbrev pub packet_rounds : ℕ → ℕ → List PacketEvent
packet_rounds zero frame = []
packet_rounds (suc n) frame = Plain (Begins (long n)) ∷ both_reach_port frame n ++ both_reach_manager (frame + 1) ++ packet_rounds n (frame + 2)

-- a start of another requester under the same tag, which is an assembly of its own
abbrev pub other_start : PacketEvent
other_start = OtherPacket (record { source = 5; owner = true; tag = 4 }) (record { first = true; last = false; sequence = 0; payload = replicate 64 5 }) []

-- a reply of another to the manager, under the second request's tag and number
abbrev pub other_reply : PacketEvent
other_reply = OtherReplyPacket (record { source = 5; owner = false; tag = 5 }) (record { first = true; last = true; sequence = 0; payload = 99 ∷ [] }) 29

-- Eight others hold all windows, so the first request finds the port busy (frame 1). One of them becomes idle. Of frame 2
-- the end is lost, and frame 3's takes its place. The reply, frame 4, is delayed. Frame 5 is a repeat, and of its reply,
-- frame 6, the end comes first and is dropped. The delayed reply and another's reply come while the second request is
-- open, and aren't taken. Another manager takes over. After seven newer requests the first one's frame comes again, is
-- answered by frame 21, and after an idle of the manager there is one more request.
abbrev pub packet_example : List PacketEvent
packet_example =
    map Plain (others 8) ++ Plain (Begins (long 7)) ∷ both_reach_port 0 70 ++ PacketReachesManager 1 0
    ∷ Plain (IsIdle 3) ∷ Plain SendsAgain ∷ PacketReachesPort 2 0 [] ∷ other_start ∷ Plain SendsAgain ∷ PacketReachesPort 3 1 (long 71)
    ∷ Plain SendsAgain ∷ both_reach_port 5 72 ++ PacketReachesManager 6 1 ∷ both_reach_manager 6
    ++ Plain (Begins (long 31)) ∷ both_reach_manager 4 ++ other_reply ∷ both_reach_port 7 31 ++ both_reach_manager 4 ++ both_reach_manager 8
    ++ PacketResumes ∷ packet_rounds 6 9 ++ both_reach_port 3 73 ++ Plain (IsIdle 8) ∷ [] ++ packet_rounds 1 22

-- it is honest, and each of so many requests was carried out and its reply taken
pub record PacketsEndAnswered (b : PacketBus) (events : List PacketEvent) (requests : ℕ) : Type 0 where
  pub honest : AllPacketHonest LiveWhereJoined b events (opening_ends [])
  pub begun : length (packet_run b events (opening_ends [])).bus.begun ≡ requests
  pub carried : length (packet_run b events (opening_ends [])).bus.carried ≡ requests
  pub taken : length (packet_run b events (opening_ends [])).bus.taken ≡ requests

-- what a frame held
abbrev pub PacketHeld : PacketBus → List PacketEvent → ℕ → ℕ → Content → Type 0
PacketHeld b events which request content =
    slice_get (packet_run b events (opening_ends [])).bus.frames which ≡ Some (record { request = request; idles = 0; content = content })

-- the busy answer, the kept replies to the repeats, the second after the newer requests, and the replies taken first
pub record PacketsShowRepeats (b : PacketBus) (events : List PacketEvent) : Type 0 where
  pub busy : PacketHeld b events 1 0 (Reply ((rules_of b).number_of 0) None)
  pub repeated : PacketHeld b events 6 0 (Reply ((rules_of b).number_of 0) (Some (long 71)))
  pub late_repeated : PacketHeld b events 21 0 (Reply ((rules_of b).number_of 0) (Some (long 71)))
  pub first_taken : slice_get (packet_run b events (opening_ends [])).bus.taken 0 ≡ Some (long 71)
  pub second_taken : slice_get (packet_run b events (opening_ends [])).bus.taken 1 ≡ Some (long 31)

-- Request 0 is answered, and a late copy of its first packet opens an assembly again. Seven more requests go by, each under
-- a tag of its own. Request 8 has request 0's tag; its first packet is lost, and its second comes.
abbrev pub stale_assembly : List PacketEvent
stale_assembly = packet_rounds 1 0 ++ PacketReachesPort 0 0 [] ∷ packet_rounds 7 2 ++ Plain (Begins (long 88)) ∷ PacketReachesPort 16 1 (long 80) ∷ []

-- the beginning of the one and the end of the other
abbrev pub mixed : List ℕ
mixed = replicate 64 0 ++ replicate 6 88

-- each packet was of a live frame, and a message was carried out that nobody sent, under the number in its first packet
pub record CarriesWhatNobodySent (b : PacketBus) (events : List PacketEvent) : Type 0 where
  pub live_frames : AllPacketHonest AnyJoin b events (opening_ends [])
  pub carried : slice_get (packet_run b events (opening_ends [])).bus.carried 8 ≡ Some (record { request = request_of (rules_of b) 0 mixed; reply = long 80 })
  pub never_sent : list_any (λ bytes. bytes_eq bytes mixed) (packet_run b events (opening_ends [])).bus.begun ≡ false
