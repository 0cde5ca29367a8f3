-- Why a greeting in packets needs one request under each tag: what waits at the port under another tag stays.
use Rattle.std.specs.Prelude.{◌≡◌, ℕ, ◌+◌, ◌%◌, true, List, [], ◌∷◌, map, Some, slice_get}
use Rattle.model_bus.specs.BusState.{Begins, request_of, opening}
use Rattle.model_bus.specs.Assembly.{SentPacket, Whole, takes}
use Rattle.model_bus.specs.PacketBus.{rules_of, BusEnds, PacketEvent, Plain, PacketReachesPort, OtherPacket, packet_run, opening_ends}
use Rattle.model_bus.specs.PacketExample.{long, mixed, example_bus}

-- a message of one packet is whole, and nothing waits behind it under its name, whatever waited before
abbrev pub SinglesClear : Type 0
SinglesClear = (taken : List SentPacket) (sent : SentPacket) → sent.packet.first ≡ true → sent.packet.last ≡ true → sent.packet.sequence ≡ 0 → takes taken sent ≡ (Whole (sent ∷ []), [])

-- a run that ended when the first packet of its request 0 had come
abbrev pub cut_off : BusEnds
cut_off = packet_run (example_bus 0) (Plain (Begins (long 0)) ∷ PacketReachesPort 0 0 [] ∷ []) (opening_ends [])

-- a request of one packet in the manager's name, under this instance and its tag
abbrev pub single : ℕ → PacketEvent
single instance =
    OtherPacket (record { source = 8; owner = true; tag = instance % 8 }) (record { first = true; last = true; sequence = 0; payload = 1 ∷ (128 + instance) ∷ 0 ∷ 3 ∷ 9 ∷ [] }) (instance ∷ [])

-- Another run after such requests. The first packet of its request 0 is lost, and the second comes.
abbrev pub run_after : List ℕ → BusEnds
run_after instances =
    let greeted = packet_run (example_bus 0) (map single instances) cut_off in
    packet_run (example_bus 0) (Plain (Begins (long 88)) ∷ PacketReachesPort 0 1 (long 80) ∷ []) (record greeted { bus = opening greeted.bus.log; manager = λ name. [] })

-- After the greetings 15 and 31 alone the controller carries out the beginning of the one and the end of the other. After those
-- and 24 to 30 between them, one under each tag, it carries nothing out.
abbrev pub EachTagIsNeeded : Type 0
EachTagIsNeeded =
    (slice_get (run_after (15 ∷ 31 ∷ [])).bus.carried 0 ≡ Some (record { request = request_of (rules_of (example_bus 0)) 0 mixed; reply = long 80 }))
    × ((run_after (15 ∷ 24 ∷ 25 ∷ 26 ∷ 27 ∷ 28 ∷ 29 ∷ 30 ∷ 31 ∷ [])).bus.carried ≡ [])
    × ((run_after (16 ∷ 17 ∷ 18 ∷ 19 ∷ 20 ∷ 21 ∷ 22 ∷ 23 ∷ [])).bus.carried ≡ [])
