-- The runs compute: a test tells that each thing may happen where it does.
use Rattle.std.proofs.Common.{◌≡◌, suc, Bool, true, false, not, ◌&&◌, List, [], ◌∷◌, ◌++◌, Option, Some, None, refl}
use Rattle.std.specs.Prelude.{◌==◌}
use Rattle.std.specs.Str.{bytes_eq}
use Rattle.std.proofs.lemmas.Bool.{and_parts, and_from, eqb-true, false≢true, not-true}
use Rattle.std.proofs.lemmas.Slice.Eq.{bytes_eq-Decides}
use Rattle.two_wire.specs.declared.Bus.{Bus}
use Rattle.two_wire.specs.declared.Bus.TheVariants.{Ipmb, Smbus}
use Rattle.model_bus.specs.Numbering.{Rules, ipmb, smbus}
use Rattle.model_bus.specs.BusState.{BusState, Event, Begins, SendsAgain, ReachesPort, ReachesManager, OtherAsks, OtherReplies, IsIdle, Resumes}
use Rattle.model_bus.specs.Packet.{packets_of}
use Rattle.model_bus.specs.PacketBus.{PacketBus, BusEnds, PacketEvent, Plain, PacketReachesPort, PacketReachesManager, OtherPacket, OtherReplyPacket, Closes, Clears, PacketResumes}
use Rattle.model_bus.specs.PacketSchedule.{LiveWhereJoined}
use Rattle.model_bus.proofs.Decides.{is_honest, is_honest-tells}
use Rattle.model_bus.proofs.PacketDecides.{is_packet_honest, all_packet_honest-tells}
use Rattle.model_bus.proofs.PacketLaws.{event_implies, live_is_recent}
use Rattle.model_undo.specs.Wires.{Wires}
use Rattle.model_undo.specs.Line.{Exchange, Line, whole, packets, IsOutsideWhole, IsOutsidePackets}
use Rattle.model_undo.specs.World.{World, Happening, Calls, Resume, Restart, ToManager, OnBus, OnBench, BoardMay, MayHappen, AllMay, happens, opening}
use Rattle.model_undo.specs.Registers.{Halves, Asked, Board, answer, register_words, registers, wires}
use Rattle.model_undo.specs.Example.{EndsUndone, board, plan, messages, quiet_messages, by_message, mixed, quiet_mixed, long_wires, by_packet, run_and_undo, run_resume_undo, run_restart_undo, restarted_first, undo_of_first, HaltsThenUndone}

-- ---- an event is honest, and none of the manager's doing

abbrev is_outside : Event → Bool
is_outside (Begins bytes) = false
is_outside SendsAgain = false
is_outside Resumes = false
is_outside _ = true

outside_tells : (e : Event) → is_outside e ≡ true → IsOutsideWhole e
outside_tells (Begins bytes) t = absurd (false≢true t)
outside_tells SendsAgain t = absurd (false≢true t)
outside_tells (ReachesPort which answer) t = tt
outside_tells (ReachesManager which) t = tt
outside_tells (OtherAsks request answer) t = tt
outside_tells (OtherReplies source number reply) t = tt
outside_tells (IsIdle requester) t = tt
outside_tells Resumes t = absurd (false≢true t)

abbrev is_outside_packets : PacketEvent → Bool
is_outside_packets (Plain e) = is_outside e
is_outside_packets PacketResumes = false
is_outside_packets _ = true

outside_packets_tells : (e : PacketEvent) → is_outside_packets e ≡ true → IsOutsidePackets e
outside_packets_tells (Plain e) t = outside_tells e t
outside_packets_tells (PacketReachesPort which place answer) t = tt
outside_packets_tells (PacketReachesManager which place) t = tt
outside_packets_tells (OtherPacket name packet answer) t = tt
outside_packets_tells (OtherReplyPacket name packet number) t = tt
outside_packets_tells (Closes name) t = tt
outside_packets_tells Clears t = tt
outside_packets_tells PacketResumes t = absurd (false≢true t)

-- tests on both buses
record Tests (L : Bus → Line) : Type 0 where
  test : (bus : Bus) → (L bus).State → (L bus).Event → Bool
  tells : (bus : Bus) (s : (L bus).State) (e : (L bus).Event) → test bus s e ≡ true → (L bus).IsOutside e × (L bus).IsHonest s e

whole_tells : (b : Rules) (s : BusState) (e : Event) → (is_outside e && is_honest b s e) ≡ true → (whole b).IsOutside e × (whole b).IsHonest s e
whole_tells b s e t = let parts = and_parts _ _ t in (outside_tells e parts.0, is_honest-tells b s e parts.1)

packets_tell : (b : PacketBus) (x : BusEnds) (e : PacketEvent) → (is_outside_packets e && is_packet_honest false b x e) ≡ true → (packets b).IsOutside e × (packets b).IsHonest x e
packets_tell b x e t =
    let parts = and_parts _ _ t in
    (outside_packets_tells e parts.0, event_implies LiveWhereJoined live_is_recent b x e (all_packet_honest-tells false b (e ∷ []) x (and_from (is_packet_honest false b x e) true parts.1 refl)).0)

-- ---- boards

abbrev same_halves : List Halves → List Halves → Bool
same_halves [] [] = true
same_halves [] (y ∷ ys) = false
same_halves (x ∷ xs) [] = false
same_halves (x ∷ xs) (y ∷ ys) = ((x.low == y.low) && (x.high == y.high)) && same_halves xs ys

same_halves-tells : (xs ys : List Halves) → same_halves xs ys ≡ true → xs ≡ ys
same_halves-tells [] [] t = refl
same_halves-tells [] (y ∷ ys) t = absurd (false≢true t)
same_halves-tells (x ∷ xs) [] t = absurd (false≢true t)
same_halves-tells (x ∷ xs) (y ∷ ys) t =
    let parts = and_parts ((x.low == y.low) && (x.high == y.high)) (same_halves xs ys) t in
    let halves = and_parts (x.low == y.low) (x.high == y.high) parts.0 in
    let low : x.low ≡ y.low = eqb-true x.low y.low halves.0 in
    let high : x.high ≡ y.high = eqb-true x.high y.high halves.1 in
    let rest : xs ≡ ys = same_halves-tells xs ys parts.1 in
    λ i. record { low = low i; high = high i } ∷ rest i

abbrev same_board : Board → Board → Bool
same_board b c = same_halves b.registers c.registers && (b.requests == c.requests)

same_board-tells : (b c : Board) → same_board b c ≡ true → b ≡ c
same_board-tells b c t =
    let parts = and_parts (same_halves b.registers c.registers) (b.requests == c.requests) t in
    let halves : b.registers ≡ c.registers = same_halves-tells b.registers c.registers parts.0 in
    let requests : b.requests ≡ c.requests = eqb-true b.requests c.requests parts.1 in
    λ i. record { registers = halves i; requests = requests i }

-- what a board becomes
abbrev board_after : Board → Asked → Board
board_after b asked = record { registers = (answer b asked).1; requests = suc b.requests }

module _ (L : Bus → Line) (T : Tests L) (W : Wires register_words) where
  abbrev board_may : Bus → Option Exchange → Board → Board → Bool
  board_may bus None b after = same_halves after.registers b.registers
  board_may bus (Some x) b after = bytes_eq x.reply (W.reply_to bus x.bytes (answer b (W.asked_from bus x.bytes)).0) && same_board after (board_after b (W.asked_from bus x.bytes))

  board_may-tells : (bus : Bus) (o : Option Exchange) (b after : Board) → board_may bus o b after ≡ true → BoardMay registers L W bus o b after
  board_may-tells bus None b after t = (same_halves-tells after.registers b.registers t, λ series bodies ready. ready)
  board_may-tells bus (Some x) b after t =
      let parts = and_parts _ _ t in
      let asked = W.asked_from bus x.bytes in
      ((answer b asked).0, (bytes_eq-Decides x.reply (W.reply_to bus x.bytes (answer b asked).0)).0 parts.0, (refl, same_board-tells after (board_after b asked) parts.1))

  abbrev may : World registers L → Happening registers L → Bool
  may w (ToManager bus e) = T.test bus (w.on bus) e && (L bus).is_to_manager e
  may w (OnBus bus e after) = T.test bus (w.on bus) e && (not ((L bus).is_to_manager e) && board_may bus ((L bus).carries (w.on bus) e) w.board after)
  may w (OnBench after) = same_halves after.registers w.board.registers
  may w (Calls call) = true
  may w (Resume retries) = true
  may w Restart = true

  may-tells : (w : World registers L) (e : Happening registers L) → may w e ≡ true → MayHappen registers L W w e
  may-tells w (ToManager bus e) t = let parts = and_parts _ _ t in (T.tells bus (w.on bus) e parts.0, parts.1)
  may-tells w (OnBus bus e after) t =
      let parts = and_parts _ _ t in
      let more = and_parts _ _ parts.1 in
      (T.tells bus (w.on bus) e parts.0, not-true _ more.0, board_may-tells bus ((L bus).carries (w.on bus) e) w.board after more.1)
  may-tells w (OnBench after) t = (same_halves-tells after.registers w.board.registers t, λ series bodies ready. ready)
  may-tells w (Calls call) t = tt
  may-tells w (Resume retries) t = tt
  may-tells w Restart t = tt

  abbrev all_may : List (Happening registers L) → World registers L → Bool
  all_may [] w = true
  all_may (e ∷ es) w = may w e && all_may es (happens registers L W w e)

  all_may-tells : (events : List (Happening registers L)) (w : World registers L) → all_may events w ≡ true → AllMay registers L W events w
  all_may-tells [] w t = tt
  all_may-tells (e ∷ es) w t = let parts = and_parts _ _ t in (may-tells w e parts.0, all_may-tells es (happens registers L W w e) parts.1)

-- ---- the runs

abbrev message_test : (bus : Bus) → (messages bus).State → (messages bus).Event → Bool
message_test Ipmb s e = is_outside e && is_honest (ipmb 44 32 0) s e
message_test Smbus s e = is_outside e && is_honest (smbus 8 10 0) s e

message_tells : (bus : Bus) (s : (messages bus).State) (e : (messages bus).Event) → message_test bus s e ≡ true → (messages bus).IsOutside e × (messages bus).IsHonest s e
message_tells Ipmb s e t = whole_tells (ipmb 44 32 0) s e t
message_tells Smbus s e t = whole_tells (smbus 8 10 0) s e t

abbrev message_tests : Tests messages
message_tests = record { test = message_test; tells = message_tells }

pub message_run : EndsUndone messages wires quiet_messages (run_and_undo messages by_message)
message_run = record {
  may = all_may-tells messages message_tests wires (run_and_undo messages by_message) (opening registers messages plan 1 quiet_messages (board 1 9 0)) refl;
  phase = refl;
  records = refl;
}

pub message_resume : EndsUndone messages wires quiet_messages (run_resume_undo messages by_message)
message_resume = record {
  may = all_may-tells messages message_tests wires (run_resume_undo messages by_message) (opening registers messages plan 1 quiet_messages (board 1 9 0)) refl;
  phase = refl;
  records = refl;
}

pub message_restart : EndsUndone messages wires quiet_messages (run_restart_undo messages by_message)
message_restart = record {
  may = all_may-tells messages message_tests wires (run_restart_undo messages by_message) (opening registers messages plan 1 quiet_messages (board 1 9 0)) refl;
  phase = refl;
  records = refl;
}

pub message_halt : HaltsThenUndone messages wires quiet_messages by_message
message_halt = record {
  halts = refl;
  undone = record {
    may = all_may-tells messages message_tests wires (restarted_first messages by_message ++ undo_of_first messages by_message) (opening registers messages plan 1 quiet_messages (board 1 9 0)) refl;
    phase = refl;
    records = refl;
  };
}

abbrev packet_bus : PacketBus
packet_bus = record { manager = 8; controller = 10; first = 0; split = packets_of }

abbrev mixed_test : (bus : Bus) → (mixed bus).State → (mixed bus).Event → Bool
mixed_test Ipmb s e = is_outside e && is_honest (ipmb 44 32 0) s e
mixed_test Smbus x e = is_outside_packets e && is_packet_honest false packet_bus x e

mixed_tells : (bus : Bus) (s : (mixed bus).State) (e : (mixed bus).Event) → mixed_test bus s e ≡ true → (mixed bus).IsOutside e × (mixed bus).IsHonest s e
mixed_tells Ipmb s e t = whole_tells (ipmb 44 32 0) s e t
mixed_tells Smbus x e t = packets_tell packet_bus x e t

abbrev mixed_tests : Tests mixed
mixed_tests = record { test = mixed_test; tells = mixed_tells }

pub mixed_run : EndsUndone mixed long_wires quiet_mixed (run_and_undo mixed by_packet)
mixed_run = record {
  may = all_may-tells mixed mixed_tests long_wires (run_and_undo mixed by_packet) (opening registers mixed plan 1 quiet_mixed (board 1 9 0)) refl;
  phase = refl;
  records = refl;
}

pub mixed_resume : EndsUndone mixed long_wires quiet_mixed (run_resume_undo mixed by_packet)
mixed_resume = record {
  may = all_may-tells mixed mixed_tests long_wires (run_resume_undo mixed by_packet) (opening registers mixed plan 1 quiet_mixed (board 1 9 0)) refl;
  phase = refl;
  records = refl;
}

pub mixed_restart : EndsUndone mixed long_wires quiet_mixed (run_restart_undo mixed by_packet)
mixed_restart = record {
  may = all_may-tells mixed mixed_tests long_wires (run_restart_undo mixed by_packet) (opening registers mixed plan 1 quiet_mixed (board 1 9 0)) refl;
  phase = refl;
  records = refl;
}

pub mixed_halt : HaltsThenUndone mixed long_wires quiet_mixed by_packet
mixed_halt = record {
  halts = refl;
  undone = record {
    may = all_may-tells mixed mixed_tests long_wires (restarted_first mixed by_packet ++ undo_of_first mixed by_packet) (opening registers mixed plan 1 quiet_mixed (board 1 9 0)) refl;
    phase = refl;
    records = refl;
  };
}
