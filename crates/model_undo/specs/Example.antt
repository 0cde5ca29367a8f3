-- Runs that compute: a plan of two steps, one over each bus, and its undo. Frames are lost on both buses and both ways.
use Rattle.std.specs.Prelude.{◌≡◌, ℕ, List, [], ◌∷◌, ◌++◌, drop, Some, None, refl}
use Rattle.std.proofs.Common.{ap, ◌∙◌, replicate}
use Rattle.two_wire.specs.declared.Bus.{Bus}
use Rattle.two_wire.specs.declared.Bus.TheVariants.{Ipmb, Smbus}
use Rattle.model_bus.specs.BusState.{ReachesPort, ReachesManager, OtherAsks, opening as opening_bus}
use Rattle.model_bus.specs.Packet.{packets_of}
use Rattle.model_bus.specs.PacketBus.{Plain, PacketReachesPort, PacketReachesManager, opening_ends}
use Rattle.model_undo.specs.declared.phase.Why.TheVariants.{Stop}
use Rattle.model_undo.specs.declared.phase.Phase.TheVariants.{Halted, Undone}
use Rattle.model_undo.specs.Machine.{phase_of}
use Rattle.model_undo.specs.Wires.{Wires}
use Rattle.model_undo.specs.Line.{Line}
use Rattle.model_bus.specs.Addresses.{Addresses}
use Rattle.model_undo.specs.TwoBuses.{in_messages, with_packets}
use Rattle.model_undo.specs.declared.call.Call.TheVariants.{Start, Quiet, Again, Undo}
use Rattle.model_undo.specs.World.{States, Happening, Calls, Resume, Restart, ToManager, OnBus, AllMay, run, opening}
use Rattle.model_undo.specs.Registers.{Board, Write, register_words, registers, wires}

-- the first register has 5 in its high half, the second 2 in its low half
abbrev pub board : ℕ → ℕ → ℕ → Board
board low high requests = record { registers = record { low = low; high = 5 } ∷ record { low = 2; high = high } ∷ []; requests = requests }

-- register 0 gets a low half of 3, then register 1 a high half of 7
abbrev pub plan : List Write
plan = record { register = 0; low = Some 3; high = None } ∷ record { register = 1; low = None; high = Some 7 } ∷ []

-- both ends' addresses
abbrev pub addresses : Bus → Addresses
addresses Ipmb = record { manager = 44; controller = 32 }
addresses Smbus = record { manager = 8; controller = 10 }

-- a run that may happen, from the board at the start, ends undone, with the records of the start
pub record EndsUndone (L : Bus → Line) (W : Wires register_words) (on : States L) (events : List (Happening registers L)) : Type 0 where
  pub may : AllMay registers L W events (opening registers L plan 1 on (board 1 9 0))
  pub phase : phase_of register_words (run registers L W events (opening registers L plan 1 on (board 1 9 0))).machine ≡ Undone
  pub records : (run registers L W events (opening registers L plan 1 on (board 1 9 0))).board.registers ≡ (board 1 9 0).registers

-- how a frame comes to an end of a bus
pub record Reaches (L : Bus → Line) : Type 0 where
  -- all of it to the port, which would answer so; the board is the first before, and the second after
  pub port : Bus → ℕ → List ℕ → Board → Board → List (Happening registers L)
  -- all of it to the manager
  pub manager : Bus → ℕ → List (Happening registers L)
  -- what is left of one of which a part is lost: nothing in whole messages, the first packet in packets
  pub rest_to_port : ℕ → Board → List (Happening registers L)
  pub rest_to_manager : ℕ → List (Happening registers L)
  -- somebody else asks on SMBus
  pub other : Board → List (Happening registers L)

module _ (L : Bus → Line) (R : Reaches L) where
  -- The Get of register 0 is lost (frame 0). It is sent again (frame 1) and carried out, and its reply is lost (frame 2). Nothing comes, so
  -- the request is unsettled; it is sent again (frame 3), the kept reply comes (frame 4) and is taken. The Set (frame 5) is carried out, its
  -- reply lost (frame 6), and a retry (frame 7) is answered by the kept reply (frame 8).
  abbrev pub first_step : List (Happening registers L)
  first_step =
      Calls Start ∷ Calls Quiet ∷ R.port Ipmb 1 (0 ∷ 0 ∷ 5 ∷ 1 ∷ 0 ∷ []) (board 1 9 0) (board 1 9 1)
      ++ Calls Quiet ∷ Calls Again ∷ R.port Ipmb 3 [] (board 1 9 1) (board 1 9 1) ++ R.manager Ipmb 4
      ++ R.port Ipmb 5 (1 ∷ 0 ∷ []) (board 1 9 1) (board 3 9 2) ++ Calls Quiet ∷ R.port Ipmb 7 [] (board 3 9 2) (board 3 9 2) ++ R.manager Ipmb 8

  -- On SMBus too: the Get of register 1 is lost (frame 0), then its reply (frame 2), and it is unsettled and sent again (frame 3). The Set
  -- (frame 5) goes through. Somebody else asks in between, and at the end a late copy of the Set of register 0 comes: it repeats, and
  -- changes nothing.
  abbrev pub second_step : List (Happening registers L)
  second_step =
      R.rest_to_port 0 (board 3 9 2) ++ R.other (board 3 9 2) ++ Calls Quiet ∷ R.port Smbus 1 (0 ∷ 0 ∷ 9 ∷ 2 ∷ 2 ∷ []) (board 3 9 2) (board 3 9 3)
      ++ R.rest_to_manager 2 ++ Calls Quiet ∷ Calls Again ∷ R.port Smbus 3 [] (board 3 9 3) (board 3 9 3) ++ R.manager Smbus 4
      ++ R.port Smbus 5 (1 ∷ 0 ∷ []) (board 3 9 3) (board 3 7 4) ++ R.manager Smbus 6 ++ R.port Ipmb 5 [] (board 3 7 4) (board 3 7 4)

  -- The undo, register 1 first. The reply to the late copy (frame 9 on IPMB) comes while the undo of register 0 is open: it isn't taken.
  abbrev pub undo_steps : List (Happening registers L)
  undo_steps =
      Calls Undo ∷ R.port Smbus 7 (2 ∷ 0 ∷ []) (board 3 7 4) (board 3 9 5) ++ R.manager Smbus 8
      ++ R.port Ipmb 10 (2 ∷ 0 ∷ []) (board 3 9 5) (board 1 9 6) ++ R.manager Ipmb 9 ++ R.manager Ipmb 11

  -- a run and its undo
  abbrev pub run_and_undo : List (Happening registers L)
  run_and_undo = first_step ++ second_step ++ undo_steps

  -- the same, where another manager goes on from the list, with the run's requests in the windows and its frames still live
  abbrev pub run_resume_undo : List (Happening registers L)
  run_resume_undo = first_step ++ second_step ++ Resume 1 ∷ undo_steps

  -- The Set of register 1 (frame 2 on SMBus) is lost, and the manager's process ends. The manager that is made again sends the Set again (frame 3):
  -- it is carried out, and the process ends while its reply comes (frame 4). Sent again (frame 5), it is answered by the kept reply (frame 6), and
  -- the plan is done.
  abbrev pub restarted_step : List (Happening registers L)
  restarted_step =
      R.port Smbus 0 (0 ∷ 0 ∷ 9 ∷ 2 ∷ 2 ∷ []) (board 3 9 2) (board 3 9 3) ++ R.manager Smbus 1
      ++ Restart ∷ Calls Again ∷ R.port Smbus 3 (1 ∷ 0 ∷ []) (board 3 9 3) (board 3 7 4) ++ R.rest_to_manager 4
      ++ Restart ∷ Calls Again ∷ R.port Smbus 5 [] (board 3 7 4) (board 3 7 4) ++ R.manager Smbus 6

  -- So it is in the undo: that of register 1 is carried out (frame 7) before the process ends, that of register 0 (frame 9 on IPMB) is lost.
  abbrev pub restarted_undo : List (Happening registers L)
  restarted_undo =
      Restart ∷ Calls Undo ∷ R.port Smbus 7 (2 ∷ 0 ∷ []) (board 3 7 4) (board 3 9 5) ++ Restart ∷ Calls Again ∷ R.port Smbus 9 [] (board 3 9 5) (board 3 9 5) ++ R.manager Smbus 10
      ++ Restart ∷ Calls Again ∷ R.port Ipmb 10 (2 ∷ 0 ∷ []) (board 3 9 5) (board 1 9 6) ++ R.manager Ipmb 11 ++ Restart ∷ []

  abbrev pub run_restart_undo : List (Happening registers L)
  run_restart_undo = first_step ++ restarted_step ++ restarted_undo

  -- The same in the first of two steps: the Set of register 0 is lost (frame 2 on IPMB), then carried out (frame 3), and each time the process ends.
  -- Answered (frame 6), it is the plan's last.
  abbrev pub restarted_first : List (Happening registers L)
  restarted_first =
      Restart ∷ Calls Start ∷ R.port Ipmb 0 (0 ∷ 0 ∷ 5 ∷ 1 ∷ 0 ∷ []) (board 1 9 0) (board 1 9 1) ++ R.manager Ipmb 1
      ++ Restart ∷ Calls Again ∷ R.port Ipmb 3 (1 ∷ 0 ∷ []) (board 1 9 1) (board 3 9 2)
      ++ Restart ∷ Calls Again ∷ R.port Ipmb 5 [] (board 3 9 2) (board 3 9 2) ++ R.manager Ipmb 6

  abbrev pub undo_of_first : List (Happening registers L)
  undo_of_first = Calls Undo ∷ R.port Ipmb 7 (2 ∷ 0 ∷ []) (board 3 9 2) (board 1 9 3) ++ R.manager Ipmb 8

-- a run whose first step is restarted halts after that step, and its undo ends with the records of the start
pub record HaltsThenUndone (L : Bus → Line) (W : Wires register_words) (on : States L) (R : Reaches L) : Type 0 where
  pub halts : phase_of register_words (run registers L W (restarted_first L R) (opening registers L plan 1 on (board 1 9 0))).machine ≡ Halted 1 Stop
  pub undone : EndsUndone L W on (restarted_first L R ++ undo_of_first L R)

-- ---- in whole messages

abbrev pub messages : Bus → Line
messages = in_messages addresses

abbrev pub quiet_messages : States messages
quiet_messages Ipmb = opening_bus []
quiet_messages Smbus = opening_bus []

abbrev pub port_by_message : Bus → ℕ → List ℕ → Board → Board → List (Happening registers messages)
port_by_message Ipmb which answer before after = OnBus Ipmb (ReachesPort which answer) after ∷ []
port_by_message Smbus which answer before after = OnBus Smbus (ReachesPort which answer) after ∷ []

abbrev pub manager_by_message : Bus → ℕ → List (Happening registers messages)
manager_by_message Ipmb which = ToManager Ipmb (ReachesManager which) ∷ []
manager_by_message Smbus which = ToManager Smbus (ReachesManager which) ∷ []

abbrev pub by_message : Reaches messages
by_message = record {
  port = port_by_message;
  manager = manager_by_message;
  rest_to_port = λ which before. [];
  rest_to_manager = λ which. [];
  other = λ before. OnBus Smbus (OtherAsks (record { requester = 66; number = 0; bytes = 9 ∷ [] }) []) before ∷ [];
}

-- ---- with packets on SMBus

abbrev pub mixed : Bus → Line
mixed = with_packets addresses packets_of

abbrev pub quiet_mixed : States mixed
quiet_mixed Ipmb = opening_bus []
quiet_mixed Smbus = opening_ends []

-- Messages on SMBus begin with 64 bytes of which the registers know nothing, so each is two packets.
abbrev pub filler : List ℕ
filler = replicate 64 0

abbrev pub filled : Bus → List ℕ → List ℕ
filled Ipmb bytes = bytes
filled Smbus bytes = filler ++ bytes

abbrev pub unfilled : Bus → List ℕ → List ℕ
unfilled Ipmb bytes = bytes
unfilled Smbus bytes = drop 64 bytes

pub unfilled_back : (bus : Bus) (bytes : List ℕ) → unfilled bus (filled bus bytes) ≡ bytes
unfilled_back Ipmb bytes = refl
unfilled_back Smbus bytes = refl

abbrev pub long_wires : Wires register_words
long_wires = record {
  bytes_of = λ number asked. filled (register_words.bus_of asked) (wires.bytes_of number asked);
  asked_from = λ bus bytes. wires.asked_from bus (unfilled bus bytes);
  reply_to = λ bus bytes a. filled bus (wires.reply_to bus (unfilled bus bytes) a);
  answered_from = λ bus bytes. wires.answered_from bus (unfilled bus bytes);
  same = λ number asked made. ap (wires.asked_from (register_words.bus_of asked)) (unfilled_back (register_words.bus_of asked) (wires.bytes_of number asked)) ∙ wires.same number asked made;
  same_reply = λ bus bytes a. ap (wires.answered_from bus) (unfilled_back bus (wires.reply_to bus (unfilled bus bytes) a));
}

abbrev pub port_by_packet : Bus → ℕ → List ℕ → Board → Board → List (Happening registers mixed)
port_by_packet Ipmb which answer before after = OnBus Ipmb (ReachesPort which answer) after ∷ []
port_by_packet Smbus which answer before after = OnBus Smbus (PacketReachesPort which 0 []) before ∷ OnBus Smbus (PacketReachesPort which 1 (filler ++ answer)) after ∷ []

abbrev pub manager_by_packet : Bus → ℕ → List (Happening registers mixed)
manager_by_packet Ipmb which = ToManager Ipmb (ReachesManager which) ∷ []
manager_by_packet Smbus which = ToManager Smbus (PacketReachesManager which 0) ∷ ToManager Smbus (PacketReachesManager which 1) ∷ []

abbrev pub by_packet : Reaches mixed
by_packet = record {
  port = port_by_packet;
  manager = manager_by_packet;
  rest_to_port = λ which before. OnBus Smbus (PacketReachesPort which 0 []) before ∷ [];
  rest_to_manager = λ which. ToManager Smbus (PacketReachesManager which 0) ∷ [];
  other = λ before. OnBus Smbus (Plain (OtherAsks (record { requester = 66; number = 0; bytes = 9 ∷ [] }) [])) before ∷ [];
}
