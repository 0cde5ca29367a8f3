-- More runs that compute: many steps, somebody else's requests, and packets out of order.
use Rattle.std.specs.Prelude.{◌≡◌, ℕ, zero, suc, ◌+◌, true, List, [], ◌∷◌, ◌++◌, length, map, refl, Option, Some, slice_get}
use Rattle.std.specs.Option.{option_map}
use Rattle.two_wire.specs.declared.Bus.TheVariants as bus
use Rattle.mctp_net.specs.declared.packet.Packet.{Packet}
use Rattle.mctp_net.specs.declared.message.Message.{Message}
use Rattle.mctp_net.specs.Grammar.{unchecked}
use Rattle.record_base.specs.declared.key.Key.TheVariants as key
use Rattle.record_base.specs.declared.op.Op.{Op}
use Rattle.bmc_board.specs.State.{opened}
use Rattle.model_undo.specs.declared.phase.Phase.TheVariants.{Getting}
use Rattle.bmc_core.specs.Values.{Value, Asks, Tells, Part, written, parts_of}
use Rattle.bmc_core.specs.PortSteps.{hears, quiet_port}
use Rattle.model_undo.specs.declared.call.Call.TheVariants.{Start}
use Rattle.model_lab.specs.declared.way.Way.{Way}
use Rattle.model_lab.specs.declared.way.Way.TheVariants.{ToPort, ToManager, ToOthers}
use Rattle.model_lab.specs.Lab.{LabFrame, Event, Calls, ToBmc, ToMgr, OtherIpmb, OtherSmbus, Lab, run}
use Rattle.model_lab.specs.declared.fault.Fault.TheVariants.{Aged}
use Rattle.model_lab.specs.Faults.{fault_of, AllTaken}
use Rattle.model_lab.specs.Own.{AllOwn}
use Rattle.model_lab.specs.Example.{board_file, plans, start, after, phase_after, bytes_at, set_thresholds, other_request, exchange}

-- ---- many steps

-- so many steps on the upper critical threshold of sensor 5: step i sets i + 52h
abbrev pub rising : ℕ → ℕ → List Op
rising zero i = []
rising (suc n) i = set_thresholds 0x10 (0 ∷ 0 ∷ 0 ∷ 0 ∷ (i + 0x52) ∷ 0 ∷ []) refl ∷ rising n (i + 1)

-- so many exchanges, from the frame of this number on
abbrev pub exchanges : ℕ → ℕ → List Event
exchanges zero frame = []
exchanges (suc n) frame = exchange frame ++ exchanges n (frame + 2)

-- up to request 30 being sent; then a late copy of request 3; and on until request 40 is sent
abbrev pub thirty : List Event
thirty = Calls Start ∷ exchanges 30 0

abbrev pub copied : List Event
copied = thirty ++ ToBmc 6 ∷ []

abbrev pub forty : List Event
forty = copied ++ ToBmc 60 ∷ ToMgr 62 ∷ exchanges 9 63

-- A copy of a request behind 27 newer ones gets the reply that was kept, and changes nothing; behind 37 it isn't taken.
pub record CopiesAge : Type 0 where
  pub sent : length (after (rising 21 0) 3 thirty).frames ≡ 61
  pub kept_reply : bytes_at (after (rising 21 0) 3 copied) 61 ≡ bytes_at (after (rising 21 0) 3 copied) 7
  pub stays : (after (rising 21 0) 3 copied).board.records (key.Thresholds 5) ≡ Some (0x14 ∷ 0x0A ∷ 0x05 ∷ 0x50 ∷ 0x60 ∷ 0x6E ∷ [])
  pub phase : phase_after (rising 21 0) 3 forty ≡ Getting 20
  pub frames : length (after (rising 21 0) 3 forty).frames ≡ 82
  pub undo : length (after (rising 21 0) 3 forty).manager.machine.undo ≡ 20
  pub aged : fault_of plans (after (rising 21 0) 3 forty) (ToBmc 6) ≡ Some Aged

-- ---- nine requesters

-- each of them asks the same
abbrev pub asks : List ℕ → List Event
asks [] = []
asks (from ∷ more) = OtherIpmb (other_request from 10 0x42 []) ∷ asks more

abbrev pub ten : List Event
ten = asks (0x40 ∷ 0x42 ∷ 0x44 ∷ 0x46 ∷ 0x48 ∷ 0x4A ∷ 0x4C ∷ 0x4E ∷ 0x50 ∷ 0x40 ∷ [])

-- the ninth finds the port busy, and the first one's repeat gets the reply that was kept
pub record NinthIsBusy : Type 0 where
  pub taken : AllTaken plans board_file ten (start [] 0)
  pub busy : bytes_at (after [] 0 ten) 8 ≡ Some (0x50 ∷ 0x2C ∷ 0x84 ∷ 0x20 ∷ 0x00 ∷ 0x42 ∷ 0xC0 ∷ 0xDE ∷ [])
  pub kept_reply : bytes_at (after [] 0 ten) 9 ≡ bytes_at (after [] 0 ten) 0

-- ---- one packet

-- a message to the controller's address, under tag 0 of its sender's
abbrev pub message_to : ℕ → ℕ → ℕ → List ℕ → Message
message_to wire eid from body = record {
  envelope = record { destination = 0x20; source = wire; destination_eid = eid; source_eid = from; tag_owner = true; tag = 0 };
  body = body;
}

-- a frame without its packet error code
abbrev pub unpecked : Value → List ℕ
unpecked (Asks r) = written (Asks r)
unpecked (Tells r) = written (Tells r)
unpecked (Part p) = unchecked p 0

-- what the port sends where it hears the packets of a message
abbrev pub replies_to : List Packet → List (List ℕ)
replies_to [] = []
replies_to (p ∷ ps) = map unpecked (hears board_file (quiet_port 0x20 10) (opened board_file) (Part p)).sent ++ replies_to ps

-- GetTID to the controller's endpoint, and Get Endpoint ID to whichever has the address
pub record AnswersPackets : Type 0 where
  pub tid : replies_to (parts_of (message_to 0x30 10 8 (0x01 ∷ 0x80 ∷ 0x00 ∷ 0x02 ∷ [])))
      ≡ (0x30 ∷ 0x0F ∷ 0x0B ∷ 0x21 ∷ 0x01 ∷ 0x08 ∷ 0x0A ∷ 0xC0 ∷ 0x01 ∷ 0x00 ∷ 0x00 ∷ 0x02 ∷ 0x00 ∷ 0x05 ∷ []) ∷ []
  pub eid : replies_to (parts_of (message_to 0x30 0 8 (0x00 ∷ 0x80 ∷ 0x02 ∷ [])))
      ≡ (0x30 ∷ 0x0F ∷ 0x0C ∷ 0x21 ∷ 0x01 ∷ 0x08 ∷ 0x0A ∷ 0xC0 ∷ 0x00 ∷ 0x00 ∷ 0x02 ∷ 0x00 ∷ 0x0A ∷ 0x00 ∷ 0x00 ∷ []) ∷ []

-- ---- packets out of order

-- so many bytes
abbrev pub zeros : ℕ → List ℕ
zeros zero = []
zeros (suc n) = 0 ∷ zeros n

-- a PLDM request of 214 bytes, in packets of 64, 64, 64 and 22
abbrev pub long : Message
long = message_to 0x30 10 8 (0x01 ∷ 0x80 ∷ 0x03 ∷ 0x07 ∷ zeros 210)

-- a packet that the manager sent
abbrev pub sent_part : Packet → LabFrame
sent_part p = record { on = bus.Smbus; way = ToPort; request = 0; idles = 0; value = Part p }

-- its packets were sent twice, as frames 0 to 3 and 4 to 7
abbrev pub sent_twice : Lab plans
sent_twice = record (start [] 0) { frames = map sent_part (parts_of long) ++ map sent_part (parts_of long) }

abbrev pub other_tid : ℕ → Event
other_tid from = OtherSmbus (message_to 0x42 10 from (0x01 ∷ 0x80 ∷ 0x00 ∷ 0x02 ∷ []))

-- Packets 0 and 1, then 3, which is out of sequence. The second copy begins, and others ask in between; the first copy's packet 3 ends
-- it, and the second copy's comes too late.
abbrev pub mixed : List Event
mixed = ToBmc 0 ∷ ToBmc 1 ∷ ToBmc 3 ∷ ToBmc 4 ∷ other_tid 0x0B ∷ ToBmc 5 ∷ other_tid 0x0C ∷ ToBmc 6 ∷ ToBmc 3 ∷ ToBmc 7 ∷ []

-- to whom the frame of a number goes
abbrev pub way_at : Lab plans → ℕ → Option Way
way_at x n = option_map (λ (f : LabFrame). f.way) (slice_get x.frames n)

-- two replies to the others, and one to the manager
pub record JoinsPackets : Type 0 where
  pub taken : AllTaken plans board_file mixed sent_twice
  pub own : AllOwn plans board_file mixed sent_twice
  pub packets : map (λ (p : Packet). length p.payload) (parts_of long) ≡ 64 ∷ 64 ∷ 64 ∷ 22 ∷ []
  pub frames : length (run plans board_file mixed sent_twice).frames ≡ 11
  pub first_other : way_at (run plans board_file mixed sent_twice) 8 ≡ Some ToOthers
  pub second_other : way_at (run plans board_file mixed sent_twice) 9 ≡ Some ToOthers
  pub reply : way_at (run plans board_file mixed sent_twice) 10 ≡ Some ToManager
  pub carried : length (run plans board_file mixed sent_twice).smbus.log ≡ 3
