-- Runs that compute, of a manager on SMBus: messages of several packets, both ways. Its words are a stand-in's: a Get that the board answers, and a Set of
-- four packets that it refuses.
use Rattle.std.specs.Prelude.{◌≡◌, refl, ℕ, false, List, [], ◌∷◌, ◌++◌, length, map, Some, None, slice_get, unwrap_or}
use Rattle.two_wire.specs.declared.Bus.TheVariants as bus
use Rattle.mctp_net.specs.declared.packet.Packet.{Packet}
use Rattle.mctp_net.specs.declared.message.Message.{Message}
use Rattle.record_base.specs.declared.message.Asked.{Asked}
use Rattle.record_base.specs.declared.message.Asked.TheVariants.{Pldm}
use Rattle.model_undo.specs.Words.{Words}
use Rattle.model_undo.specs.declared.phase.Why.TheVariants.{Refused}
use Rattle.model_undo.specs.declared.phase.Phase.{Phase}
use Rattle.model_undo.specs.declared.phase.Phase.TheVariants.{Getting, Setting, Halted}
use Rattle.model_undo.specs.Machine.{Sets, begun, phase_of}
use Rattle.bmc_core.specs.Wires.{bus_of}
use Rattle.bmc_core.specs.Values.{Value, Asks, Tells, Part, parts_of}
use Rattle.model_undo.specs.declared.call.Call.TheVariants.{Start, Quiet}
use Rattle.model_lab.specs.ManagerSteps.{Plans}
use Rattle.model_lab.specs.declared.way.Way.TheVariants.{ToManager}
use Rattle.model_lab.specs.Lab.{LabFrame, Event, Calls, ToBmc, ToMgr, Lab, run, opening}
use Rattle.model_lab.specs.Faults.{AllTaken}
use Rattle.model_lab.specs.Own.{AllOwn}
use Rattle.model_lab.specs.Example.{board_file, names}
use Rattle.model_lab.specs.LongExample.{zeros, other_tid}

-- GetTID gets the record, and a PLDM request of 214 bytes with its type byte sets it; the operation back is as long as what the Get shows
abbrev pub words : Words
words = record {
  Key = ℕ;
  Op = ℕ;
  key_of = λ op. op;
  Asked = Asked;
  bus_of = bus_of;
  Series = Asked;
  getting = λ key. Pldm 8 0 2 [];
  setting = λ op. Pldm 8 3 7 (zeros 210);
  first = λ asked. asked;
  next = λ asked bodies. None;
  joined = λ asked bodies. unwrap_or (slice_get bodies 0) [];
  inverse = λ op body. Some (length body);
}

abbrev pub stand_in : Plans
stand_in = record { words = words; asked = λ a. a; on_its_bus = λ a. refl }

abbrev pub start : Lab stand_in
start = opening stand_in board_file names (0 ∷ []) 3

abbrev pub after : List Event → Lab stand_in
after events = run stand_in board_file events start

abbrev pub phase_at : Lab stand_in → Phase
phase_at x = phase_of words x.manager.machine

-- how many bytes the packet of a frame carries
abbrev pub payload_of : Value → ℕ
payload_of (Asks r) = 0
payload_of (Tells r) = 0
payload_of (Part p) = length p.payload

abbrev pub carried_by : LabFrame → ℕ
carried_by f = payload_of f.value

-- ---- a request of four packets

-- the Get is answered, and the Set goes out
abbrev pub set_sent : List Event
set_sent = Calls Start ∷ ToBmc 0 ∷ ToMgr 1 ∷ []

-- Packets 0 and 1 of the Set, then 3, which is out of sequence. It is sent again. The second copy begins, and others ask in between; the
-- first copy's packet 3 ends it, and the second copy's comes too late. The reply comes to the manager.
abbrev pub set_mixed : List Event
set_mixed =
    ToBmc 2 ∷ ToBmc 3 ∷ ToBmc 5 ∷ Calls Quiet ∷ ToBmc 6 ∷ other_tid 0x0B ∷ ToBmc 7 ∷ other_tid 0x0C ∷ ToBmc 8 ∷ ToBmc 5 ∷ ToBmc 9 ∷ ToMgr 12 ∷ []

-- thirteen frames; the board refuses the data, which have no transfer flag that it takes
pub record SetsInPackets : Type 0 where
  pub taken : AllTaken stand_in board_file (set_sent ++ set_mixed) start
  pub own : AllOwn stand_in board_file (set_sent ++ set_mixed) start
  pub setting : phase_at (after set_sent) ≡ Setting 0
  pub packets : map carried_by (after set_sent).frames ≡ 4 ∷ 6 ∷ 64 ∷ 64 ∷ 64 ∷ 22 ∷ []
  pub frames : length (after (set_sent ++ set_mixed)).frames ≡ 13
  pub phase : phase_at (after (set_sent ++ set_mixed)) ≡ Halted 0 (Refused 2)
  pub carried : length (after (set_sent ++ set_mixed)).smbus.log ≡ 4

-- ---- a reply of two packets

-- a reply from the controller to the manager's first request
abbrev pub reply_with : List ℕ → Message
reply_with body = record {
  envelope = record { destination = 0x30; source = 0x20; destination_eid = 8; source_eid = 10; tag_owner = false; tag = 0 };
  body = body;
}

abbrev pub reply_part : Packet → LabFrame
reply_part p = record { on = bus.Smbus; way = ToManager; request = 0; idles = 0; value = Part p }

-- to GetTID, with so many bytes of data; and that the port is busy
abbrev pub tid_reply : ℕ → List ℕ
tid_reply n = 0x01 ∷ 0x00 ∷ 0x00 ∷ 0x02 ∷ 0x00 ∷ zeros n

abbrev pub busy_reply : List ℕ
busy_reply = 0x01 ∷ 0x00 ∷ 0x00 ∷ 0x02 ∷ 0x04 ∷ []

-- the Get was sent, as frame 0; frames 1 and 2 are a reply of 100 bytes, and frame 3 says that the port is busy
abbrev pub replied : Lab stand_in
replied = let x = after (Calls Start ∷ []) in
    record x { frames = x.frames ++ map reply_part (parts_of (reply_with (tid_reply 95)) ++ parts_of (reply_with busy_reply)) }

abbrev pub then_hears : List Event → Lab stand_in
then_hears events = run stand_in board_file events replied

-- Packet 2 alone is nothing. Both in order are the reply, all of it. Where a busy reply comes in between, what waited is dropped.
pub record TakesPackets : Type 0 where
  pub packets : map carried_by replied.frames ≡ 4 ∷ 64 ∷ 36 ∷ 5 ∷ []
  pub taken : AllTaken stand_in board_file (ToMgr 2 ∷ ToMgr 1 ∷ ToMgr 2 ∷ []) replied
  pub waits : phase_at (then_hears (ToMgr 2 ∷ ToMgr 1 ∷ [])) ≡ Getting 0
  pub whole : (then_hears (ToMgr 2 ∷ ToMgr 1 ∷ ToMgr 2 ∷ [])).manager.machine.stage ≡ begun words (Sets 0 0 95)
  pub sends : length (then_hears (ToMgr 2 ∷ ToMgr 1 ∷ ToMgr 2 ∷ [])).frames ≡ 8
  pub busy_between : phase_at (then_hears (ToMgr 1 ∷ ToMgr 3 ∷ ToMgr 2 ∷ [])) ≡ Getting 0
