-- A run that computes, over IPMB: Set Power Restore Policy, and its undo.
use Rattle.std.specs.Prelude.{◌≡◌, ℕ, List, [], ◌∷◌, Some, take}
use Rattle.two_wire.specs.declared.Bus.TheVariants.{Ipmb}
use Rattle.record_base.specs.declared.key.Key.TheVariants as key
use Rattle.record_base.specs.declared.op.Op.{Op}
use Rattle.record_base.specs.declared.op.Op.TheVariants as op
use Rattle.cfg_records.specs.declared.board_file.BoardFile.{BoardFile}
use Rattle.cfg_records.specs.Records.{Records, with_record}
use Rattle.bmc_board.specs.State.{State, state, opening as activity}
use Rattle.model_bus.specs.BusState.{ReachesPort, ReachesManager}
use Rattle.model_undo.specs.Family.{AllValid}
use Rattle.model_undo.specs.declared.phase.Phase.TheVariants.{Undone}
use Rattle.model_undo.specs.Machine.{phase_of}
use Rattle.model_undo.specs.declared.call.Call.TheVariants.{Start, Undo}
use Rattle.model_undo.specs.World.{World, Happening, Calls, ToManager, OnBus, AllMay, run, opening}
use Rattle.model_undo.specs.Headline.{IsStart}
use Rattle.model_undo.specs.Example.{addresses, messages, quiet_messages}
use Rattle.model_lab.specs.ManagerWords.{manager_words}
use Rattle.model_lab.specs.Family.{family}
use Rattle.model_lab.specs.ManagerWires.{wires}

-- the policy is 0, stay off, and the other records are these
abbrev pub with_others : Records → Records
with_others others key.PowerPolicy = Some (0 ∷ [])
with_others others k = others k

-- the board at the start, and with another policy
abbrev pub board : BoardFile → Records → State
board setup others = state (with_others others) (activity setup)

abbrev pub with_policy : ℕ → State → State
with_policy policy b = state (with_record b.records key.PowerPolicy (policy ∷ [])) b.activity

-- the policy is to become 1, as it was before
abbrev pub plan : List Op
plan = op.PowerPolicy (record { policy = 1 }) ∷ []

module _ (setup : BoardFile) (others : Records) where
  abbrev pub to_port : ℕ → List ℕ → State → Happening (family setup addresses) messages
  to_port which reply after = OnBus Ipmb (ReachesPort which reply) after

  abbrev pub to_manager : ℕ → Happening (family setup addresses) messages
  to_manager which = ToManager Ipmb (ReachesManager which)

  -- Get Chassis Status (frame 0) shows policy 0, and Set Power Restore Policy (frame 2) is carried out. A late copy of it repeats, and
  -- changes nothing. The undo (frame 5) sets policy 0.
  abbrev pub events : List (Happening (family setup addresses) messages)
  events =
      Calls Start ∷ to_port 0 (0x04 ∷ 0x00 ∷ 0x01 ∷ 0x00 ∷ 0x00 ∷ 0x00 ∷ 0x00 ∷ []) (board setup others) ∷ to_manager 1
      ∷ to_port 2 (0x04 ∷ 0x04 ∷ 0x06 ∷ 0x00 ∷ 0x07 ∷ []) (with_policy 1 (board setup others)) ∷ to_manager 3 ∷ to_port 2 [] (with_policy 1 (board setup others))
      ∷ Calls Undo ∷ to_port 5 (0x04 ∷ 0x08 ∷ 0x06 ∷ 0x00 ∷ 0x07 ∷ []) (with_policy 0 (with_policy 1 (board setup others))) ∷ to_manager 6 ∷ []

  abbrev pub start : World (family setup addresses) messages
  start = opening (family setup addresses) messages plan 0 quiet_messages (board setup others)

  -- after the first so many events
  abbrev pub after : ℕ → World (family setup addresses) messages
  after n = run (family setup addresses) messages (wires addresses) (take n events) start

  -- The run may happen on each board that begins with policy 0, whatever its file and its other records are. The manager's requests are
  -- IPMI's bytes, the policy was 1 before the undo, and the run ends undone.
  pub record EndsUndone : Type 0 where
    pub starts : AllValid (family setup addresses) others → IsStart (family setup addresses) messages (wires addresses) quiet_messages (board setup others)
    pub may : AllMay (family setup addresses) messages (wires addresses) events start
    pub sent : ((after 9).on Ipmb).begun ≡ (0x00 ∷ 0x00 ∷ 0x01 ∷ []) ∷ (0x00 ∷ 0x04 ∷ 0x06 ∷ 0x01 ∷ []) ∷ (0x00 ∷ 0x08 ∷ 0x06 ∷ 0x00 ∷ []) ∷ []
    pub set : (after 6).board.records key.PowerPolicy ≡ Some (1 ∷ [])
    pub undone : phase_of (manager_words addresses) (after 9).machine ≡ Undone
