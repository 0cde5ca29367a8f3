-- Runs of the lab that compute, on a board with one temperature sensor.
use Rattle.std.specs.Prelude.{◌≡◌, ℕ, ◌+◌, List, [], ◌∷◌, ◌++◌, length, refl, true, Option, Some, slice_get}
use Rattle.std.specs.Option.{option_map}
use Rattle.std.proofs.Common.{lit<, lit≤, arith}
use Rattle.two_wire.specs.declared.Bus.TheVariants as bus
use Rattle.ipmb_frame.specs.declared.message.Request.{Request}
use Rattle.record_base.specs.declared.key.Key.TheVariants as key
use Rattle.record_base.specs.declared.op.Op.{Op}
use Rattle.record_base.specs.declared.op.Op.TheVariants as op
use Rattle.record_base.specs.declared.threshold_masks.ThresholdMasks.{ThresholdMasks}
use Rattle.cfg_records.specs.declared.board_file.BoardFile.{BoardFile}
use Rattle.record_base.specs.declared.sensor.Sensor.{Sensor}
use Rattle.record_base.specs.declared.numeric_effecter.NumericEffecter.{NumericEffecter}
use Rattle.record_base.specs.declared.state_effecter.StateEffecter.{StateEffecter}
use Rattle.record_base.specs.declared.user.UserAccess.{UserAccess}
use Rattle.record_base.specs.declared.lan.Lan.{Lan}
use Rattle.record_base.specs.declared.channel.Channel.{Channel}
use Rattle.record_base.specs.Numbers.{ChannelNumber, number_on}
use Rattle.record_base.specs.declared.event_enable.EventMasks.{EventMasks}
use Rattle.record_base.specs.Distinct.{NamesDiffer}
use Rattle.record_base.specs.UsersLaws.{first_user, one_user}
use Rattle.record_base.specs.Sdr.{sdr_id}
use Rattle.record_base.specs.Sensor.EventEnable.{are_within, event_value, IsEventEnable}
use Rattle.record_base.specs.EventLaws.{tested_events}
use Rattle.record_base.specs.Sensor.Thresholds.{IsThresholds, is_clear, is_in_order}
use Rattle.record_base.specs.ThresholdLaws.{tests_pass}
use Rattle.model_undo.specs.declared.phase.Phase.{Phase}
use Rattle.model_undo.specs.declared.phase.Phase.TheVariants.{Done, Undone, Unsettled}
use Rattle.model_undo.specs.Machine.{phase_of}
use Rattle.bmc_core.specs.Values.{written}
use Rattle.undo_plans.specs.declared.names.Names.{Names}
use Rattle.model_undo.specs.declared.call.Call.TheVariants.{Start, Quiet, Again, Undo}
use Rattle.model_lab.specs.ManagerSteps.{Plans, board_plans}
use Rattle.model_lab.specs.Lab.{LabFrame, Event, Calls, ToBmc, ToMgr, OtherIpmb, Noise, Idles, Lab, run, opening}
use Rattle.model_lab.specs.Clean.{IsClean}
use Rattle.model_lab.specs.declared.fault.Fault.{Fault}
use Rattle.model_lab.specs.declared.fault.Fault.TheVariants.{NoFrame, WrongWay, Changing, Impersonates, Forged, StillOpen}
use Rattle.model_lab.specs.Faults.{fault_of, AllTaken}

-- ---- the board

-- all six thresholds can be read and set
abbrev pub masks : ThresholdMasks
masks = record { readable = 0x3F; settable = 0x3F; readable_six = lit< tt; settable_six = lit< tt }

abbrev pub at_first : List ℕ
at_first = 0x14 ∷ 0x0A ∷ 0x05 ∷ 0x50 ∷ 0x5F ∷ 0x6E ∷ []

pub are_thresholds : IsThresholds masks at_first
unfolding is_clear is_in_order
are_thresholds = tests_pass masks at_first refl refl refl

-- the event of upper critical's rise is enabled
abbrev pub enabled : EventMasks
enabled = record { assertions = 0x200; deassertions = 0 }

pub are_enabled : IsEventEnable 0xFFF (event_value true true enabled)
unfolding are_within
are_enabled = tested_events 0xFFF true true enabled refl refl

-- a temperature sensor
abbrev pub temperature : Sensor
temperature = record {
  number = 5;
  sensor_type = 1;
  thresholds = record { masks = masks; values = at_first; valid = are_thresholds };
  hysteresis = record { positive = 2; negative = 2 };
  events = record { supported = 0xFFF; messages = true; scanning = true; enabled = enabled; twelve = lit< tt; valid = are_enabled };
  numbered = lit< tt;
}

pub one_number : NamesDiffer (λ (s : Sensor). s.number) (temperature ∷ [])
one_number i j d below within = absurd (omega (arith, below, within))

pub no_records : NamesDiffer sdr_id []
no_records i j d below within = absurd (omega (arith, below, within))

pub no_numbers : NamesDiffer (λ (e : NumericEffecter). e.id) []
no_numbers i j d below within = absurd (omega (arith, below, within))

pub no_states : NamesDiffer (λ (e : StateEffecter). e.id) []
no_states i j d below within = absurd (omega (arith, below, within))

pub no_channels : NamesDiffer (λ (c : Channel). c.number.number) []
no_channels i j d below within = absurd (omega (arith, below, within))

pub no_sessionless : NamesDiffer (λ (c : ChannelNumber). c.number) []
no_sessionless i j d below within = absurd (omega (arith, below, within))

pub no_lans : NamesDiffer (λ (l : Lan). l.number.number) []
no_lans i j d below within = absurd (omega (arith, below, within))

pub no_accesses : NamesDiffer (λ (a : UserAccess). number_on a.on) []
no_accesses i j d below within = absurd (omega (arith, below, within))

pub no_number_twice : NamesDiffer (λ (number : ℕ). number) []
no_number_twice i j d below within = absurd (omega (arith, below, within))

-- a board with that sensor
abbrev pub board_file : BoardFile
board_file = record {
  tid = 5;
  device = record {
    id = 0x20;
    revision = 1;
    major = 1;
    minor = record { byte = 5; tens = lit< tt; ones = lit< tt };
    support = 7;
    manufacturer = record { number = 0xABCD; three_bytes = lit< tt };
    product = 0x1234;
  };
  sensors = record { items = temperature ∷ []; differ = one_number; few = lit≤ tt };
  policy = record { number = 1; valid = record { one = refl; known = lit≤ tt } };
  watchdog = record {
    timer_use = 0;
    actions = 0;
    pre_timeout = 0;
    initial = 0;
    valid = record { five = refl; known_use = lit≤ tt; known_interrupt = lit≤ tt; known_action = lit≤ tt; low_byte = lit< tt; high_byte = lit< tt };
  };
  clock = 0;
  log = record { records = 2; least = lit≤ tt; most = lit≤ tt };
  enables = record { byte = 0x08; valid = record { one = refl; unreserved = refl } };
  sdr = record { items = []; differ = no_records; few = lit≤ tt };
  boot = record {
    valid_bit_clearing = 0;
    info_acknowledge = 0;
    flags = record { validity = 0; device = 0; console = 0; overrides = 0; instance = 0 };
    five_bits = lit< tt;
    byte = lit< tt;
  };
  numeric_effecters = record { items = []; differ = no_numbers; few = lit≤ tt };
  state_effecters = record { items = []; differ = no_states; few = lit≤ tt };
  users = record { items = first_user ∷ []; valid = one_user };
  channels = record { items = []; differ = no_channels; few = lit≤ tt };
  sessionless = record { items = []; differ = no_sessionless; few = lit≤ tt };
  user_accesses = record { items = []; differ = no_accesses; few = lit≤ tt };
  attributes = record { items = []; placed = tt; few = lit≤ tt };
  lans = record { items = []; differ = no_lans; few = lit≤ tt };
  apart = no_number_twice;
  few = lit≤ tt;
  known = refl;
  listed = refl;
  each = refl;
}

-- ---- the runs

-- the manager's and the controller's names
abbrev pub names : Names
names = record { own_address = 0x2C; peer_address = 0x20; own_wire = 0x30; peer_wire = 0x20; own_eid = 8; peer_eid = 10 }

-- a step that sets thresholds of sensor 5
abbrev pub set_thresholds : ℕ → (values : List ℕ) → length values ≡ 6 → Op
set_thresholds mask values six = op.Thresholds (record { sensor = 5; mask = mask; values = values; six = six })

-- upper non-critical 4Bh and upper critical 5Ah, then upper critical 5Ch and upper non-recoverable 64h
abbrev pub two_steps : List Op
two_steps = set_thresholds 0x18 (0 ∷ 0 ∷ 0 ∷ 0x4B ∷ 0x5A ∷ 0 ∷ []) refl ∷ set_thresholds 0x30 (0 ∷ 0 ∷ 0 ∷ 0 ∷ 0x5C ∷ 0x64 ∷ []) refl ∷ []

-- upper critical 5Ah
abbrev pub one_step : List Op
one_step = set_thresholds 0x10 (0 ∷ 0 ∷ 0 ∷ 0 ∷ 0x5A ∷ 0 ∷ []) refl ∷ []

-- a Get or a Set goes to the port, and its reply to the manager; its frame has this number
abbrev pub exchange : ℕ → List Event
exchange n = ToBmc n ∷ ToMgr (n + 1) ∷ []

-- each frame once, in order, and the undo
abbrev pub run_two : List Event
run_two = Calls Start ∷ exchange 0 ++ exchange 2 ++ exchange 4 ++ exchange 6

abbrev pub clean_two : List Event
clean_two = run_two ++ Calls Undo ∷ exchange 8 ++ exchange 10

-- the Set's reply is lost, and the kept one is taken
abbrev pub retried : List Event
retried = Calls Start ∷ exchange 0 ++ ToBmc 2 ∷ Calls Quiet ∷ exchange 4

-- no retries: the Set is unsettled, then sent again, and undone; an undo before that is for another phase
abbrev pub unsettled : List Event
unsettled = Calls Start ∷ exchange 0 ++ Calls Quiet ∷ Calls Undo ∷ Calls Again ∷ exchange 3 ++ Calls Undo ∷ exchange 5

-- a request to the controller on IPMB
abbrev pub other_request : ℕ → ℕ → ℕ → List ℕ → Request
other_request from net_fn command body = record {
  header = record { responder = record { address = 0x20; lun = 0 }; requester = record { address = from; lun = 0 }; net_fn = net_fn; sequence = 0; command = command };
  body = body;
}

abbrev pub plans : Plans
plans = board_plans names

-- the lab at the start
abbrev pub start : List Op → ℕ → Lab plans
start plan retries = opening plans board_file names plan retries

abbrev pub after : List Op → ℕ → List Event → Lab plans
after plan retries events = run plans board_file events (start plan retries)

abbrev pub phase_after : List Op → ℕ → List Event → Phase
phase_after plan retries events = phase_of plans.words (after plan retries events).manager.machine

-- the bytes of the frame of a number
abbrev pub bytes_at : Lab plans → ℕ → Option (List ℕ)
bytes_at x n = option_map (λ (f : LabFrame). written f.value) (slice_get x.frames n)

-- each event in its place has this fault, after those before it
abbrev pub fault_after : List Event → Event → Option Fault
fault_after before e = fault_of plans (after one_step 3 before) e

-- each fault that a schedule of two events can show; the manager's window is kept on both buses while a request is open on one
pub record ShowsFaults : Type 0 where
  pub no_frame : fault_after [] (ToBmc 9) ≡ Some NoFrame
  pub wrong_way : fault_after (Calls Start ∷ []) (ToMgr 0) ≡ Some WrongWay
  pub changing : fault_after [] (OtherIpmb (other_request 0x40 4 0x26 (5 ∷ 0x10 ∷ 0 ∷ 0 ∷ 0 ∷ 0 ∷ 0x5A ∷ 0 ∷ []))) ≡ Some Changing
  pub impersonates : fault_after [] (OtherIpmb (other_request 0x2C 6 1 [])) ≡ Some Impersonates
  pub forged : fault_after [] (Noise bus.Ipmb (0x20 ∷ 0x18 ∷ 0xC8 ∷ 0x2C ∷ 0x00 ∷ 0x01 ∷ 0xD3 ∷ [])) ≡ Some Forged
  pub still_open : fault_after (Calls Start ∷ []) (Idles bus.Ipmb 0x2C) ≡ Some StillOpen
  pub on_the_other_bus : fault_after (Calls Start ∷ []) (Idles bus.Smbus 8) ≡ Some StillOpen

-- a clean run of two steps and its undo: twelve frames, none refused, and the records as they were
pub record TwoStepsUndone : Type 0 where
  pub clean : IsClean plans board_file clean_two (start two_steps 3)
  pub taken : AllTaken plans board_file clean_two (start two_steps 3)
  pub undone : phase_after two_steps 3 clean_two ≡ Undone
  pub frames : length (after two_steps 3 clean_two).frames ≡ 12
  pub undoes : bytes_at (after two_steps 3 clean_two) 8
      ≡ Some (0x20 ∷ 0x10 ∷ 0xD0 ∷ 0x2C ∷ 0x10 ∷ 0x26 ∷ 0x05 ∷ 0x30 ∷ 0 ∷ 0 ∷ 0 ∷ 0 ∷ 0x5A ∷ 0x6E ∷ 0xA1 ∷ [])
  pub same : (after two_steps 3 clean_two).board.records (key.Thresholds 5) ≡ Some (0x14 ∷ 0x0A ∷ 0x05 ∷ 0x50 ∷ 0x5F ∷ 0x6E ∷ [])

-- the Set's frame comes twice; the kept reply is taken, and a late one changes nothing
pub record RepliesOnce : Type 0 where
  pub taken : AllTaken plans board_file (retried ++ ToMgr 3 ∷ []) (start one_step 3)
  pub done : phase_after one_step 3 retried ≡ Done
  pub frames : length (after one_step 3 retried).frames ≡ 6
  pub again : bytes_at (after one_step 3 retried) 4 ≡ bytes_at (after one_step 3 retried) 2
  pub first_reply : bytes_at (after one_step 3 retried) 3 ≡ Some (0x2C ∷ 0x14 ∷ 0xC0 ∷ 0x20 ∷ 0x04 ∷ 0x26 ∷ 0x00 ∷ 0xB6 ∷ [])
  pub kept_reply : bytes_at (after one_step 3 retried) 5 ≡ bytes_at (after one_step 3 retried) 3
  pub late : after one_step 3 (retried ++ ToMgr 3 ∷ []) ≡ after one_step 3 retried

-- a Set that is unsettled and sent again
pub record SettlesAgain : Type 0 where
  pub taken : AllTaken plans board_file unsettled (start one_step 0)
  pub unsettled_first : phase_after one_step 0 (Calls Start ∷ exchange 0 ++ Calls Quiet ∷ Calls Undo ∷ []) ≡ Unsettled 0
  pub done : phase_after one_step 0 (Calls Start ∷ exchange 0 ++ Calls Quiet ∷ Calls Undo ∷ Calls Again ∷ exchange 3) ≡ Done
  pub undone : phase_after one_step 0 unsettled ≡ Undone
  pub frames : length (after one_step 0 unsettled).frames ≡ 7
  pub same : (after one_step 0 unsettled).board.records (key.Thresholds 5) ≡ Some (0x14 ∷ 0x0A ∷ 0x05 ∷ 0x50 ∷ 0x5F ∷ 0x6E ∷ [])
