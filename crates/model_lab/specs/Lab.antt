-- The lab: a board, its two ports, a manager, and every frame that was sent. Its run is a function of the events.
use Rattle.std.specs.Prelude.{ℕ, ◌==◌, ◌&&◌, List, [], ◌∷◌, ◌++◌, map, Option, Some, None, if◌then◌else◌, slice_get}
use Rattle.two_wire.specs.declared.Bus.{Bus}
use Rattle.two_wire.specs.declared.Bus.TheVariants.{Ipmb, Smbus}
use Rattle.ipmb_frame.specs.declared.message.Request.{Request}
use Rattle.mctp_net.specs.declared.message.Message.{Message}
use Rattle.mctp_net.specs.Assembly.{is_ours, nothing}
use Rattle.cfg_records.specs.declared.board_file.BoardFile.{BoardFile}
use Rattle.model_bus.specs.Request.{idles_of}
use Rattle.bmc_board.specs.declared.activity.Activity.{Activity}
use Rattle.bmc_board.specs.State.{State, on_bench, opened as opened_board}
use Rattle.model_undo.specs.Machine.{opened as opened_machine}
use Rattle.model_lab.specs.declared.way.Way.{Way}
use Rattle.model_lab.specs.declared.way.Way.TheVariants.{ToPort, ToManager, ToOthers}
use Rattle.bmc_core.specs.Values.{Value, Asks, Tells, Part}
use Rattle.bmc_core.specs.PortSteps.{PortState, StepResult, hears, hears_all, idles, quiet_port}
use Rattle.undo_plans.specs.declared.names.Names.{Names}
use Rattle.model_undo.specs.declared.call.Call.{Call}
use Rattle.model_lab.specs.ManagerSteps.{own_on, Plans, ManagerState, ManagerStepResult, Sent, called, manager_hears}

-- A frame that was sent. `request` is the count of the manager's request that the frame carries; a reply has the request of the frame whose
-- delivery brought it. `idles` counts how often the port had forgotten the manager's window on the frame's bus when the frame was sent.
pub record LabFrame : Type 0 where
  pub on : Bus
  pub way : Way
  pub request : ℕ
  pub idles : ℕ
  pub value : Value

-- what can happen; a schedule is a list of these
pub data Event : Type 0 where
  -- the manager is called
  Calls : Call → Event
  -- the frame of this number comes to the controller's port
  ToBmc : (number : ℕ) → Event
  -- the frame of this number comes to the manager
  ToMgr : (number : ℕ) → Event
  -- somebody else's request comes to the port, on IPMB
  OtherIpmb : Request → Event
  -- all packets of somebody else's message come to the port, on SMBus
  OtherSmbus : Message → Event
  -- bytes that both ends hear
  Noise : (on : Bus) (bytes : List ℕ) → Event
  -- the port forgets a requester's window
  Idles : (on : Bus) (requester : ℕ) → Event
  -- on the bench: the board's activity becomes this
  OnBench : Activity → Event

module _ (plans : Plans) where
  pub record Lab : Type 0 where
    pub board : State
    pub ipmb : PortState
    pub smbus : PortState
    pub manager : ManagerState plans
    pub frames : List LabFrame
    -- under each tag, the request whose start came last to the port; starts to another endpoint don't count
    pub opened : ℕ → ℕ

  -- the port on a bus
  abbrev pub port_on : Bus → Lab → PortState
  port_on Ipmb lab = lab.ipmb
  port_on Smbus lab = lab.smbus

  -- the lab with another port on a bus
  abbrev pub with_port : Bus → PortState → Lab → Lab
  with_port Ipmb port lab = record lab { ipmb = port }
  with_port Smbus port lab = record lab { smbus = port }

  -- how often the manager's window was forgotten on a bus
  abbrev pub idles_on : Bus → Lab → ℕ
  idles_on on lab = idles_of (own_on on lab.manager.names) (port_on on lab).log

  -- a frame that is sent now
  abbrev pub frame_now : Bus → Way → ℕ → Lab → Value → LabFrame
  frame_now on way request lab value = record { on = on; way = way; request = request; idles = idles_on on lab; value = value }

  -- frames are sent
  abbrev pub with_frames : Bus → Way → ℕ → List Value → Lab → Lab
  with_frames on way request values lab = record lab { frames = lab.frames ++ map (frame_now on way request lab) values }

  -- ---- the manager

  -- the manager sends, if it does
  abbrev pub sends : Option Sent → Lab → Lab
  sends None lab = lab
  sends (Some sent) lab = with_frames sent.on ToPort sent.request sent.values lab

  -- the manager went on
  abbrev pub manager_does : ManagerStepResult plans → Lab → Lab
  manager_does deed lab = sends deed.sent (record lab { manager = deed.manager })

  -- the manager was called, in a phase for the call or not
  abbrev pub call_does : Option (ManagerStepResult plans) → Lab → Lab
  call_does None lab = lab
  call_does (Some deed) lab = manager_does deed lab

  -- ---- the port

  -- what a port did, and the frames that it sent
  abbrev pub port_does : Bus → Way → ℕ → StepResult → Lab → Lab
  port_does on way request deed lab = with_frames on way request deed.sent (with_port on deed.port (record lab { board = deed.board }))

  -- a packet of a request comes: a start makes its request the last under the packet's tag
  abbrev pub opens : Value → ℕ → Lab → Lab
  opens (Asks asked) request lab = lab
  opens (Tells response) request lab = lab
  opens (Part packet) request lab =
      if packet.start && is_ours lab.smbus.eid packet then record lab { opened = λ tag. if tag == packet.envelope.tag then request else lab.opened tag } else lab

module _ (plans : Plans) (setup : BoardFile) where
  -- a frame comes to the port, if there is such a frame
  abbrev pub delivered : Option LabFrame → Lab plans → Lab plans
  delivered None lab = lab
  delivered (Some frame) lab =
      port_does plans frame.on ToManager frame.request (hears setup (port_on plans frame.on lab) lab.board frame.value) (opens plans frame.value frame.request lab)

  -- a frame comes to the manager, if there is such a frame
  abbrev pub returned : Option LabFrame → Lab plans → Lab plans
  returned None lab = lab
  returned (Some frame) lab = manager_does plans (manager_hears plans frame.value lab.manager) lab

  -- the lab after an event
  unfoldable pub step : Lab plans → Event → Lab plans
  step lab (Calls call) = call_does plans (called plans call lab.manager) lab
  step lab (ToBmc number) = delivered (slice_get lab.frames number) lab
  step lab (ToMgr number) = returned (slice_get lab.frames number) lab
  step lab (OtherIpmb request) = port_does plans Ipmb ToOthers 0 (hears setup lab.ipmb lab.board (Asks request)) lab
  step lab (OtherSmbus message) = port_does plans Smbus ToOthers 0 (hears_all setup lab.smbus lab.board message) lab
  step lab (Noise on bytes) = lab
  step lab (Idles on requester) = with_port plans on (idles requester (port_on plans on lab)) lab
  step lab (OnBench activity) = record lab { board = on_bench lab.board activity }

  -- the lab after events
  unfoldable pub run : List Event → Lab plans → Lab plans
  run [] lab = lab
  run (event ∷ events) lab = run events (step lab event)

  -- a lab as it begins: a board that has heard nothing, and a manager with a plan
  abbrev pub opening : Names → List plans.words.Op → (retries : ℕ) → Lab plans
  opening names plan retries = record {
    board = opened_board setup;
    ipmb = quiet_port names.peer_address names.peer_eid;
    smbus = quiet_port names.peer_wire names.peer_eid;
    manager = record { machine = opened_machine plans.words plan retries; names = names; listed = Some names; joined = nothing };
    frames = [];
    opened = λ tag. 0;
  }
