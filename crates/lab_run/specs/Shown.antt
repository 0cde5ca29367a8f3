-- The lab of the model that a lab shows.
use Rattle.std.specs.Prelude.{◌≡◌, ◌<◌, ◌≤◌, ℕ, suc, List, OnOk, Option, Some, None, Result, Ok, Err}
use Rattle.std.specs.List.{AllZip}
use Rattle.two_wire.specs.declared.Bus.{Bus}
use Rattle.two_wire.specs.declared.Bus.TheVariants as bus
use Rattle.cfg_records.specs.declared.board_file.BoardFile.{BoardFile}
use Rattle.bmc_board.specs.State.{state_of}
use Rattle.model_lab.specs.Lab.{LabFrame, Lab as LabModel, idles_on, sends, opening}
use Rattle.bmc_core.specs.declared.ipmb_port.IpmbPort.{IpmbPort}
use Rattle.bmc_core.specs.declared.smbus_port.SmbusPort.{SmbusPort}
use Rattle.bmc_core.specs.IpmbShown as ipmb
use Rattle.bmc_core.specs.SmbusShown as smbus
use Rattle.bmc_core.specs.Values.{IsFrameOn}
use Rattle.bmc_core.specs.PortSteps.{quiet_port}
use Rattle.model_lab.specs.ManagerSteps.{Sent as AllSent}
use Rattle.undo_plans.specs.declared.names.Names.{Names}
use Rattle.undo_plans.specs.declared.plan.Plan.{Plan}
use Rattle.undo_core.specs.declared.manager.Manager.{Manager}
use Rattle.undo_core.specs.declared.sending.Sent.{Sent}
use Rattle.undo_core.specs.Shown as manager
use Rattle.lab_run.specs.declared.frames.SentFrame.{SentFrame}
use Rattle.model_lab.specs.Meaning.{lab_names}
use Rattle.model_lab.specs.Played.{plans, fault_at, happens}
use Rattle.lab_run.specs.FramesShown.{IsFrame}
use Rattle.text_lines.specs.declared.event.Event.{Event}
use Rattle.lab_run.specs.declared.lab_state.Idles.{Idles}
use Rattle.lab_run.specs.declared.lab_state.Lab.{Lab}
use Rattle.lab_run.specs.declared.step.Refused.{Refused}
use Rattle.lab_run.specs.declared.step.Refused.TheVariants as refused

-- how often the manager's window was forgotten on a bus
abbrev pub idles_in : Bus → Idles → ℕ
idles_in bus.Ipmb idles = idles.ipmb
idles_in bus.Smbus idles = idles.smbus

-- how many elements a slice has at most
abbrev pub longest_slice : ℕ
longest_slice = 9223372036854775807

-- each count of forgotten windows can go up by one
abbrev pub CanCountOn : Idles → Type 0
CanCountOn idles = (on : Bus) → idles_in on idles < longest_slice

-- no window was forgotten
abbrev pub ForgotNone : Idles → Type 0
ForgotNone idles = (on : Bus) → idles_in on idles ≡ 0

-- on each bus at most one more window was forgotten
abbrev pub ForgetsOneMore : Idles → Idles → Type 0
ForgetsOneMore old new = (on : Bus) → idles_in on new ≤ suc (idles_in on old)

-- the frame was sent so, and its bytes are its value on its bus
pub record IsSentFrame (sent : SentFrame) (frame : LabFrame) : Type 0 where
  pub is : IsFrame sent frame
  pub read : IsFrameOn frame.on frame.value sent.bytes

-- the lab is this lab of the model, on a board of this file
pub record Represents (file : BoardFile) (lab : Lab) (lab_model : LabModel plans) : Type 0 where
  pub setup : lab.board.setup ≡ file
  pub board : lab_model.board ≡ state_of lab.board
  pub ipmb : ipmb.Represents lab.ipmb lab_model.ipmb
  pub smbus : smbus.Represents lab.smbus lab_model.smbus
  pub manager : manager.Represents lab_names lab.manager lab_model.manager
  pub named : lab.names ≡ lab_names
  pub frames : AllZip IsSentFrame lab.frames lab_model.frames
  pub idles : (on : Bus) → idles_on plans on lab_model ≡ idles_in on lab.idles

-- ---- a lab as it begins

-- the controller's port on IPMB, and the one on SMBus
abbrev pub BeginsOnIpmb : IpmbPort → Type 0
BeginsOnIpmb port = ipmb.Represents port (quiet_port lab_names.peer_address lab_names.peer_eid)

abbrev pub BeginsOnSmbus : SmbusPort → Type 0
BeginsOnSmbus port = smbus.Represents port (quiet_port lab_names.peer_wire lab_names.peer_eid)

-- a manager of a plan, with its retries
abbrev pub HasPlan : Names → Plan → Manager → Type 0
HasPlan names plan opened = manager.Represents names opened (manager.opened_with names plan.steps plan.retries)

-- a lab with a plan, on a board of this file
abbrev pub BeginsLab : BoardFile → List plans.words.Op → (retries : ℕ) → Lab → Type 0
BeginsLab file plan retries lab = Represents file lab (opening plans file lab_names plan retries)

-- ---- what the calls make of a lab

-- this holds of each lab of the model that it shows, on a board of each file
abbrev pub ForRepresented : Lab → (BoardFile → LabModel plans → Type 0) → Type 0
ForRepresented lab Holds = (file : BoardFile) (lab_model : LabModel plans) → Represents file lab lab_model → Holds file lab_model

-- this holds of each lab of the model that the lab shows, and of each frame of the model that this frame is
abbrev pub ForSent : Lab → SentFrame → (LabModel plans → LabFrame → Type 0) → Type 0
ForSent lab sent Holds = (file : BoardFile) (lab_model : LabModel plans) (frame : LabFrame) → Represents file lab lab_model → IsSentFrame sent frame → Holds lab_model frame

-- whatever lab of the model the lab showed, on a board of whatever file, it goes on to the lab that `makes` gives
abbrev pub BecomesLab : Lab → Lab → (BoardFile → LabModel plans → LabModel plans) → Type 0
BecomesLab old new makes = ForRepresented old (λ file x. Represents file new (makes file x))

-- it goes on so, unless memory was refused
abbrev pub StepUnlessMemory : {E : Type 0} → Result (Unit {0}) E → Lab → Lab → (BoardFile → LabModel plans → LabModel plans) → Type 0
StepUnlessMemory result old new makes = OnOk result (BecomesLab old new makes)

-- the frames that the manager sends, if it sends some, are sent in each lab of the model that it showed
abbrev pub SendsFrame : Option Sent → Lab → Lab → Type 0
SendsFrame sent old new = (file : BoardFile) (lab_model : LabModel plans) (all_sent : Option AllSent) → Represents file old lab_model → manager.IsSent sent all_sent
    → Represents file new (sends plans all_sent lab_model)

-- An event is asked of a lab. It happens where it has no fault, and else nothing changes. Where memory is refused, nothing is said.
abbrev pub EventStep : Event → Lab → Result (Unit {0}) Refused → Lab → Type 0
EventStep event old (Ok done) new =
    ForRepresented old (λ file x. (fault_at file x event ≡ None) × Represents file new (happens file event x))
EventStep event old (Err (refused.Fault fault)) new =
    (new ≡ old) × ForRepresented old (λ file x. fault_at file x event ≡ Some fault)
EventStep event old (Err refused.Memory) new = Unit {0}
