-- One frame sent to a fresh controller.
use Rattle.std.specs.Prelude.{◌≡◌, ℕ, List, Option, None, Some, Ok, Err}
use Rattle.two_wire.specs.declared.Bus.{Bus}
use Rattle.cfg_records.specs.declared.board_file.BoardFile.{BoardFile}
use Rattle.cfg_records.specs.Sample.{IsSampleBoard}
use Rattle.bmc_core.specs.declared.out.Out.{Out}
use Rattle.bmc_core.specs.declared.port.At.{At}
use Rattle.bmc_core.specs.declared.port.Port.{Port}
use Rattle.bmc_board.specs.State.{State, opened}
use Rattle.bmc_core.specs.Outs.{sent}
use Rattle.two_wire.specs.Places.{controller_wire, controller_eid}
use Rattle.bmc_core.specs.PortSteps.{quiet_port}
use Rattle.bmc_core.specs.Port.{bus_of, Represents, PortStep}
use Rattle.text_board.specs.declared.fault.FileFault.{FileFault}
use Rattle.text_board.specs.Holds.{ReadsText}
use Rattle.app_base.specs.declared.console.Stream.{Stream}
use Rattle.app_base.specs.declared.console.Stream.TheVariants.{Output, Error}
use Rattle.app_base.specs.declared.status.Status.{Status}
use Rattle.app_base.specs.declared.status.Status.TheVariants.{RefusedFile}
use Rattle.app_base.specs.Report.{board_line}
use Rattle.bmc_lab.specs.Report.{text_of, status_of}

-- where the controller is
abbrev pub controller : At
controller = record { wire = controller_wire; eid = controller_eid }

-- a controller's port on a bus, which has heard nothing yet
pub record IsFreshPort (bus : Bus) (port : Port) : Type 0 where
  pub stands_on : bus_of port ≡ bus
  pub quiet : Represents port (quiet_port controller.wire controller.eid)

-- the board is the one that the file's text holds, or the sample board where no file is given
abbrev pub IsBoardOf : Option (List ℕ) → BoardFile → Type 0
IsBoardOf None file = IsSampleBoard file
IsBoardOf (Some text) file = ReadsText text (Ok file)

-- the file's text holds no board, for this fault
abbrev pub IsFaultOf : Option (List ℕ) → FileFault → Type 0
IsFaultOf None why = ⊥
IsFaultOf (Some text) why = ReadsText text (Err why)

-- what is said of the bytes: what a fresh controller with the board does with them where it hears them on the bus
pub record FramePrints (board : Option (List ℕ)) (bus : Bus) (bytes text : List ℕ) (status : Status) : Type 0 where
  pub file : BoardFile
  pub opens : IsBoardOf board file
  pub port : Port
  pub fresh : IsFreshPort bus port
  pub out : Out
  pub next : Port
  pub after : State
  pub heard : PortStep file port (opened file) bytes out next after
  pub said : text ≡ text_of out
  pub ended : status ≡ status_of (sent out)

-- what a run says, and where: on standard output what the controller did, or on standard error why the file holds no board
abbrev pub PrintsFrame : Option (List ℕ) → Bus → List ℕ → Stream → List ℕ → Status → Type 0
PrintsFrame board bus bytes Output text status = FramePrints board bus bytes text status
PrintsFrame board bus bytes Error text status = (why : FileFault) × IsFaultOf board why × (text ≡ board_line why) × (status ≡ RefusedFile)
