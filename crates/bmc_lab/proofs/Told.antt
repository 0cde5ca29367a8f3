-- What is said of a run, once it is known what the port did.
use Rattle.std.proofs.Common.{Option, ◌≡◌, ℕ, List, Result, Ok, Err, IfOk, string_bytes, subst}
use Rattle.two_wire.specs.declared.Bus.{Bus}
use Rattle.cfg_records.specs.declared.board_file.BoardFile.{BoardFile}
use Rattle.bmc_core.specs.declared.out.Out.{Out}
use Rattle.bmc_core.specs.declared.port.At.{At}
use Rattle.bmc_core.specs.declared.port.Port.{Port}
use Rattle.bmc_board.specs.State.{State, opened}
use Rattle.bmc_core.specs.Outs.{sent}
use Rattle.bmc_core.specs.PortSteps.{quiet_port}
use Rattle.bmc_core.specs.Port.{bus_of, Represents, PortStep}
use Rattle.app_base.specs.declared.report.Report.{Report}
use Rattle.bmc_lab.specs.Report.{text_of, status_of}
use Rattle.bmc_lab.specs.Run.{controller, IsBoardOf, IsFreshPort, FramePrints}

-- a port that is made for the controller's place is fresh
pub is_fresh : (port : Port) (bus : Bus) (at : At) → at ≡ controller → bus_of port ≡ bus → Represents port (quiet_port at.wire at.eid) → IsFreshPort bus port
is_fresh port bus at place same shows = record {
  stands_on = same;
  quiet = subst (λ (a : At). Represents port (quiet_port a.wire a.eid)) place shows;
}

-- a port, over a board of this file that was opened, hears as one of the file's opened state
pub as_opened : (port : Port) (setup file : BoardFile) (before : State) (bytes : List ℕ) (out : Out) (next : Port) (after : State) → setup ≡ file → before ≡ opened file
    → PortStep setup port before bytes out next after → PortStep file port (opened file) bytes out next after
as_opened port setup file before bytes out next after same begins heard =
    subst (λ (f : BoardFile). PortStep f port (opened file) bytes out next after) same
    (subst (λ (s : State). PortStep setup port s bytes out next after) begins heard)

-- a report of what the port did tells it
pub told : {E : Type 0} (r : Result Report E) (board : Option (List ℕ)) (bus : Bus) (bytes : List ℕ) (file : BoardFile) (port : Port) (out : Out) (next : Port) (after : State) → IsBoardOf board file → IsFreshPort bus port → PortStep file port (opened file) bytes out next after
    → IfOk r (λ report. string_bytes report.text ≡ text_of out) → IfOk r (λ report. report.status ≡ status_of (sent out)) → IfOk r (λ report. FramePrints board bus bytes (string_bytes report.text) report.status)
told (Ok report) board bus bytes file port out next after is_board is_new is_heard is_said is_ended = record { file = file; opens = is_board; port = port; fresh = is_new; out = out; next = next; after = after; heard = is_heard; said = is_said; ended = is_ended }
told (Err e) board bus bytes file port out next after is_board is_new is_heard is_said is_ended = tt
