-- What the calls make of a lab of the model, on a board of a file.
use Rattle.std.specs.Prelude.{ℕ, slice_get}
use Rattle.two_wire.specs.declared.Bus.{Bus}
use Rattle.two_wire.specs.declared.Bus.TheVariants.{Ipmb, Smbus}
use Rattle.cfg_records.specs.declared.board_file.BoardFile.{BoardFile}
use Rattle.bmc_board.specs.declared.bench.Bench.{Bench}
use Rattle.bmc_board.specs.Sensing.{bench_of}
use Rattle.model_undo.specs.declared.call.Call.{Call}
use Rattle.bmc_core.specs.Values.{Asks}
use Rattle.bmc_core.specs.PortSteps.{hears, hears_all, idles}
use Rattle.model_lab.specs.ManagerSteps.{called, remade}
use Rattle.model_lab.specs.declared.way.Way.TheVariants.{ToOthers}
use Rattle.model_lab.specs.Lab.{Lab as LabModel, call_does, delivered, returned, port_does, port_on, with_port}
use Rattle.model_lab.specs.Meaning.{lab_names, request_of, message_of}
use Rattle.model_lab.specs.Played.{plans}
use Rattle.text_lines.specs.declared.event.OtherRequest.{OtherRequest}
use Rattle.text_lines.specs.declared.event.OtherMessage.{OtherMessage}

-- the manager is called
abbrev pub calls : Call → BoardFile → LabModel plans → LabModel plans
calls call file x = call_does plans (called plans call x.manager) x

-- the frame of this number comes to the port
abbrev pub delivers : (number : ℕ) → BoardFile → LabModel plans → LabModel plans
delivers number file x = delivered plans file (slice_get x.frames number) x

-- or to the manager
abbrev pub returns : (number : ℕ) → BoardFile → LabModel plans → LabModel plans
returns number file x = returned plans file (slice_get x.frames number) x

-- the port on IPMB hears another requester's request
abbrev pub hears_request : OtherRequest → BoardFile → LabModel plans → LabModel plans
hears_request request file x = port_does plans Ipmb ToOthers 0 (hears file x.ipmb x.board (Asks (request_of lab_names request))) x

-- the port on SMBus hears another requester's message
abbrev pub hears_message : OtherMessage → BoardFile → LabModel plans → LabModel plans
hears_message message file x = port_does plans Smbus ToOthers 0 (hears_all file x.smbus x.board (message_of lab_names message)) x

-- the port on a bus forgets a requester's window
abbrev pub forgets : Bus → (requester : ℕ) → BoardFile → LabModel plans → LabModel plans
forgets on requester file x = with_port plans on (idles requester (port_on plans on x)) x

-- the board's activity changes beside requests
abbrev pub benches : Bench → BoardFile → LabModel plans → LabModel plans
benches happened file x = record x { board = (bench_of file x.board happened).1 }

-- the manager's process ends, and the manager is made again of what it wrote down
abbrev pub restarts : BoardFile → LabModel plans → LabModel plans
restarts file x = record x { manager = remade plans x.manager }
