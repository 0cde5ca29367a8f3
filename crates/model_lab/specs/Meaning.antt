-- What each event of a schedule is in the lab's model.
use Rattle.std.specs.Prelude.{ℕ, true}
use Rattle.ipmb_frame.specs.declared.message.Request.{Request}
use Rattle.mctp_net.specs.declared.message.Message.{Message}
use Rattle.cfg_records.specs.declared.board_file.BoardFile.{BoardFile}
use Rattle.bmc_board.specs.State.{State}
use Rattle.bmc_board.specs.Sensing.{bench_of}
use Rattle.bmc_board.specs.declared.bench.Bench.{Bench}
use Rattle.bmc_board.specs.declared.bench.Bench.TheVariants as bench
use Rattle.two_wire.specs.Places.{controller_wire, controller_eid}
use Rattle.undo_plans.specs.declared.names.Names.{Names}
use Rattle.text_lines.specs.declared.event.OtherRequest.{OtherRequest}
use Rattle.text_lines.specs.declared.event.OtherMessage.{OtherMessage}
use Rattle.text_lines.specs.declared.event.BenchEvent.{BenchEvent}
use Rattle.text_lines.specs.declared.event.BenchEvent.TheVariants.{Scan, Tick}
use Rattle.text_lines.specs.declared.event.Event.{Event}
use Rattle.text_lines.specs.declared.event.Event.TheVariants as event
use Rattle.model_lab.specs.Lab.{Event as LabEvent, Calls, ToBmc, ToMgr, OtherIpmb, OtherSmbus, Noise, Idles, OnBench}

-- the lab's names: the manager, and the controller
abbrev pub lab_names : Names
lab_names = record {
  own_address = 0x2C;
  peer_address = controller_wire;
  own_wire = 0x30;
  peer_wire = controller_wire;
  own_eid = 0x08;
  peer_eid = controller_eid;
}

-- the two-wire address of all others on SMBus
abbrev pub other_wire : ℕ
other_wire = 0x42

-- somebody else's request goes to the controller
abbrev pub request_of : Names → OtherRequest → Request
request_of names other_request = record {
  header = record {
    responder = record { address = names.peer_address; lun = other_request.responder };
    requester = other_request.requester;
    net_fn = other_request.net_fn;
    sequence = other_request.sequence;
    command = other_request.command;
  };
  body = other_request.body;
}

-- somebody else's message goes to the controller, under tag 0, which the sender owns
abbrev pub message_of : Names → OtherMessage → Message
message_of names message = record {
  envelope = record {
    destination = names.peer_wire;
    source = other_wire;
    destination_eid = names.peer_eid;
    source_eid = message.from;
    tag_owner = true;
    tag = 0;
  };
  body = message.body;
}

-- what an event on the bench is to the controller's board
abbrev pub on_board : BenchEvent → Bench
on_board (Scan sensor reading) = bench.Reading sensor reading
on_board Tick = bench.Tick

-- the event of the lab's model, where the board of this file is in this state
abbrev pub event_of : Names → BoardFile → State → Event → LabEvent
event_of names file before (event.Calls call) = Calls call
event_of names file before (event.ToBmc number) = ToBmc number
event_of names file before (event.ToMgr number) = ToMgr number
event_of names file before (event.OtherIpmb request) = OtherIpmb (request_of names request)
event_of names file before (event.OtherSmbus message) = OtherSmbus (message_of names message)
event_of names file before (event.Noise on bytes) = Noise on bytes
event_of names file before (event.Idle on requester) = Idles on requester
event_of names file before (event.OnBench happened) = OnBench (bench_of file before (on_board happened)).1.activity
