-- What a port of the lab heard, before it sends; and what it did with what it heard.
use Rattle.std.specs.Prelude.{◌≡◌, ℕ, ◌==◌, false, List, map, find, Option, Some, option_map, Result, Ok, Err, if◌then◌else◌, slice_get}
use Rattle.std.specs.List.{AllZip}
use Rattle.two_wire.specs.declared.Bus.{Bus}
use Rattle.two_wire.specs.declared.Bus.TheVariants.{Ipmb, Smbus}
use Rattle.ipmb_frame.specs.declared.message.Request.{Request}
use Rattle.ipmb_frame.specs.Fault.{has_fault as has_frame_fault, faults as frame_faults}
use Rattle.mctp_net.specs.Grammar.{has_fault as has_packet_fault, faults as packet_faults}
use Rattle.cfg_records.specs.declared.board_file.BoardFile.{BoardFile}
use Rattle.bmc_core.specs.Values.{Value, Asks, Tells, Part, written, IsFrameOn, parts_of}
use Rattle.bmc_core.specs.PortSteps.{PortState, StepResult, hears, stays}
use Rattle.model_lab.specs.declared.way.Way.{Way}
use Rattle.model_lab.specs.declared.way.Way.TheVariants.{ToOthers}
use Rattle.model_lab.specs.Faults.{is_frame}
use Rattle.model_lab.specs.Lab.{LabFrame, Lab as LabModel, port_on, with_port, with_frames, port_does}
use Rattle.bmc_core.specs.declared.out.Out.{Out}
use Rattle.bmc_core.specs.declared.out.Disposition.{Disposition}
use Rattle.bmc_core.specs.declared.out.Disposition.TheVariants as done
use Rattle.bmc_core.specs.declared.out.Reason.{Reason}
use Rattle.bmc_core.specs.declared.out.Reason.TheVariants as reason
use Rattle.bmc_core.specs.Outs.{sent}
use Rattle.bmc_core.specs.IpmbShown as ipmb
use Rattle.bmc_core.specs.SmbusHeard as smbus
use Rattle.text_lines.specs.declared.event.Event.{Event}
use Rattle.text_lines.specs.declared.event.Event.TheVariants as event
use Rattle.undo_plans.specs.declared.names.Names.{Names}
use Rattle.model_lab.specs.Meaning.{message_of}
use Rattle.model_lab.specs.Played.{plans}
use Rattle.text_lines.specs.declared.event.OtherMessage.{OtherMessage}
use Rattle.lab_run.specs.declared.lab_state.Lab.{Lab}
use Rattle.lab_run.specs.declared.ages.FrameAge.{FrameAge}
use Rattle.lab_run.specs.Shown.{Represents, ForRepresented}

-- the port is to send the frames of these values, and a reader of each frame gives its value
pub record HasFrames (on : Bus) (values : List Value) (out : Out) : Type 0 where
  pub frames : sent out ≡ map written values
  pub read : AllZip (IsFrameOn on) values (sent out)

-- the lab is as the deed of its port on this bus leaves it, before the deed's frames are sent
pub record HasHeard (file : BoardFile) (on : Bus) (lab_model : LabModel plans) (deed : StepResult) (lab : Lab) : Type 0 where
  pub shows : Represents file lab (with_port plans on deed.port (record lab_model { board = deed.board }))
  pub out : HasFrames on deed.sent lab.out

-- the frames of these values are sent, if the port is to send them, this way and with this mark
abbrev pub SendsOut : Way → FrameAge → Lab → Lab → Type 0
SendsOut way mark old new = (file : BoardFile) (lab_model : LabModel plans) (values : List Value) → Represents file old lab_model → HasFrames mark.on values old.out
    → Represents file new (with_frames plans mark.on way mark.request values lab_model)

-- the packets of another requester's message to the controller of these names
abbrev pub packets_of : Names → OtherMessage → List Value
packets_of names message = map (λ p. Part p) (parts_of (message_of names message))

-- ---- what a port did

-- what a port on IPMB at this address hears in a frame: a request to the address, or nothing, for a reason
abbrev pub heard_at : ℕ → Value → Result Request Reason
heard_at wire (Asks request) = if request.header.responder.address == wire then Ok request else Err reason.NotOurs
heard_at wire (Tells response) = if response.header.requester.address == wire then Err reason.NotRequest else Err reason.NotOurs
heard_at wire (Part packet) = Err reason.NotOurs

-- what a port on SMBus does with a frame
abbrev pub done_with : PortState → Value → Disposition
done_with port (Part packet) = smbus.done_of (smbus.taken port packet) (smbus.heard_in port packet)
done_with port _ = done.Ignored reason.NotOurs

-- what the port on a bus does with a frame: it has a new request carried out, and gives a repeat the reply that it keeps
abbrev pub done_on : Bus → PortState → Value → Disposition
done_on Ipmb port value = ipmb.done_of port (heard_at port.wire value)
done_on Smbus port value = done_with port value

-- why the bytes are no frame of the bus, where they are none: their first fault
abbrev pub fault_in : Bus → List ℕ → Option Reason
fault_in Ipmb bytes = option_map reason.Frame (find (has_frame_fault bytes) frame_faults)
fault_in Smbus bytes = option_map reason.Packet (find (has_packet_fault bytes) packet_faults)

-- the port on the bus ignored the bytes for their first fault
abbrev pub IgnoresFrame : Bus → List ℕ → Disposition → Type 0
IgnoresFrame on bytes what = option_map done.Ignored (fault_in on bytes) ≡ Some what

-- ---- bytes on a bus

-- this holds of each lab of the model that the lab shows, and of each value whose frame the bytes are
abbrev pub ForFrame : Bus → (bytes : List ℕ) → Lab → (BoardFile → LabModel plans → Value → Type 0) → Type 0
ForFrame on bytes lab Holds = (file : BoardFile) (lab_model : LabModel plans) (value : Value) → Represents file lab lab_model → IsFrameOn on value bytes → Holds file lab_model value

-- this holds of each lab of the model that the lab shows, where the bytes are no frame
abbrev pub ForNoise : Bus → (bytes : List ℕ) → Lab → (BoardFile → LabModel plans → Type 0) → Type 0
ForNoise on bytes lab Holds = ForRepresented lab (λ file lab_model. is_frame on bytes ≡ false → Holds file lab_model)

-- noise changes nothing
abbrev pub StaysAtNoise : Bus → (bytes : List ℕ) → Lab → Lab → Type 0
StaysAtNoise on bytes old new = ForNoise on bytes old (λ file lab_model. Represents file new lab_model)

-- the port ignores noise for its first fault
abbrev pub IgnoresNoise : Bus → (bytes : List ℕ) → Lab → Lab → Type 0
IgnoresNoise on bytes old new = ForNoise on bytes old (λ _ _. IgnoresFrame on bytes new.out.done)

-- The port on the bus hears the bytes: a frame as the port of the model hears it, and noise as none.
pub record PortHears (on : Bus) (bytes : List ℕ) (old new : Lab) : Type 0 where
  pub heard : ForFrame on bytes old (λ file x value. HasHeard file on x (hears file (port_on plans on x) x.board value) new)
  pub done : ForFrame on bytes old (λ file x value. new.out.done ≡ done_on on (port_on plans on x) value)
  pub noise : ForNoise on bytes old (λ file x. HasHeard file on x (stays (port_on plans on x) x.board) new)
  pub ignored : IgnoresNoise on bytes old new

-- the port on the bus hears somebody else's frame, and what it sends goes to others
abbrev pub HearsOther : Bus → (bytes : List ℕ) → Lab → Lab → Type 0
HearsOther on bytes old new = ForFrame on bytes old (λ file x value. Represents file new (port_does plans on ToOthers 0 (hears file (port_on plans on x) x.board value) x))

-- The port's `Out` says what the controller did with the frame that an event delivers, and why it ignored noise.
abbrev pub EventResult : Event → Lab → Lab → Type 0
EventResult (event.ToBmc number) old new =
    (file : BoardFile) (lab_model : LabModel plans) (frame : LabFrame) → Represents file old lab_model → slice_get lab_model.frames number ≡ Some frame
    → new.out.done ≡ done_on frame.on (port_on plans frame.on lab_model) frame.value
EventResult (event.Noise on bytes) old new = ForRepresented old (λ _ _. IgnoresFrame on bytes new.out.done)
EventResult _ old new = Unit {0}
