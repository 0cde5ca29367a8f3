-- The packet that an event brings to the controller's port on SMBus.
use Rattle.std.specs.Prelude.{ℕ, Option, Some, None, slice_get}
use Rattle.mctp_net.specs.Assembly.{is_ours}
use Rattle.bmc_core.specs.Values.{Value, Asks, Tells, Part}
use Rattle.model_lab.specs.Lab.{LabFrame, Lab as LabModel}
use Rattle.text_lines.specs.declared.event.Event.{Event}
use Rattle.text_lines.specs.declared.event.Event.TheVariants as event
use Rattle.model_lab.specs.Played.{plans}
use Rattle.lab_run.specs.declared.part.ManagerPart.{ManagerPart}

-- what the lab looks at in a frame of this request, if the frame is a packet
abbrev pub part_of : LabModel plans → ℕ → Value → Option ManagerPart
part_of lab_model request (Asks asked) = None
part_of lab_model request (Tells response) = None
part_of lab_model request (Part packet) = Some (record { start = packet.start; tag = packet.envelope.tag; request = request; ours = is_ours lab_model.smbus.eid packet })

abbrev pub part_in : LabModel plans → Option LabFrame → Option ManagerPart
part_in lab_model None = None
part_in lab_model (Some frame) = part_of lab_model frame.request frame.value

-- the packet that the event brings, if it brings one
abbrev pub part_at : LabModel plans → Event → Option ManagerPart
part_at lab_model (event.ToBmc number) = part_in lab_model (slice_get lab_model.frames number)
part_at lab_model _ = None
