-- The frame that an event delivers, and what the controller does with it.
use Rattle.std.specs.Prelude.{◌-◌, nat_lt, Option, Some, None, option_map, slice_get}
use Rattle.model_lab.specs.Lab.{LabFrame, Lab as LabModel, port_on}
use Rattle.model_lab.specs.Faults.{begun_on}
use Rattle.bmc_core.specs.declared.out.Disposition.{Disposition}
use Rattle.text_lines.specs.declared.event.Event.{Event}
use Rattle.text_lines.specs.declared.event.Event.TheVariants as event
use Rattle.model_lab.specs.Played.{plans}
use Rattle.lab_run.specs.declared.note.Delivery.{Delivery}
use Rattle.lab_run.specs.declared.lab_state.Lab.{Lab}
use Rattle.lab_run.specs.Hearing.{done_on}

-- a frame that comes now: it is late where a request was begun on its bus behind its own request
abbrev pub comes : LabModel plans → LabFrame → Delivery
comes lab_model frame = record { on = frame.on; late = nat_lt 1 (begun_on plans.words frame.on lab_model.manager.machine - frame.request) }

-- the frame that the event delivers, if there is such a frame
abbrev pub comes_at : LabModel plans → Event → Option Delivery
comes_at lab_model (event.ToBmc number) = option_map (comes lab_model) (slice_get lab_model.frames number)
comes_at lab_model (event.ToMgr number) = option_map (comes lab_model) (slice_get lab_model.frames number)
comes_at lab_model _ = None

-- what the controller does with the frame that the event delivers
abbrev pub done_at : LabModel plans → Event → Option Disposition
done_at lab_model (event.ToBmc number) = option_map (λ f. done_on f.on (port_on plans f.on lab_model) f.value) (slice_get lab_model.frames number)
done_at lab_model _ = None

-- what the controller's port did last, where the event delivered a frame to it
abbrev pub done_in : Event → Lab → Option Disposition
done_in (event.ToBmc number) lab = Some lab.out.done
done_in _ lab = None
