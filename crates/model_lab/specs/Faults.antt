-- What is wrong with an event: a lab takes no event that has a fault.
use Rattle.std.specs.Prelude.{◌≡◌, ℕ, ◌+◌, Bool, true, false, not, ◌==◌, nat_le, ◌&&◌, ◌||◌, List, [], ◌∷◌, length, find, Option, Some, None, if◌then◌else◌, slice_get}
use Rattle.std.specs.Option.{is_none}
use Rattle.two_wire.specs.declared.Bus.{Bus}
use Rattle.two_wire.specs.declared.Bus.TheVariants.{Ipmb, Smbus}
use Rattle.ipmb_frame.specs.Fault.{has_fault as has_frame_fault, faults as frame_faults}
use Rattle.mctp_net.specs.Grammar.{has_fault as has_packet_fault, faults as packet_faults}
use Rattle.pldm_base.specs.declared.message.PldmRequest.{PldmRequest}
use Rattle.pldm_base.specs.Message.{request_in as pldm_request_in}
use Rattle.cfg_records.specs.declared.board_file.BoardFile.{BoardFile}
use Rattle.model_bus.specs.Bytes.{pldm_message_type}
use Rattle.model_bus.specs.Circle.{span_of}
use Rattle.bmc_board.specs.Table.{is_changing}
use Rattle.model_undo.specs.Words.{Words}
use Rattle.model_undo.specs.Machine.{Machine, count_of, open_bus, same_bus}
use Rattle.model_lab.specs.declared.fault.Fault.{Fault}
use Rattle.model_lab.specs.declared.fault.Fault.TheVariants.{NoFrame, WrongWay, Aged, Changing, Impersonates, Forged, StillOpen, Room}
use Rattle.bmc_core.specs.PortSteps.{asked_in, pldm_asked}
use Rattle.undo_plans.specs.declared.names.Names.{Names}
use Rattle.model_lab.specs.ManagerSteps.{own_on, peer_on, Plans}
use Rattle.model_lab.specs.declared.way.Way.{Way}
use Rattle.model_lab.specs.declared.way.Way.TheVariants.{ToPort, ToManager, ToOthers}
use Rattle.model_lab.specs.Lab.{LabFrame, Event, Calls, ToBmc, ToMgr, OtherIpmb, OtherSmbus, Noise, Idles, OnBench, Lab, idles_on, step}

-- a fault, and whether an event has it
pub record Check : Type 0 where
  pub fault : Fault
  pub holds : Bool

abbrev pub check : Fault → Bool → Check
check fault holds = record { fault = fault; holds = holds }

-- the first of the faults that an event has
abbrev pub first_of : List Check → Option Fault
first_of [] = None
first_of (check ∷ checks) = if check.holds then Some check.fault else first_of checks

-- two ways are the same
abbrev pub same_way : Way → Way → Bool
same_way ToPort ToPort = true
same_way ToManager ToManager = true
same_way ToOthers ToOthers = true
same_way _ _ = false

-- the open request is on this bus
abbrev pub is_open_bus : Bus → Option Bus → Bool
is_open_bus on None = false
is_open_bus on (Some other) = same_bus on other

-- how many requests a machine began on a bus: the requests that were answered, and the open request
abbrev pub begun_on : (words : Words) → Bus → Machine words → ℕ
begun_on words on machine = count_of on machine.counts + (if is_open_bus on (open_bus words machine) then 1 else 0)

-- a request of the manager is open, on either bus
abbrev pub has_open : (words : Words) → Machine words → Bool
has_open words machine = not (is_none (open_bus words machine))

-- the address or endpoint is the manager's or the controller's
abbrev pub is_own : Bus → Names → ℕ → Bool
is_own on names from = from == own_on on names || from == peer_on on names

-- the PLDM request, if there is one, has a command that sets the configuration
abbrev pub pldm_changes : ℕ → Option PldmRequest → Bool
pldm_changes from None = false
pldm_changes from (Some request) = is_changing (pldm_asked from request)

-- a message from this endpoint is such a request
abbrev pub message_changes : ℕ → List ℕ → Bool
message_changes from [] = false
message_changes from (kind ∷ rest) = kind == pldm_message_type && pldm_changes from (pldm_request_in rest)

-- a lab that sent so many frames takes no event that could send another
abbrev pub most_frames : ℕ
most_frames = 65536

-- the bytes read as a frame of the bus
abbrev pub is_frame : Bus → List ℕ → Bool
is_frame Ipmb bytes = is_none (find (has_frame_fault bytes) frame_faults)
is_frame Smbus bytes = is_none (find (has_packet_fault bytes) packet_faults)

module _ (plans : Plans) where
  -- the manager began fewer requests on the frame's bus behind the frame's own than the span, and since the frame was sent the port didn't forget
  -- the manager's window there
  abbrev pub is_live : Lab plans → LabFrame → Bool
  is_live lab frame = nat_le (begun_on plans.words frame.on lab.manager.machine) (frame.request + span_of frame.on) && frame.idles == idles_on plans frame.on lab

  -- the lab sent as many frames as it can
  abbrev pub is_full : Lab plans → Bool
  is_full lab = nat_le most_frames (length lab.frames)

  -- the faults of a delivery of the frame to an end, by whether there is such a frame
  abbrev pub delivery : Way → Lab plans → Option LabFrame → List Check
  delivery way lab None = check NoFrame true ∷ []
  delivery way lab (Some frame) = check WrongWay (not (same_way frame.way way)) ∷ check Aged (not (is_live lab frame)) ∷ check Room (is_full lab) ∷ []

  -- the faults of each event, in their order
  abbrev pub checks : Lab plans → Event → List Check
  checks lab (Calls call) = check Room (is_full lab) ∷ []
  checks lab (ToBmc number) = delivery ToPort lab (slice_get lab.frames number)
  checks lab (ToMgr number) = delivery ToManager lab (slice_get lab.frames number)
  checks lab (OtherIpmb request) = check Changing (is_changing (asked_in request)) ∷ check Impersonates (is_own Ipmb lab.manager.names request.header.requester.address) ∷ check Room (is_full lab) ∷ []
  checks lab (OtherSmbus message) =
      check Changing (message_changes message.envelope.source_eid message.body) ∷ check Impersonates (is_own Smbus lab.manager.names message.envelope.source_eid) ∷ check Room (is_full lab) ∷ []
  checks lab (Noise on bytes) = check Forged (is_frame on bytes) ∷ []
  checks lab (Idles on requester) = check StillOpen (requester == own_on on lab.manager.names && has_open plans.words lab.manager.machine) ∷ []
  checks lab (OnBench activity) = []

  -- the first fault of an event
  abbrev pub fault_of : Lab plans → Event → Option Fault
  fault_of lab event = first_of (checks lab event)

  -- the lab takes every event of a schedule, where it happens
  abbrev pub AllTaken : BoardFile → List Event → Lab plans → Type 0
  AllTaken setup [] lab = Unit {0}
  AllTaken setup (event ∷ events) lab = (fault_of lab event ≡ None) × AllTaken setup events (step plans setup lab event)
