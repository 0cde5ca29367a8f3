-- What a lab looks at before an event, and what is wrong with the event.
use Rattle.std.specs.Prelude.{◌≡◌, ℕ, List, [], ◌∷◌, Option, slice_get}
use Rattle.two_wire.specs.declared.Bus.{Bus}
use Rattle.two_wire.specs.declared.Bus.TheVariants.{Ipmb, Smbus}
use Rattle.undo_plans.specs.declared.names.Names.{Names}
use Rattle.bmc_board.specs.Table.{is_changing}
use Rattle.model_undo.specs.Machine.{open_bus}
use Rattle.bmc_core.specs.PortSteps.{asked_in}
use Rattle.model_lab.specs.ManagerSteps.{board_plans}
use Rattle.model_lab.specs.declared.way.Way.{Way}
use Rattle.model_lab.specs.declared.fault.Fault.{Fault}
use Rattle.model_lab.specs.declared.fault.Fault.TheVariants.{Room, Changing, Impersonates}
use Rattle.model_lab.specs.Lab.{Lab, Noise, Idles}
use Rattle.model_lab.specs.Meaning.{request_of}
use Rattle.model_lab.specs.Faults.{Check, fault_of, first_of, check, delivery, is_full, is_own, message_changes}
use Rattle.text_lines.specs.declared.event.OtherRequest.{OtherRequest}
use Rattle.text_lines.specs.declared.event.OtherMessage.{OtherMessage}
use Rattle.lab_run.specs.declared.frames.SentFrame.{SentFrame}
use Rattle.lab_run.specs.declared.fault.Ages.{Ages}
use Rattle.lab_run.specs.FramesShown.{ShowsFrames}

-- this is the first fault of the delivery of the frame of this number to this end, in each lab that sent these frames
abbrev pub TellsDelivery : List SentFrame → Ages → Way → (number : ℕ) → Option Fault → Type 0
TellsDelivery sent marks way number fault = (names : Names) (lab : Lab (board_plans names)) → ShowsFrames names sent marks lab
    → fault ≡ first_of (delivery (board_plans names) way lab (slice_get lab.frames number))

-- this is the fault of a lab that sent these frames and has no room for more
abbrev pub TellsRoom : List SentFrame → Option Fault → Type 0
TellsRoom sent fault = (names : Names) (marks : Ages) (lab : Lab (board_plans names)) → ShowsFrames names sent marks lab
    → fault ≡ first_of (check Room (is_full (board_plans names) lab) ∷ [])

-- this is the fault of the noise, in each lab
abbrev pub TellsNoise : Bus → (bytes : List ℕ) → Option Fault → Type 0
TellsNoise on bytes fault = (names : Names) (lab : Lab (board_plans names)) → fault ≡ fault_of (board_plans names) lab (Noise on bytes)

-- this is the fault, where a requester's window is to be forgotten, in each lab of these names whose manager has a request open on this bus or on none
abbrev pub TellsIdle : Names → Bus → (requester : ℕ) → Option Bus → Option Fault → Type 0
TellsIdle names on requester where_open fault = (lab : Lab (board_plans names)) → lab.manager.names ≡ names → open_bus (board_plans names).words lab.manager.machine ≡ where_open
    → fault ≡ fault_of (board_plans names) lab (Idles on requester)

-- what is looked at in another requester's request, and in its message, but for room
abbrev pub request_checks : Names → OtherRequest → List Check
request_checks names request = check Changing (is_changing (asked_in (request_of names request))) ∷ check Impersonates (is_own Ipmb names request.requester.address) ∷ []

abbrev pub message_checks : Names → OtherMessage → List Check
message_checks names message = check Changing (message_changes message.from message.body) ∷ check Impersonates (is_own Smbus names message.from) ∷ []
