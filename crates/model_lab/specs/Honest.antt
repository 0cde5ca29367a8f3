-- What the links and the other requesters are trusted with, in words of the lab.
use Rattle.std.specs.Prelude.{◌≡◌, ◌≢◌, ◌⊎◌, ℕ, ◌+◌, ◌<◌, ◌≤◌, false, List, [], ◌∷◌, All, Some, None, slice_get}
use Rattle.two_wire.specs.declared.Bus.{Bus}
use Rattle.two_wire.specs.declared.Bus.TheVariants.{Ipmb, Smbus}
use Rattle.ipmb_frame.specs.declared.message.Msg.{Msg}
use Rattle.ipmb_frame.specs.Grammar.{IsMessage}
use Rattle.mctp_net.specs.declared.packet.Packet.{Packet}
use Rattle.mctp_net.specs.Grammar.{IsPacket}
use Rattle.pldm_base.specs.declared.message.PldmRequest.{PldmRequest}
use Rattle.pldm_base.specs.Message.{IsRequest}
use Rattle.cfg_records.specs.declared.board_file.BoardFile.{BoardFile}
use Rattle.model_bus.specs.Bytes.{pldm_message_type}
use Rattle.model_bus.specs.Circle.{span_of}
use Rattle.bmc_board.specs.Table.{is_changing}
use Rattle.model_undo.specs.Machine.{open_bus}
use Rattle.bmc_core.specs.PortSteps.{asked_in, pldm_asked}
use Rattle.undo_plans.specs.declared.names.Names.{Names}
use Rattle.model_lab.specs.ManagerSteps.{own_on, peer_on, Plans}
use Rattle.model_lab.specs.declared.way.Way.{Way}
use Rattle.model_lab.specs.declared.way.Way.TheVariants.{ToPort, ToManager}
use Rattle.model_lab.specs.Lab.{LabFrame, Event, Calls, ToBmc, ToMgr, OtherIpmb, OtherSmbus, Noise, Idles, OnBench, Lab, idles_on, step}
use Rattle.model_lab.specs.declared.fault.Fault.{Fault}
use Rattle.model_lab.specs.declared.fault.Fault.TheVariants.{Room}
use Rattle.model_lab.specs.Faults.{begun_on, fault_of}

-- the byte on this bus is neither the manager's nor the controller's
abbrev pub IsAnother : Bus → Names → ℕ → Type 0
IsAnother on names from = (from ≢ own_on on names) × (from ≢ peer_on on names)

-- a PLDM message from this endpoint is no request whose command sets the configuration
abbrev pub ChangesNothing : ℕ → List ℕ → Type 0
ChangesNothing from body = (rest : List ℕ) (request : PldmRequest) → body ≡ pldm_message_type ∷ rest → IsRequest request rest → is_changing (pldm_asked from request) ≡ false

-- the bytes are no frame of the bus
abbrev pub IsNoFrame : Bus → List ℕ → Type 0
IsNoFrame Ipmb bytes = (message : Msg) → ¬ IsMessage message bytes
IsNoFrame Smbus bytes = (packet : Packet) → ¬ IsPacket packet bytes

module _ (plans : Plans) where
  -- the manager began fewer requests on the frame's bus behind the frame's own than the span, and since the frame was sent the port didn't forget
  -- the manager's window there
  pub record IsLive (lab : Lab plans) (frame : LabFrame) : Type 0 where
    pub recent : begun_on plans.words frame.on lab.manager.machine ≤ frame.request + span_of frame.on
    pub remembered : frame.idles ≡ idles_on plans frame.on lab

  -- the frame of this number was sent and is live, and the event delivers it to the end for which it is meant
  pub record IsDelivered (way : Way) (lab : Lab plans) (number : ℕ) : Type 0 where
    pub frame : LabFrame
    pub sent : slice_get lab.frames number ≡ Some frame
    pub meant : frame.way ≡ way
    pub live : IsLive lab frame

  -- The links deliver only live frames that were sent, to the end for which they are meant. No other requester's message changes the
  -- configuration, or comes from the manager's or the controller's address. Noise reads as no frame. The port doesn't forget the manager's window
  -- while a request of the manager is open.
  abbrev pub IsHonest : Lab plans → Event → Type 0
  IsHonest lab (Calls call) = Unit {0}
  IsHonest lab (ToBmc number) = IsDelivered ToPort lab number
  IsHonest lab (ToMgr number) = IsDelivered ToManager lab number
  IsHonest lab (OtherIpmb request) = (is_changing (asked_in request) ≡ false) × IsAnother Ipmb lab.manager.names request.header.requester.address
  IsHonest lab (OtherSmbus message) = ChangesNothing message.envelope.source_eid message.body × IsAnother Smbus lab.manager.names message.envelope.source_eid
  IsHonest lab (Noise on bytes) = IsNoFrame on bytes
  IsHonest lab (Idles on requester) = requester ≡ own_on on lab.manager.names → open_bus plans.words lab.manager.machine ≡ None
  IsHonest lab (OnBench activity) = Unit {0}

  -- noise is bytes
  abbrev pub HasBytes : Event → Type 0
  HasBytes (Noise on bytes) = All (λ byte. byte < 256) bytes
  HasBytes _ = Unit {0}

  -- every event of a schedule is honest, where it happens; only noise that is bytes counts
  abbrev pub AllHonest : BoardFile → List Event → Lab plans → Type 0
  AllHonest setup [] lab = Unit {0}
  AllHonest setup (event ∷ events) lab = (HasBytes event → IsHonest lab event) × AllHonest setup events (step plans setup lab event)

  -- a lab takes honest events alone, and refuses an honest one only for want of room
  pub record FaultsAreBreaches : Type 0 where
    pub taken : (lab : Lab plans) (event : Event) → HasBytes event → fault_of plans lab event ≡ None → IsHonest lab event
    pub refused : (lab : Lab plans) (event : Event) (fault : Fault) → HasBytes event → fault_of plans lab event ≡ Some fault → (fault ≡ Room) ⊎ (¬ IsHonest lab event)
