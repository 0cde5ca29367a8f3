-- A manager's request and the reply to it as the frames of their bus, lists of bytes: the values that a reader gives of them, and what they do.
use Rattle.std.specs.Prelude.{◌≡◌, ℕ, ◌%◌, ◌<◌, ◌≤◌, false, true, List, [], ◌∷◌, ◌++◌, length, map, Option, Some, None}
use Rattle.std.specs.List.{AllZip}
use Rattle.two_wire.specs.declared.Bus.{Bus}
use Rattle.two_wire.specs.declared.Bus.TheVariants.{Ipmb, Smbus}
use Rattle.two_wire.specs.Circles.{tags}
use Rattle.two_wire.specs.Sizes.{most_ipmi_request_data, most_ipmi_reply_data, most_pldm_request_data, most_pldm_reply_data}
use Rattle.mctp_net.specs.declared.message.Message.{Message}
use Rattle.mctp_net.specs.declared.packet.Name.{Name}
use Rattle.mctp_net.specs.Sizes.{most_assemblies}
use Rattle.mctp_net.specs.Assembly.{Assemblies, open_beside}
use Rattle.record_base.specs.declared.message.Asked.{Asked}
use Rattle.record_base.specs.declared.message.Asked.TheVariants.{Ipmi, Pldm}
use Rattle.cfg_records.specs.declared.board_file.BoardFile.{BoardFile}
use Rattle.bmc_board.specs.State.{State}
use Rattle.undo_plans.specs.declared.names.Names.{Names}
use Rattle.model_bus.specs.Circle.{circle_of}
use Rattle.model_bus.specs.Numbering.{is_above}
use Rattle.model_bus.specs.Request.{Request as Heard}
use Rattle.model_bus.specs.Answered.{Answered}
use Rattle.model_undo.specs.Machine.{Part as TaskPart, reply_of}
use Rattle.model_undo.specs.Wires.{number_of}
use Rattle.bmc_core.specs.Wires.{bus_of, bytes_of, reply_to}
use Rattle.bmc_core.specs.Bytes.{said}
use Rattle.bmc_core.specs.Values.{Value, Tells, Part, written, parts_of, IsFrameOn}
use Rattle.bmc_core.specs.PortSteps.{PortState, Turn, StepResult, turn, spelled, stays, hears}
use Rattle.model_lab.specs.ManagerSteps.{own_on, board_plans, values_of, Sent, ManagerState, ManagerStepResult, heeded_on, open_count, taken_or, manager_hears}
use Rattle.model_lab.specs.ManagerEvents.{name_awaited}
use Rattle.undo_core.specs.Shown.{words_of, own}

-- ---- frames

-- a reader of one to four frames gives these values, and no others
pub record AreReadAs (on : Bus) (values : List Value) (frames : List (List ℕ)) : Type 0 where
  pub some : 0 < length frames
  pub few : length frames ≤ 4
  pub read : AllZip (IsFrameOn on) values frames
  pub alone : (others : List Value) → AllZip (IsFrameOn on) others frames → others ≡ values

-- ---- what can be sent

-- an even byte
abbrev pub IsAddress : ℕ → Type 0
IsAddress address = (address < 256) × (address % 2 ≡ 0)

-- the addresses are even bytes, and the identifiers are bytes
pub record AreNames (names : Names) : Type 0 where
  pub own_address : IsAddress names.own_address
  pub peer_address : IsAddress names.peer_address
  pub own_wire : IsAddress names.own_wire
  pub peer_wire : IsAddress names.peer_wire
  pub own_eid : names.own_eid < 256
  pub peer_eid : names.peer_eid < 256

-- the request fits the frames of its bus
abbrev pub CanBeAsked : Asked → Type 0
CanBeAsked (Ipmi from net_fn lun command body) = (net_fn < 64) × (net_fn % 2 ≡ 0) × (lun < 4) × (length body ≤ most_ipmi_request_data)
CanBeAsked (Pldm from kind command body) = (kind < 64) × (length body ≤ most_pldm_request_data)

-- the reply with this answer fits the frames of its bus
abbrev pub CanBeTold : Bus → Answered → Type 0
CanBeTold Ipmb answered = length answered.body ≤ most_ipmi_reply_data
CanBeTold Smbus answered = length answered.body ≤ most_pldm_reply_data

-- ---- a request

-- the name of the packets of the manager's request of this count
abbrev pub name_asked : Names → ℕ → Name
name_asked names count = record { source_eid = names.own_eid; tag_owner = true; tag = count % tags }

-- where the controller is on the bus
abbrev pub peer_place : Bus → Names → ℕ
peer_place Ipmb names = names.peer_address
peer_place Smbus names = names.peer_wire

-- The port is the controller's. Where the request goes in several packets, there is a slot for it.
pub record IsControllers (names : Names) (count : ℕ) (asked : Asked) (port : PortState) : Type 0 where
  pub place : port.wire ≡ peer_place (bus_of asked) names
  pub eid : port.eid ≡ names.peer_eid
  pub slot : 1 < length (values_of names count asked) → open_beside (name_asked names count) port.kept < most_assemblies

-- the request of this count, as a port knows it: by the manager's name, the request's number and its bytes
abbrev pub heard_as : Names → ℕ → Asked → Heard
heard_as names count asked =
    let number = number_of (bus_of asked) count in
    record { requester = own_on (bus_of asked) names; number = number; bytes = bytes_of number asked }

-- the turn of that request at a port: the outcome, the log, the board and the reply
abbrev pub turn_at : BoardFile → PortState → State → Names → ℕ → Asked → Turn
turn_at setup port before names count asked =
    let r = heard_as names count asked in
    turn (is_above (circle_of (bus_of asked))) r (spelled (bus_of asked) r) setup (own names asked) port.log before

-- a port hears values, one after another
abbrev pub hears_each : BoardFile → PortState → State → List Value → StepResult
hears_each setup port before [] = stays port before
hears_each setup port before (value ∷ values) =
    let first = hears setup port before value in
    let rest = hears_each setup first.port first.board values in
    record { port = rest.port; board = rest.board; sent = first.sent ++ rest.sent }

-- ---- the reply to a request

-- the message of a reply to the manager's request of this count
abbrev pub reply_message : Names → ℕ → List ℕ → Message
reply_message names count body = record {
  envelope = record {
    destination = names.own_wire;
    source = names.peer_wire;
    destination_eid = names.own_eid;
    source_eid = names.peer_eid;
    tag_owner = false;
    tag = count % tags;
  };
  body = body;
}

-- the frames of the reply with this answer: one on IPMB, and on SMBus the packets of a message under the count's tag
abbrev pub values_told : Names → ℕ → Asked → Answered → List Value
values_told names count (Ipmi from net_fn lun command body) answered = Tells (record {
  header = record {
    responder = record { address = names.peer_address; lun = lun };
    requester = record { address = names.own_address; lun = 0 };
    net_fn = net_fn;
    sequence = number_of Ipmb count;
    command = command;
  };
  code = answered.code;
  body = answered.body;
}) ∷ []
values_told names count (Pldm from kind command body) a =
    map Part (parts_of (reply_message names count (reply_to Smbus (bytes_of (number_of Smbus count) (Pldm from kind command body)) a)))

-- a manager after frames, and all that it sent
pub record ManagerDeeds (names : Names) : Type 0 where
  pub manager : ManagerState (board_plans names)
  pub sent : List Sent

-- the frames that a manager sends, as a list
abbrev pub sent_list : Option Sent → List Sent
sent_list None = []
sent_list (Some sent) = sent ∷ []

abbrev pub deeds_of : (names : Names) → ManagerStepResult (board_plans names) → ManagerDeeds names
deeds_of names deed = record { manager = deed.manager; sent = sent_list deed.sent }

-- a manager hears values, one after another
abbrev pub manager_hears_each : (names : Names) → List Value → ManagerState (board_plans names) → ManagerDeeds names
manager_hears_each names [] manager = record { manager = manager; sent = [] }
manager_hears_each names (value ∷ values) manager =
    let first = manager_hears (board_plans names) value manager in
    let rest = manager_hears_each names values first.manager in
    record { manager = rest.manager; sent = sent_list first.sent ++ rest.sent }

-- The manager's request of this count is open and heeded. Where the reply comes in several packets, there is a slot for it.
pub record IsAwaiting (names : Names) (count : ℕ) (asked : Asked) (answered : Answered) (manager : ManagerState (board_plans names)) : Type 0 where
  pub named : manager.names ≡ names
  pub part : TaskPart (words_of names)
  pub heeded : heeded_on (board_plans names) (bus_of asked) manager.machine.stage ≡ Some part
  pub is : part.asked ≡ asked
  pub counted : open_count (board_plans names) (bus_of asked) manager ≡ count
  pub slot : 1 < length (values_told names count asked answered) → open_beside (name_awaited names count) manager.joined < most_assemblies

-- ---- what holds of requests and replies

-- A reader of the frames of the manager's request gives the request's values alone. The port that hears them takes the turn of that request, and
-- sends the values of the reply, whatever its answer is.
pub record IsHeardAsAsked (names : Names) (count : ℕ) (asked : Asked) (setup : BoardFile) (port : PortState) (before : State) : Type 0 where
  pub read : AreReadAs (bus_of asked) (values_of names count asked) (map written (values_of names count asked))
  pub log : (hears_each setup port before (values_of names count asked)).port.log ≡ (turn_at setup port before names count asked).log
  pub board : (hears_each setup port before (values_of names count asked)).board ≡ (turn_at setup port before names count asked).left
  pub sent : (answered : Answered) → let r = heard_as names count asked in
      said (bus_of asked) r (turn_at setup port before names count asked).replied ≡ reply_to (bus_of asked) r.bytes answered
      → (hears_each setup port before (values_of names count asked)).sent ≡ values_told names count asked answered

-- so it is with every request, in one to four frames, at every port of the controller
abbrev pub RequestsAreHeard : Type 0
RequestsAreHeard = (names : Names) (count : ℕ) (asked : Asked) (setup : BoardFile) (port : PortState) (before : State) → AreNames names → CanBeAsked asked
    → IsControllers names count asked port → IsHeardAsAsked names count asked setup port before

-- A reader of the frames of the reply gives the reply's values alone. The manager that hears them takes that answer, and sends nothing before the
-- last. The machine takes each answer, unless its code is that of a busy port.
pub record IsTakenAsTold (names : Names) (count : ℕ) (asked : Asked) (answered : Answered) (manager : ManagerState (board_plans names)) : Type 0 where
  pub read : AreReadAs (bus_of asked) (values_told names count asked answered) (map written (values_told names count asked answered))
  pub joined : Assemblies
  pub taken : manager_hears_each names (values_told names count asked answered) manager
      ≡ deeds_of names (taken_or (board_plans names) (record manager { joined = joined }) (reply_of (words_of names) answered manager.machine))

-- so it is with every reply, in one to four frames, while its request is open
abbrev pub RepliesAreTaken : Type 0
RepliesAreTaken = (names : Names) (count : ℕ) (asked : Asked) (answered : Answered) (manager : ManagerState (board_plans names)) → AreNames names → CanBeAsked asked
    → CanBeTold (bus_of asked) answered → IsAwaiting names count asked answered manager → IsTakenAsTold names count asked answered manager
