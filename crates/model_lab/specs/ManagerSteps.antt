-- What each call and each frame makes of the manager, and what it sends.
use Rattle.std.specs.Prelude.{◌≡◌, refl, ℕ, ◌%◌, Bool, true, not, ◌==◌, ◌&&◌, List, [], ◌∷◌, map, Option, Some, None, if◌then◌else◌}
use Rattle.std.specs.Option.{option_map}
use Rattle.two_wire.specs.Circles.{tags}
use Rattle.two_wire.specs.declared.Bus.{Bus}
use Rattle.two_wire.specs.declared.Bus.TheVariants.{Ipmb, Smbus}
use Rattle.ipmb_frame.specs.declared.message.Response.{Response}
use Rattle.mctp_net.specs.declared.packet.Packet.{Packet}
use Rattle.mctp_net.specs.declared.taken.DropCause.{DropCause}
use Rattle.mctp_net.specs.Assembly.{Assemblies, nothing, drop_cause, after as kept_after, message_of}
use Rattle.undo_plans.specs.declared.names.Names.{Names}
use Rattle.record_base.specs.declared.message.Asked.{Asked}
use Rattle.record_base.specs.declared.message.Asked.TheVariants.{Ipmi, Pldm}
use Rattle.model_bus.specs.Bytes.{answers}
use Rattle.model_undo.specs.Words.{Words}
use Rattle.model_undo.specs.Machine.{count_of, Part as TaskPart, bus_at, Stage, Opened, Machine, Sending, Turn, call_of, reply_of, same_bus}
use Rattle.model_undo.specs.Restart.{restarted}
use Rattle.model_undo.specs.Wires.{number_of}
use Rattle.model_bus.specs.Addresses.{Addresses}
use Rattle.model_undo.specs.declared.call.Call.{Call}
use Rattle.model_undo.specs.declared.call.Call.TheVariants.{Undo}
use Rattle.bmc_core.specs.Wires.{bus_of, bytes_of, answered_from}
use Rattle.model_lab.specs.ManagerWords.{manager_words}
use Rattle.bmc_core.specs.Values.{Value, Asks, Tells, Part, parts_of}
use Rattle.bmc_core.specs.Bytes.{response_bytes}

-- the byte by which a port knows the manager as a requester on a bus
abbrev pub own_on : Bus → Names → ℕ
own_on Ipmb names = names.own_address
own_on Smbus names = names.own_eid

-- the byte by which the manager knows the controller on a bus
abbrev pub peer_on : Bus → Names → ℕ
peer_on Ipmb names = names.peer_address
peer_on Smbus names = names.peer_eid

-- a manager's words, and its requests as requests of a board
pub record Plans : Type 1 where
  pub words : Words
  pub asked : words.Asked → Asked
  pub on_its_bus : (request : words.Asked) → words.bus_of request ≡ bus_of (asked request)

-- both ends' addresses on a bus
abbrev pub addresses : Names → Bus → Addresses
addresses names on = record { manager = own_on on names; controller = peer_on on names }

-- plans on the records of a board, whatever its file is
abbrev pub board_plans : Names → Plans
board_plans names = record { words = manager_words (addresses names); asked = λ request. request; on_its_bus = λ request. refl }

-- ---- what a request is on the wires

-- the frames of the manager's request of this count: one on IPMB, and on SMBus the packets of a message under the count's tag
abbrev pub values_of : Names → ℕ → Asked → List Value
values_of names count (Ipmi from net_fn lun command body) = Asks (record {
  header = record {
    responder = record { address = names.peer_address; lun = lun };
    requester = record { address = names.own_address; lun = 0 };
    net_fn = net_fn;
    sequence = number_of Ipmb count;
    command = command;
  };
  body = body;
}) ∷ []
values_of names count (Pldm from kind command body) = map Part (parts_of (record {
  envelope = record {
    destination = names.peer_wire;
    source = names.own_wire;
    destination_eid = names.peer_eid;
    source_eid = names.own_eid;
    tag_owner = true;
    tag = count % tags;
  };
  body = bytes_of (number_of Smbus count) (Pldm from kind command body);
}))

-- frames that the manager sends: on which bus, of which of its requests there, and what they are
pub record Sent : Type 0 where
  pub on : Bus
  pub request : ℕ
  pub values : List Value

-- the response goes from the controller to the manager
abbrev pub is_answer : Names → Response → Bool
is_answer names response = response.header.requester.address == names.own_address && response.header.responder.address == names.peer_address

-- the packet goes from the controller to the manager, under the tag of the request of this count
abbrev pub is_part : Names → ℕ → Packet → Bool
is_part names count packet =
    (packet.envelope.destination == names.own_wire && packet.envelope.source == names.peer_wire)
    && (packet.envelope.source_eid == names.peer_eid && (not packet.envelope.tag_owner && packet.envelope.tag == count % tags))

module _ (plans : Plans) where
  -- a manager: its machine, its names, the names in its list of requests that undo, and the packets that wait at it
  pub record ManagerState : Type 0 where
    pub machine : Machine plans.words
    pub names : Names
    pub listed : Option Names
    pub joined : Assemblies

  -- the manager after a call or a frame, and the frames that it sends then
  pub record ManagerStepResult : Type 0 where
    pub manager : ManagerState
    pub sent : Option Sent

  -- the manager sends nothing
  abbrev pub rests : ManagerState → ManagerStepResult
  rests manager = record { manager = manager; sent = None }

  -- the frames of a request
  abbrev pub sent_of : Names → Sending plans.words → Sent
  sent_of names sending = record { on = sending.bus; request = sending.count; values = values_of names sending.count (plans.asked sending.asked) }

  -- the machine goes on
  abbrev pub goes_on : ManagerState → Turn plans.words → ManagerStepResult
  goes_on manager turn = record { manager = record manager { machine = turn.machine }; sent = option_map (sent_of manager.names) turn.sends }

  -- ---- calls

  -- the manager drops the packets that wait as the undo begins
  abbrev pub waits_after : Call → Assemblies → Assemblies
  waits_after Undo joined = nothing
  waits_after _ joined = joined

  -- the manager is called: none where the phase isn't one for the call, and then nothing changes
  unfoldable pub called : Call → ManagerState → Option ManagerStepResult
  called call manager = option_map (goes_on (record manager { joined = waits_after call manager.joined })) (call_of plans.words call manager.machine)

  -- the manager's process ended, and it is made again of what it wrote down: nothing waits at it
  abbrev pub remade : ManagerState → ManagerState
  remade manager = record manager { machine = restarted plans.words manager.machine; joined = nothing }

  -- ---- frames

  -- the open request, where it is heeded and on this bus
  abbrev pub heeded_on : Bus → Stage plans.words → Option (TaskPart plans.words)
  heeded_on on (Opened true task part) = if same_bus on (bus_at plans.words part) then Some part else None
  heeded_on on _ = None

  -- the number of requests that were answered on a bus, which is the count of the open request
  abbrev pub open_count : Bus → ManagerState → ℕ
  open_count on manager = count_of on manager.machine.counts

  -- the bytes of the open request
  abbrev pub open_bytes : Bus → ManagerState → TaskPart plans.words → List ℕ
  open_bytes on manager part = bytes_of (number_of on (open_count on manager)) (plans.asked part.asked)

  -- the machine takes a reply, or ignores it
  abbrev pub taken_or : ManagerState → Option (Turn plans.words) → ManagerStepResult
  taken_or manager None = rests manager
  taken_or manager (Some turn) = goes_on manager turn

  -- the bytes of a reply come while this request is open, if one is: the machine takes them where they pass the test
  abbrev pub tested : Bus → List ℕ → ManagerState → Option (TaskPart plans.words) → ManagerStepResult
  tested on reply manager None = rests manager
  tested on reply manager (Some part) =
      if answers on (open_bytes on manager part) reply
      then taken_or manager (reply_of plans.words (answered_from on reply) manager.machine)
      else rests manager

  -- the bytes of a reply from the controller come
  abbrev pub hears_reply : Bus → List ℕ → ManagerState → ManagerStepResult
  hears_reply on reply manager = tested on reply manager (heeded_on on manager.machine.stage)

  -- a response comes
  unfoldable pub hears_response : Response → ManagerState → ManagerStepResult
  hears_response response manager = if is_answer manager.names response then hears_reply Ipmb (response_bytes response) manager else rests manager

  -- the manager has taken a packet: it dropped the packet for the cause, or the packet ended a message, or others are to come
  abbrev pub ends_reply : Packet → Option DropCause → ManagerState → ManagerStepResult
  ends_reply packet (Some cause) manager = rests manager
  ends_reply packet None manager = if packet.end then hears_reply Smbus (message_of manager.joined packet).body manager else rests manager

  -- the manager joins a packet to those that wait, and the packet ends a reply or not
  abbrev pub joins : Packet → ManagerState → ManagerStepResult
  joins packet manager = ends_reply packet (drop_cause manager.names.own_eid manager.joined packet) (record manager { joined = kept_after manager.names.own_eid manager.joined packet })

  -- a packet comes while the request is open, if one is
  abbrev pub joins_for : Packet → ManagerState → Option (TaskPart plans.words) → ManagerStepResult
  joins_for packet manager None = rests manager
  joins_for packet manager (Some part) = if is_part manager.names (open_count Smbus manager) packet then joins packet manager else rests manager

  -- a packet comes
  unfoldable pub hears_packet : Packet → ManagerState → ManagerStepResult
  hears_packet packet manager = joins_for packet manager (heeded_on Smbus manager.machine.stage)

  -- a frame comes; a request is nothing to the manager
  abbrev pub manager_hears : Value → ManagerState → ManagerStepResult
  manager_hears (Asks request) manager = rests manager
  manager_hears (Tells response) manager = hears_response response manager
  manager_hears (Part packet) manager = hears_packet packet manager
