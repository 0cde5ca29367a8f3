-- A lab and the two buses of the model that it shows.
use Rattle.std.specs.Prelude.{◌≡◌, ℕ, ◌%◌, ◌≤◌, true, false, ◌==◌, ◌⊎◌, List, ◌∷◌, length, Some, slice_get}
use Rattle.two_wire.specs.Circles.{tags}
use Rattle.two_wire.specs.declared.Bus.{Bus}
use Rattle.two_wire.specs.declared.Bus.TheVariants.{Ipmb, Smbus}
use Rattle.ipmb_frame.specs.declared.message.Request.{Request}
use Rattle.ipmb_frame.specs.declared.message.Response.{Response}
use Rattle.mctp_net.specs.declared.packet.Packet.{Packet}
use Rattle.mctp_net.specs.Sizes.{unit_size}
use Rattle.mctp_net.specs.Assembly.{open_beside, is_ours}
use Rattle.cfg_records.specs.declared.board_file.BoardFile.{BoardFile}
use Rattle.model_bus.specs.Numbering.{Rules, ipmb}
use Rattle.model_bus.specs.Repeat.{In}
use Rattle.model_bus.specs.Packet.{packets_of}
use Rattle.model_bus.specs.Assembly.{SentPacket}
use Rattle.model_bus.specs.BusState.{BusState, Frame, Ask, request_of}
use Rattle.model_bus.specs.PacketBus.{PacketBus, rules_of, request_name, reply_name, BusEnds}
use Rattle.model_bus.specs.Answering.{AreWritten}
use Rattle.model_bus.specs.Request.{Kept, Entry, Carried, Idled}
use Rattle.model_bus.specs.Bytes.{IsRequestOn}
use Rattle.model_bus.specs.Answered.{Answered}
use Rattle.model_undo.specs.Family.{Family}
use Rattle.model_undo.specs.Machine.{count_of}
use Rattle.model_undo.specs.Line.{Line}
use Rattle.model_undo.specs.Wires.{Wires}
use Rattle.model_undo.specs.TwoBuses.{with_packets}
use Rattle.model_undo.specs.World.{States, World, Happening, AllMay, run}
use Rattle.model_undo.specs.Giving.{GivenAnswer, given_in}
use Rattle.model_lab.specs.Family.{family}
use Rattle.bmc_core.specs.Wires.{asked_from, reply_to}
use Rattle.model_lab.specs.ManagerWires.{wires}
use Rattle.bmc_core.specs.Seen.{WaitsAlike}
use Rattle.undo_plans.specs.declared.names.Names.{Names}
use Rattle.bmc_core.specs.Values.{Asks, Tells, Part}
use Rattle.bmc_core.specs.Bytes.{heard_in, pldm_heard_in, response_bytes, response_to}
use Rattle.pldm_base.specs.declared.message.PldmRequest.{PldmRequest}
use Rattle.pldm_base.specs.Message.{request_in as pldm_request_in}
use Rattle.bmc_core.specs.PortSteps.{asked_in, pldm_asked}
use Rattle.model_lab.specs.ManagerSteps.{Plans, addresses, board_plans, is_answer, open_count}
use Rattle.bmc_core.specs.PortEvents.{name_in, IsPortOf, IsManagersPart}
use Rattle.model_lab.specs.ManagerEvents.{HoldsReply, HoldsPart, name_awaited}
use Rattle.model_headline.specs.Each.{Each}
use Rattle.model_headline.specs.Made.{MachineMade}
use Rattle.model_headline.specs.Answers.{AnswerGiven}
use Rattle.model_lab.specs.declared.way.Way.{Way}
use Rattle.model_lab.specs.declared.way.Way.TheVariants.{ToPort, ToManager, ToOthers}
use Rattle.model_lab.specs.Lab.{LabFrame, Lab}

module _ (setup : BoardFile) (names : Names) where
  abbrev pub own_plans : Plans
  own_plans = board_plans names

  abbrev pub own_family : Family
  own_family = family setup (addresses names)

  abbrev pub own_lines : Bus → Line
  own_lines = with_packets (addresses names) packets_of

  abbrev pub own_wires : Wires own_family.words
  own_wires = wires (addresses names)

  -- IPMB, and SMBus in packets
  abbrev pub ipmb_bus : Rules
  ipmb_bus = ipmb names.own_address names.peer_address 0

  abbrev pub smbus_bus : PacketBus
  smbus_bus = record { manager = names.own_eid; controller = names.peer_eid; first = 0; split = packets_of }

  -- the rules of each for whole messages
  abbrev pub rules_on : Bus → Rules
  rules_on Ipmb = ipmb_bus
  rules_on Smbus = rules_of smbus_bus

  -- the manager's requests on a bus
  abbrev pub requests : States own_lines → Bus → BusState
  requests on bus = (own_lines bus).requests (on bus)

  -- ---- frames

  -- the model's frame `which` is of the same request, and was sent as many idles after the start
  pub record IsFrameOf (frames : List Frame) (lab_frame : LabFrame) (which : ℕ) (frame : Frame) : Type 0 where
    pub sent : slice_get frames which ≡ Some frame
    pub request : frame.request ≡ lab_frame.request
    pub idles : frame.idles ≡ lab_frame.idles

  -- the value is a request of the manager on IPMB, which the model's frame holds
  pub record HoldsAsked (frames : List Frame) (lab_frame : LabFrame) : Type 0 where
    pub which : ℕ
    pub frame : Frame
    pub is_of : IsFrameOf frames lab_frame which frame
    pub request : Request
    pub value : lab_frame.value ≡ Asks request
    pub bytes : List ℕ
    pub asks : frame.content ≡ Ask bytes
    pub heard : heard_in request ≡ request_of ipmb_bus frame.request bytes
    pub to_port : request.header.responder.address ≡ names.peer_address
    pub read : asked_from (addresses names) Ipmb bytes ≡ asked_in request
    -- what a response to the request says
    pub number : ℕ
    pub spelled : IsRequestOn Ipmb number bytes
    pub responds : (answered : Answered) → response_bytes (response_to request answered) ≡ reply_to Ipmb bytes answered
    pub from_manager : request.header.requester.address ≡ names.own_address

  -- the value is a response to the manager on IPMB, which the model's frame holds
  pub record HoldsTold (frames : List Frame) (lab_frame : LabFrame) : Type 0 where
    pub which : ℕ
    pub frame : Frame
    pub is_of : IsFrameOf frames lab_frame which frame
    pub response : Response
    pub value : lab_frame.value ≡ Tells response
    pub held : HoldsReply Ipmb (response_bytes response) frame.content
    pub answers : is_answer names response ≡ true

  -- the value is a packet of a request of the manager on SMBus, which the model's frame holds
  pub record HoldsAskedPart (ends : BusEnds) (frame : LabFrame) : Type 0 where
    pub which : ℕ
    pub place : ℕ
    pub packet : Packet
    pub value : frame.value ≡ Part packet
    pub part : IsManagersPart smbus_bus ends which place packet
    pub same_request : part.frame.request ≡ frame.request
    pub same_idles : part.frame.idles ≡ frame.idles
    pub small : length packet.payload ≤ unit_size
    pub to_port : packet.envelope.destination ≡ names.peer_wire
    pub from_manager : packet.envelope.source ≡ names.own_wire
    -- what the message asks, and what a reply to the message says
    pub request : PldmRequest
    pub rest : List ℕ
    pub typed : part.bytes ≡ 1 ∷ rest
    pub says : pldm_request_in rest ≡ Some request
    pub heard : pldm_heard_in names.own_eid request ≡ request_of (rules_of smbus_bus) part.frame.request part.bytes
    pub reads : asked_from (addresses names) Smbus part.bytes ≡ pldm_asked names.own_eid request
    pub number : ℕ
    pub spelled : IsRequestOn Smbus number part.bytes

  -- the value is a packet of a reply to the manager on SMBus, which the model's frame holds
  pub record HoldsToldPart (frames : List Frame) (lab_frame : LabFrame) : Type 0 where
    pub which : ℕ
    pub place : ℕ
    pub frame : Frame
    pub is_of : IsFrameOf frames lab_frame which frame
    pub packet : Packet
    pub value : lab_frame.value ≡ Part packet
    pub held : HoldsPart smbus_bus place packet frame.content
    pub named : name_in packet ≡ reply_name smbus_bus frame.request
    pub destination : packet.envelope.destination ≡ names.own_wire
    pub source : packet.envelope.source ≡ names.peer_wire
    pub ours : is_ours names.own_eid packet ≡ true

  -- the packet comes from another endpoint than the controller's, as it does once somebody set the controller's identifier
  pub record ComesFromAnother (frame : LabFrame) : Type 0 where
    pub packet : Packet
    pub value : frame.value ≡ Part packet
    pub source : (packet.envelope.source_eid == names.peer_eid) ≡ false

  -- the frame is one of the model's, by the end to which it goes
  abbrev pub IsHeldBy : Way → Bus → States own_lines → LabFrame → Type 0
  IsHeldBy ToPort Ipmb on frame = HoldsAsked (on Ipmb).frames frame
  IsHeldBy ToPort Smbus on frame = HoldsAskedPart (on Smbus) frame
  IsHeldBy ToManager Ipmb on frame = HoldsTold (on Ipmb).frames frame
  IsHeldBy ToManager Smbus on frame = HoldsToldPart (on Smbus).bus.frames frame ⊎ ComesFromAnother frame
  IsHeldBy ToOthers bus on frame = Unit {0}

  abbrev pub IsHeld : States own_lines → LabFrame → Type 0
  IsHeld on frame = IsHeldBy frame.way frame.on on frame

  -- ---- what the ports did

  -- the reply that is kept answers the request
  abbrev pub IsAnswer : Bus → Kept → Type 0
  IsAnswer bus kept = (answered : Answered) × (kept.reply ≡ reply_to bus kept.request.bytes answered)

  abbrev pub EntryAnswers : Bus → Entry → Type 0
  EntryAnswers bus (Carried kept) = IsAnswer bus kept
  EntryAnswers bus (Idled requester) = Unit {0}

  -- ---- the tie

  pub record IsTied (lab : Lab own_plans) (on : States own_lines) : Type 0 where
    pub named : lab.manager.names ≡ names
    pub ipmb_wire : lab.ipmb.wire ≡ names.peer_address
    pub smbus_wire : lab.smbus.wire ≡ names.peer_wire
    pub ipmb_log : (on Ipmb).log ≡ lab.ipmb.log
    pub smbus_port : IsPortOf (on Smbus) lab.smbus
    pub waits : WaitsAlike (on Smbus).manager lab.manager.joined
    pub alone : open_beside (name_awaited names (open_count own_plans Smbus lab.manager)) lab.manager.joined ≡ 0
    pub counted : (bus : Bus) → count_of bus lab.manager.machine.counts ≡ length (requests on bus).taken
    pub written : (bus : Bus) → AreWritten bus (rules_on bus) (requests on bus)
    pub answered : (bus : Bus) → Each (EntryAnswers bus) (requests on bus).log
    pub made : MachineMade (addresses names) lab.manager.machine
    pub frames : Each (IsHeld on) lab.frames
    -- the manager's packets that wait at the port are of the request whose start came last under their tag
    pub opened : (count : ℕ) (sent : SentPacket) → In sent ((on Smbus).port (request_name smbus_bus count)) → sent.request ≡ lab.opened (count % tags)

  -- the model's world of a lab
  abbrev pub world_of : Lab own_plans → States own_lines → World own_family own_lines
  world_of lab on = record { machine = lab.manager.machine; on = on; board = lab.board }

  -- the lab gave the manager the answer as it went from the one state to the other
  pub record IsGivenAnswer (lab next : Lab own_plans) (given : GivenAnswer own_family) : Type 0 where
    pub before : given.before ≡ lab.board
    pub answers : AnswerGiven setup names lab next given.asked given.answered

  -- the model's world does in these steps what the lab does, and gives no answer but the lab's
  pub record WorldFollows (lab : Lab own_plans) (on : States own_lines) (next : Lab own_plans) : Type 0 where
    pub happenings : List (Happening own_family own_lines)
    pub left : States own_lines
    pub may : AllMay own_family own_lines own_wires happenings (world_of lab on)
    pub reaches : run own_family own_lines own_wires happenings (world_of lab on) ≡ world_of next left
    pub gives : Each (IsGivenAnswer lab next) (given_in own_family own_lines own_wires happenings (world_of lab on))
    pub tied : IsTied next left
