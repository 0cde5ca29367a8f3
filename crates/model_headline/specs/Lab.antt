-- A lab: a board with its two ports, a manager, and every frame that was sent. Its run is a function of the events.
use Rattle.std.specs.Prelude.{ℕ, ◌+◌, ◌-◌, ◌/◌, ◌%◌, ◌==◌, ◌&&◌, not, nat_lt, nat_le, Bool, true, false, List, [], ◌∷◌, ◌++◌, length, map, filter, Option, Some, None, if◌then◌else◌, slice_get}
use Rattle.std.specs.List.{list_all, list_any}
use Rattle.std.specs.Str.{bytes_eq}
use Rattle.ipmb_frame.specs.Grammar.{request_bytes}
use Rattle.mctp_net.specs.declared.message.Message.{Message}
pub use Rattle.pldm_base.specs.declared.message.PldmRequest.{PldmRequest}
use Rattle.pldm_base.specs.Message.{request_in as pldm_in, request_bytes as pldm_bytes, reply_bytes as pldm_reply}
use Rattle.bmc_board.specs.declared.activity.Activity.{Activity}
use Rattle.bmc_board.specs.State.{State, on_bench}
use Rattle.model_headline.specs.Frames.{Bus, Ipmb, Smbus, Request, Envelope, Packet, Value, Asks, Tells, Part, circle, envelope, packets_of, is_meant, is_taken, whole, waits_after}
use Rattle.model_headline.specs.Manager.{node_busy, pldm_not_ready, Op, Asked, Ipmi, Pldm, Answered, Names, Call, Fresh, Manager, Turn, called, hears as manager_hears, own_on, bus_of, open_in, frames_of}

-- A controller, but for its ports: its board as it begins, the board's answer to each request with the state that it leaves, and its endpoint's
-- identifier after each control message with the reply, if it replies.
pub record Controller : Type 0 where
  pub begins : State
  pub answer : State → Asked → Answered × State
  pub control : (eid : ℕ) → List ℕ → Option (ℕ × List ℕ)

-- a request: who asks, the number, its bytes but addresses and checks, and what it asks of the board
pub record Heard : Type 0 where
  pub requester : ℕ
  pub number : ℕ
  pub bytes : List ℕ
  pub asked : Asked

-- a request was carried out and answered so, or a requester was forgotten
pub data Entry : Type 0 where
  Carried : Heard → Answered → Entry
  Idled : (requester : ℕ) → Entry

-- a port: its two-wire address, its endpoint's identifier, the packets that wait, and what it did, newest first
pub record Port : Type 0 where
  pub wire : ℕ
  pub eid : ℕ
  pub waits : List Packet
  pub log : List Entry

-- a number is above another on a bus by less than half of the circle
abbrev pub is_above : Bus → ℕ → ℕ → Bool
is_above on low high = let distance = (high + circle on - low) % circle on in nat_lt 0 distance && nat_lt distance (circle on / 2)

-- The answer to the earlier request that the request repeats. The earlier one has the same requester, number and bytes, and was carried out since the
-- requester was last forgotten; and each number of the requester that was carried out in between (`newer`) is above the earlier number.
abbrev pub repeated : Bus → Heard → (newer : List ℕ) → List Entry → Option Answered
repeated on request newer [] = None
repeated on request newer (Carried earlier answered ∷ log) =
    if not (earlier.requester == request.requester) then repeated on request newer log
    else if request.number == earlier.number && bytes_eq request.bytes earlier.bytes && list_all (is_above on earlier.number) newer then Some answered
    else repeated on request (earlier.number ∷ newer) log
repeated on request newer (Idled requester ∷ log) = if requester == request.requester then None else repeated on request newer log

-- the requesters that had something carried out since they were last forgotten, each once
abbrev pub requesters : List Entry → List ℕ
requesters [] = []
requesters (Carried request answered ∷ log) = if list_any (λ other. other == request.requester) (requesters log) then requesters log else request.requester ∷ requesters log
requesters (Idled requester ∷ log) = filter (λ other. not (other == requester)) (requesters log)

-- a requester would be a ninth
abbrev pub is_ninth : ℕ → List ℕ → Bool
is_ninth requester known = not (list_any (λ other. other == requester) known) && nat_le 8 (length known)

-- the code of a busy port
abbrev pub busy_on : Bus → ℕ
busy_on Ipmb = node_busy
busy_on Smbus = pldm_not_ready

-- what comes of a request: the log and the board after it, and the answer that goes out
pub record Outcome : Type 0 where
  pub log : List Entry
  pub board : State
  pub answer : Answered

-- A repeat gets the answer that was given. Who would be a ninth is told that the port is busy. Any other request is carried out.
abbrev pub turn_where : Option Answered → (ninth : Bool) → Bus → Heard → Controller → List Entry → State → Outcome
turn_where (Some answered) ninth on request controller log before = record { log = log; board = before; answer = answered }
turn_where None true on request controller log before = record { log = log; board = before; answer = record { code = busy_on on; body = [] } }
turn_where None false on request controller log before =
    let given = controller.answer before request.asked in record { log = Carried request given.0 ∷ log; board = given.1; answer = given.0 }

-- what comes of a request on a bus: whether it repeats one, and whether its requester would be a ninth, is told by the log
unfoldable pub turn : Bus → Heard → Controller → List Entry → State → Outcome
turn on request controller log before = turn_where (repeated on request [] log) (is_ninth request.requester (requesters log)) on request controller log before

-- the port and the board after something came, and what is sent
pub record StepResult : Type 0 where
  pub port : Port
  pub board : State
  pub sent : List Value

-- nothing changes, and nothing is sent
abbrev pub stays : Port → State → StepResult
stays port before = record { port = port; board = before; sent = [] }

-- a request on IPMB
abbrev pub heard_in : Request → Heard
heard_in request =
    let asked = Ipmi request.header.requester.address request.header.net_fn request.header.responder.lun request.header.command request.body in
    record { requester = request.header.requester.address; number = request.header.sequence; bytes = request_bytes request; asked = asked }

-- the port and the board after a request on IPMB, and the response that is sent
abbrev pub hears_request : Controller → Port → State → Request → StepResult
hears_request controller port before request =
    let outcome = turn Ipmb (heard_in request) controller port.log before in
    record { port = record port { log = outcome.log }; board = outcome.board; sent = Tells (record { header = request.header; code = outcome.answer.code; body = outcome.answer.body }) ∷ [] }

-- the packets of the reply to a message
abbrev pub replies : Port → Envelope → List ℕ → List Value
replies port asking body = map Part (packets_of (envelope asking.source port.wire asking.source_eid port.eid false asking.tag) body)

-- a control message: the endpoint has this identifier then, from which it replies so
abbrev pub hears_control : Port → State → Envelope → Option (ℕ × List ℕ) → StepResult
hears_control port before asking None = stays port before
hears_control port before asking (Some effect) =
    let next : Port = record port { eid = effect.0 } in record { port = next; board = before; sent = replies next asking effect.1 }

-- a PLDM request from an endpoint
abbrev pub pldm_heard : ℕ → PldmRequest → Heard
pldm_heard from request = record { requester = from; number = request.header.instance; bytes = 1 ∷ pldm_bytes request; asked = Pldm from request.header.pldm_type request.header.command request.body }

-- the same after a PLDM message, which is nothing to the port where it is no request
abbrev pub hears_pldm : Controller → Port → State → Envelope → Option PldmRequest → StepResult
hears_pldm controller port before asking None = stays port before
hears_pldm controller port before asking (Some request) =
    let outcome = turn Smbus (pldm_heard asking.source_eid request) controller port.log before in
    let sent = replies port asking (1 ∷ pldm_reply (record { header = request.header; code = outcome.answer.code; body = outcome.answer.body })) in
    record { port = record port { log = outcome.log }; board = outcome.board; sent = sent }

-- a whole message, by its type: 00h control, 01h PLDM
abbrev pub hears_typed : Controller → Port → State → Envelope → List ℕ → StepResult
hears_typed controller port before asking [] = stays port before
hears_typed controller port before asking (kind ∷ rest) =
    if kind == 0 then hears_control port before asking (controller.control port.eid (kind ∷ rest))
    else if kind == 1 then hears_pldm controller port before asking (pldm_in rest) else stays port before

-- a packet; a message whose sender doesn't own its tag is a reply, and nothing to a port
unfoldable pub hears_packet : Controller → Port → State → Packet → StepResult
hears_packet controller port before packet =
    let next : Port = record port { waits = waits_after port.eid packet port.waits } in
    if is_taken port.eid packet port.waits && (packet.end && packet.envelope.tag_owner) then hears_typed controller next before packet.envelope (whole packet port.waits)
    else stays next before

-- packets, one after another
abbrev pub hears_packets : Controller → Port → State → List Packet → StepResult
hears_packets controller port before [] = stays port before
hears_packets controller port before (packet ∷ packets) =
    let first = hears_packet controller port before packet in
    let rest = hears_packets controller first.port first.board packets in
    record { port = rest.port; board = rest.board; sent = first.sent ++ rest.sent }

-- any frame, if it goes to the port's address; a response is nothing to it
abbrev pub hears : Controller → Port → State → Value → StepResult
hears controller port before (Asks request) = if request.header.responder.address == port.wire then hears_request controller port before request else stays port before
hears controller port before (Tells request) = stays port before
hears controller port before (Part packet) = if packet.envelope.destination == port.wire then hears_packet controller port before packet else stays port before

-- to whom a frame goes
pub data Way : Type 0 where
  ToPort ToManager ToOthers : Way

-- A frame that was sent. `request` is the number of the manager's request that it carries; a reply has that of the frame that brought it.
-- `idles` counts how often the manager's window had been forgotten on its bus when it was sent.
pub record Frame : Type 0 where
  pub on : Bus
  pub way : Way
  pub request : ℕ
  pub idles : ℕ
  pub value : Value

-- what can happen; a schedule is a list of these
pub data Event : Type 0 where
  -- the manager is called
  Calls : Call → Event
  -- the frame of this place comes to the controller's port, or to the manager
  ToBmc ToMgr : (place : ℕ) → Event
  -- somebody else's request comes to the port on IPMB, or all packets of somebody else's message on SMBus
  OtherIpmb : Request → Event
  OtherSmbus : Message → Event
  -- bytes come that nobody sent
  Noise : (on : Bus) (bytes : List ℕ) → Event
  -- the port forgets a requester's window
  Idles : (on : Bus) (requester : ℕ) → Event
  -- what isn't configuration becomes this
  OnBench : Activity → Event

-- a lab at a moment: the controller's board and ports, the manager, and every frame that was sent
pub record Lab : Type 0 where
  pub board : State
  pub ipmb : Port
  pub smbus : Port
  pub manager : Manager
  pub frames : List Frame
  -- under each tag, the manager's request whose first packet came last to the port's endpoint
  pub opened : ℕ → ℕ

-- the port of a bus
abbrev pub port_on : Bus → Lab → Port
port_on Ipmb lab = lab.ipmb
port_on Smbus lab = lab.smbus

-- a lab with another port on a bus
abbrev pub with_port : Bus → Port → Lab → Lab
with_port Ipmb port lab = record lab { ipmb = port }
with_port Smbus port lab = record lab { smbus = port }

-- how often a requester was forgotten
abbrev pub idles_of : ℕ → List Entry → ℕ
idles_of requester [] = 0
idles_of requester (Carried request answered ∷ log) = idles_of requester log
idles_of requester (Idled other ∷ log) = if other == requester then idles_of requester log + 1 else idles_of requester log

module _ (names : Names) where
  -- how often the manager was, on a bus
  abbrev pub idles_on : Bus → Lab → ℕ
  idles_on on lab = idles_of (own_on on names) (port_on on lab).log

  -- frames are sent
  abbrev pub with_frames : Bus → Way → ℕ → List Value → Lab → Lab
  with_frames on way request values lab =
      record lab { frames = lab.frames ++ map (λ value. record { on = on; way = way; request = request; idles = idles_on on lab; value = value }) values }

  -- the manager's open request, if there is one, is sent
  abbrev pub sends : Option Asked → Lab → Lab
  sends None lab = lab
  sends (Some asked) lab = let number = lab.manager.answered (bus_of asked) in with_frames (bus_of asked) ToPort number (frames_of names number asked) lab

  -- the manager went on
  abbrev pub goes_on : Turn → Lab → Lab
  goes_on turn lab = let next : Lab = record lab { manager = turn.manager } in if turn.sends then sends (open_in names turn.manager.phase) next else next

  -- what a port did, and the frames that it sent
  abbrev pub port_does : Bus → Way → ℕ → StepResult → Lab → Lab
  port_does on way request deed lab = with_frames on way request deed.sent (with_port on deed.port (record lab { board = deed.board }))

-- a frame of a request comes to the port
abbrev pub opens : Value → ℕ → Lab → Lab
opens (Part packet) request lab =
    if packet.start && is_meant lab.smbus.eid packet then record lab { opened = λ tag. if tag == packet.envelope.tag then request else lab.opened tag } else lab
opens value request lab = lab

module _ (controller : Controller) (names : Names) where
  -- a frame comes to the port, if there is such a frame
  abbrev pub delivered : Option Frame → Lab → Lab
  delivered None lab = lab
  delivered (Some frame) lab = port_does names frame.on ToManager frame.request (hears controller (port_on frame.on lab) lab.board frame.value) (opens frame.value frame.request lab)

  -- a frame comes to the manager, if there is such a frame
  abbrev pub returned : Option Frame → Lab → Lab
  returned None lab = lab
  returned (Some frame) lab = goes_on names (manager_hears names frame.value lab.manager.phase lab.manager) lab

  -- all packets of a message come, if it goes to the port's address
  abbrev pub hears_all : Message → Port → State → StepResult
  hears_all message port before = if message.envelope.destination == port.wire then hears_packets controller port before (packets_of message.envelope message.body) else stays port before

  -- the lab after an event
  unfoldable pub step : Lab → Event → Lab
  step lab (Calls call) = goes_on names (called call lab.manager.phase lab.manager) lab
  step lab (ToBmc place) = delivered (slice_get lab.frames place) lab
  step lab (ToMgr place) = returned (slice_get lab.frames place) lab
  step lab (OtherIpmb request) = port_does names Ipmb ToOthers 0 (hears controller lab.ipmb lab.board (Asks request)) lab
  step lab (OtherSmbus message) = port_does names Smbus ToOthers 0 (hears_all message lab.smbus lab.board) lab
  step lab (Noise on bytes) = lab
  step lab (Idles on requester) = with_port on (record (port_on on lab) { log = Idled requester ∷ (port_on on lab).log }) lab
  step lab (OnBench activity) = record lab { board = on_bench lab.board activity }

  -- the lab after events
  unfoldable pub run : List Event → Lab → Lab
  run [] lab = lab
  run (event ∷ events) lab = run events (step lab event)

  -- a lab as it begins
  abbrev pub opening : List Op → (retries : ℕ) → Lab
  opening plan retries = record {
    board = controller.begins;
    ipmb = record { wire = names.peer_address; eid = names.peer_eid; waits = []; log = [] };
    smbus = record { wire = names.peer_wire; eid = names.peer_eid; waits = []; log = [] };
    manager = record { plan = plan; retries = retries; resent = 0; phase = Fresh; stopped = false; undo = []; answered = λ on. 0; waits = [] };
    frames = [];
    opened = λ tag. 0;
  }
