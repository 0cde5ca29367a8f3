-- A manager: what each call and each frame makes of it, and when it sends the frames of its open request.
use Rattle.std.specs.Prelude.{ℕ, suc, ◌+◌, ◌==◌, ◌&&◌, ◌||◌, not, ◌/◌, ◌%◌, nat_lt, Bool, true, false, List, [], ◌∷◌, ◌++◌, length, map, Option, Some, None, if◌then◌else◌, slice_get}
pub use Rattle.two_wire.specs.Codes.{success, node_busy, pldm_not_ready}
use Rattle.pldm_base.specs.Message.{request_bytes}
pub use Rattle.record_base.specs.declared.op.Op.{Op}
pub use Rattle.record_base.specs.declared.message.Asked.{Asked}
pub use Rattle.record_base.specs.declared.message.Asked.TheVariants.{Ipmi, Pldm}
pub use Rattle.record_base.specs.declared.message.Answered.{Answered}
use Rattle.record_kinds.specs.Limits.{key_of, inverse}
pub use Rattle.record_kinds.specs.Series.{Series, Reads, sends, first_of, next_after, request_after, first_shown}
use Rattle.bmc_board.specs.Decode.{sent_by}
pub use Rattle.undo_plans.specs.declared.names.Names.{Names}
pub use Rattle.undo_plans.specs.Showing.{shown_by}
use Rattle.model_headline.specs.Frames.{Bus, Ipmb, Smbus, Response, Packet, Value, Asks, Tells, Part, circle, tags, envelope, packets_of, is_taken, whole, waits_after}

-- the calls
pub data Call : Type 0 where
  Start Quiet Stop Again Undo : Call

-- why a plan halted: it was to stop, the Get or the Set of a step was refused, or the step can't be undone from the replies to its Get
pub data Why : Type 0 where
  Stop NotRestorable : Why
  GetRefused Refused : (code : ℕ) → Why

-- What a manager is at; steps count from 0. Each task is a series of requests, of which one is sent once the one before it was answered.
pub data Task : Type 0 where
  -- it gets the record that this step of the plan changes
  Gets : (step : ℕ) (op : Op) → Task
  -- it carries this step out, and keeps what undoes it
  Sets : (step : ℕ) (op back : Op) → Task
  -- it undoes a step by the first operation, and those before it by the rest
  Undoes : (back : Op) (rest : List Op) → Task

-- Where it is with its plan. A task's request is open, after replies with these data to those before it: heeded, or unsettled, since it was
-- sent as often as is allowed, and then no reply is taken. A plan halted after so many steps.
pub data Phase : Type 0 where
  Fresh Done Undone : Phase
  Open : (heeded : Bool) (task : Task) (bodies : List (List ℕ)) → Phase
  Halted : (steps : ℕ) (why : Why) → Phase
  UndoRefused : (steps code : ℕ) → Phase

-- a manager: its plan, how far it is, and what it remembers
pub record Manager : Type 0 where
  pub plan : List Op
  -- how often the frames of a request may be sent again, and how often those of the open one were, since it was opened or heeded again
  pub retries : ℕ
  pub resent : ℕ
  pub phase : Phase
  -- the plan is to halt before the next Set
  pub stopped : Bool
  -- what undoes the steps that were acknowledged, the last step's first
  pub undo : List Op
  -- how many of its requests were answered on each bus: so it is the open one's number, counted from 0
  pub answered : Bus → ℕ
  -- the packets that wait
  pub waits : List Packet

-- by which the manager is known as a requester on a bus
abbrev pub own_on : Bus → Names → ℕ
own_on Ipmb names = names.own_address
own_on Smbus names = names.own_eid

-- IPMI goes over IPMB, and PLDM over SMBus
abbrev pub bus_of : Asked → Bus
bus_of (Ipmi from net_fn lun command body) = Ipmb
bus_of (Pldm from kind command body) = Smbus

-- the manager asks this
abbrev pub by_manager : Names → Asked → Asked
by_manager names asked = sent_by (own_on (bus_of asked) names) asked

-- the requests of a task
abbrev pub series_of : Task → Series
series_of (Gets step op) = Reads (key_of op)
series_of (Sets step op back) = sends op
series_of (Undoes back rest) = sends back

-- the request of a task after replies with these data
abbrev pub asked_for : Names → Task → (bodies : List (List ℕ)) → Asked
asked_for names task bodies = by_manager names (request_after (series_of task) bodies)

-- the open request
abbrev pub open_in : Names → Phase → Option Asked
open_in names (Open heeded task bodies) = Some (asked_for names task bodies)
open_in names phase = None

-- the frames of the manager's request of this number: one on IPMB, and on SMBus the packets of a message, whose tag is the number's
abbrev pub frames_of : Names → ℕ → Asked → List Value
frames_of names number (Ipmi from net_fn lun command body) =
    Asks (record { header = record { responder = record { address = names.peer_address; lun = lun }; requester = record { address = names.own_address; lun = 0 }; net_fn = net_fn; sequence = number % circle Ipmb; command = command }; body = body }) ∷ []
frames_of names number (Pldm from kind command body) =
    map Part (packets_of (envelope names.peer_wire names.own_wire names.peer_eid names.own_eid true (number % tags))
    (1 ∷ request_bytes (record { header = record { instance = number % circle Smbus; pldm_type = kind; command = command }; body = body })))

-- what becomes of the manager, and whether it sends the frames of its open request then
pub record Turn : Type 0 where
  pub manager : Manager
  pub sends : Bool

-- a phase is entered, and the request that it opens, if it opens one, is sent
abbrev pub enters : Phase → Manager → Turn
enters phase manager = record { manager = record manager { phase = phase; resent = 0 }; sends = true }

-- nothing is sent
abbrev pub rests : Manager → Turn
rests manager = record { manager = manager; sends = false }

-- the next step's Get, unless the plan ended or is to stop
abbrev pub next_step : Bool → ℕ → Option Op → Phase
next_step stopped step None = Done
next_step true step (Some op) = Halted step Stop
next_step false step (Some op) = Open true (Gets step op) []

-- the step's Set, unless it can't be undone or the plan is to stop
abbrev pub set_step : Bool → ℕ → Op → Option Op → Phase
set_step stopped step op None = Halted step NotRestorable
set_step true step op (Some back) = Halted step Stop
set_step false step op (Some back) = Open true (Sets step op back) []

-- what undoes is gone through, or nothing is left
abbrev pub undo_step : List Op → Phase
undo_step [] = Undone
undo_step (back ∷ rest) = Open true (Undoes back rest) []

-- a call; in a phase that isn't one for the call nothing changes
abbrev pub called : Call → Phase → Manager → Turn
called Start Fresh manager = enters (next_step false 0 (slice_get manager.plan 0)) manager
called Quiet (Open true task bodies) manager =
    if nat_lt manager.resent manager.retries then record { manager = record manager { resent = manager.resent + 1 }; sends = true }
    else rests (record manager { phase = Open false task bodies })
called Again (Open false task bodies) manager = enters (Open true task bodies) manager
called Stop (Open true (Gets step op) bodies) manager = rests (record manager { stopped = true })
called Stop (Open true (Sets step op back) bodies) manager = rests (record manager { stopped = true })
called Undo Done manager = enters (undo_step manager.undo) (record manager { waits = [] })
called Undo (Halted steps why) manager = enters (undo_step manager.undo) (record manager { waits = [] })
called call phase manager = rests manager

-- Requests of the task were carried out, whose replies have these data: another is to come, or they were all. A plan that is to stop gets no more.
abbrev pub carried_out : (another : Option Asked) → Task → (bodies : List (List ℕ)) → Manager → Turn
carried_out (Some asked) (Gets step op) bodies manager = enters (if manager.stopped then Halted step Stop else Open true (Gets step op) bodies) manager
carried_out (Some asked) task bodies manager = enters (Open true task bodies) manager
carried_out None (Gets step op) bodies manager = enters (set_step manager.stopped step op (inverse op (shown_by (key_of op) bodies))) manager
carried_out None (Sets step op back) bodies manager = enters (next_step manager.stopped (suc step) (slice_get manager.plan (suc step))) (record manager { undo = back ∷ manager.undo })
carried_out None (Undoes back rest) bodies manager = enters (undo_step rest) manager

-- it was refused
abbrev pub refused : Task → ℕ → Manager → Turn
refused (Gets step op) code manager = enters (Halted step (GetRefused code)) manager
refused (Sets step op back) code manager = enters (Halted step (Refused code)) manager
refused (Undoes back rest) code manager = enters (UndoRefused (length rest) code) manager

-- one more was answered on the bus
abbrev pub one_more : Bus → (Bus → ℕ) → Bus → ℕ
one_more Ipmb answered Ipmb = suc (answered Ipmb)
one_more Smbus answered Smbus = suc (answered Smbus)
one_more bus answered on = answered on

-- the answer to the task's open request comes, if one does; that of a busy port is none
abbrev pub answered_by : Names → Task → (bodies : List (List ℕ)) → Option Answered → Manager → Turn
answered_by names task bodies None manager = rests manager
answered_by names task bodies (Some answered) manager =
    let next : Manager = record manager { answered = one_more (bus_of (asked_for names task bodies)) manager.answered } in
    let with_it = bodies ++ answered.body ∷ [] in
    if answered.code == node_busy || answered.code == pldm_not_ready then rests manager
    else if answered.code == success then carried_out (next_after (series_of task) with_it) task with_it next
    else refused task answered.code next

-- the answer that a response gives to the request of this number: it has the same netFn, number and command
abbrev pub answer_in : ℕ → Asked → Response → Option Answered
answer_in number (Ipmi from net_fn lun command body) response =
    if response.header.net_fn == net_fn && response.header.sequence == number % circle Ipmb && response.header.command == command
    then Some (record { code = response.code; body = response.body }) else None
answer_in number (Pldm from kind command body) response = None

-- a packet goes from the controller to the manager, under the tag of the request of this number
abbrev pub is_part : Names → ℕ → Asked → Packet → Bool
is_part names number (Ipmi from net_fn lun command body) packet = false
is_part names number (Pldm from kind command body) packet =
    (packet.envelope.destination == names.own_wire && packet.envelope.source == names.peer_wire)
    && (packet.envelope.source_eid == names.peer_eid && (not packet.envelope.tag_owner && packet.envelope.tag == number % tags))

-- the answer that a message gives: type 01h, request and datagram bit clear, and the same number, PLDM type and command
abbrev pub read_in : ℕ → Asked → List ℕ → Option Answered
read_in number (Pldm from kind command sent) (one ∷ flags ∷ of_kind ∷ of_command ∷ code ∷ body) =
    if one == 1 && flags / 64 == 0 && flags % circle Smbus == number % circle Smbus && of_kind == kind && of_command == command then Some (record { code = code; body = body }) else None
read_in number asked bytes = None

-- a frame comes, which is nothing to a manager that heeds no request
abbrev pub hears : Names → Value → Phase → Manager → Turn
hears names (Tells response) (Open true task bodies) manager =
    if response.header.requester.address == names.own_address && response.header.responder.address == names.peer_address
    then answered_by names task bodies (answer_in (manager.answered Ipmb) (asked_for names task bodies) response) manager else rests manager
hears names (Part packet) (Open true task bodies) manager =
    let asked = asked_for names task bodies in
    let next : Manager = record manager { waits = waits_after names.own_eid packet manager.waits } in
    if not (is_part names (manager.answered Smbus) asked packet) then rests manager
    else if is_taken names.own_eid packet manager.waits && packet.end then answered_by names task bodies (read_in (manager.answered Smbus) asked (whole packet manager.waits)) next
    else rests next
hears names value phase manager = rests manager
