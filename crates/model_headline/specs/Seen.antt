-- The lab of the machinery that a lab of the statement is. This is no part of the statement: it says in which words the statement was proved.
use Rattle.std.specs.Prelude.{ℕ, Bool, List, length, filter, map, Some}
use Rattle.two_wire.specs.declared.Bus.{Bus}
use Rattle.two_wire.specs.declared.Bus.TheVariants.{Ipmb, Smbus}
use Rattle.mctp_net.specs.declared.packet.Name.{Name}
use Rattle.mctp_net.specs.declared.packet.Packet.{Packet}
use Rattle.mctp_net.specs.Cut.{piece}
use Rattle.mctp_net.specs.Assembly.{Assemblies, name_of, is_name}
use Rattle.record_base.specs.declared.message.Asked.{Asked}
use Rattle.record_base.specs.declared.message.Answered.{Answered}
use Rattle.undo_plans.specs.declared.names.Names.{Names}
use Rattle.model_bus.specs.Request as bus
use Rattle.model_bus.specs.Answered.{Answered as UndoAnswered}
use Rattle.model_undo.specs.Words.{Words}
use Rattle.model_undo.specs.Machine as machine
use Rattle.bmc_core.specs.Wires.{reply_to}
use Rattle.bmc_core.specs.Values as values
use Rattle.bmc_core.specs.PortSteps as port
use Rattle.model_lab.specs.ManagerSteps as manager
use Rattle.model_lab.specs.ManagerSteps.{Plans, board_plans}
use Rattle.model_lab.specs.Lab as lab
use Rattle.model_headline.specs.Frames.{Value, Asks, Tells, Part}
use Rattle.model_headline.specs.Manager.{Call, Start, Quiet, Stop, Again, Undo, Why, GetRefused, Refused, NotRestorable, Task, Gets, Sets, Undoes, Phase, Fresh, Open, Done, Halted, Undone, UndoRefused, Manager, sends, asked_for}
use Rattle.model_headline.specs.Lab.{Heard, Entry, Carried, Idled, Port, StepResult, Way, ToPort, ToManager, ToOthers, Frame, Event, Calls, ToBmc, ToMgr, OtherIpmb, OtherSmbus, Noise, Idles, OnBench, Lab}
use Rattle.model_lab.specs.declared.way.Way.TheVariants as lab_way
use Rattle.model_lab.specs.declared.way.Way.{Way as LabWay}
use Rattle.model_undo.specs.declared.call.Call.TheVariants as lab_call
use Rattle.model_undo.specs.declared.call.Call.{Call as LabCall}
use Rattle.model_undo.specs.declared.phase.Why.{Why as UndoWhy}
use Rattle.model_undo.specs.declared.phase.Why.TheVariants as undo_why

-- ---- packets that wait

-- the packet has the name
abbrev pub has : Name → Packet → Bool
has name packet = is_name (name_of packet.envelope) name

-- what waits under a name
abbrev pub under : Name → List Packet → List Packet
under name waits = filter (has name) waits

-- how many starts there are
abbrev pub starts : List Packet → ℕ
starts waits = length (filter (λ packet. packet.start) waits)

-- what waits, as the assembler keeps it, with the bytes of the message that it made last
abbrev pub seen_as : List Packet → List ℕ → Assemblies
seen_as waits made = record { under = λ name. map piece (under name waits); open_count = starts waits; made = made }

-- ---- what a port did

-- a request in the words of the model
abbrev pub bare : Heard → bus.Request
bare heard = record { requester = heard.requester; number = heard.number; bytes = heard.bytes }

-- an answer, in the words of the undo model
abbrev pub words_of : Answered → UndoAnswered
words_of answered = record { code = answered.code; body = answered.body }

module _ (spelled : List ℕ → Answered → List ℕ) where
  -- what a port did, where replies are spelled so
  abbrev pub seen_entry : Entry → bus.Entry
  seen_entry (Carried heard answered) = bus.Carried (record { request = bare heard; reply = spelled heard.bytes answered })
  seen_entry (Idled requester) = bus.Idled requester

  abbrev pub seen_log : List Entry → List bus.Entry
  seen_log log = map seen_entry log

-- ---- frames and events

abbrev pub seen_value : Value → values.Value
seen_value (Asks request) = values.Asks request
seen_value (Tells response) = values.Tells response
seen_value (Part packet) = values.Part packet

abbrev pub seen_way : Way → LabWay
seen_way ToPort = lab_way.ToPort
seen_way ToManager = lab_way.ToManager
seen_way ToOthers = lab_way.ToOthers

abbrev pub seen_frame : Frame → lab.LabFrame
seen_frame frame = record { on = frame.on; way = seen_way frame.way; request = frame.request; idles = frame.idles; value = seen_value frame.value }

abbrev pub seen_call : Call → LabCall
seen_call Start = lab_call.Start
seen_call Quiet = lab_call.Quiet
seen_call Stop = lab_call.Stop
seen_call Again = lab_call.Again
seen_call Undo = lab_call.Undo

abbrev pub seen_event : Event → lab.Event
seen_event (Calls call) = lab.Calls (seen_call call)
seen_event (ToBmc place) = lab.ToBmc place
seen_event (ToMgr place) = lab.ToMgr place
seen_event (OtherIpmb request) = lab.OtherIpmb request
seen_event (OtherSmbus message) = lab.OtherSmbus message
seen_event (Noise on bytes) = lab.Noise on bytes
seen_event (Idles on requester) = lab.Idles on requester
seen_event (OnBench activity) = lab.OnBench activity

-- ---- a port

-- how a reply is spelled there
abbrev pub spell : Bus → List ℕ → Answered → List ℕ
spell on bytes answered = reply_to on bytes (words_of answered)

abbrev pub seen_port : Bus → (made : List ℕ) → Port → port.PortState
seen_port on made at = record { wire = at.wire; eid = at.eid; kept = seen_as at.waits made; log = seen_log (spell on) at.log }

abbrev pub seen_deed : Bus → (made : List ℕ) → StepResult → port.StepResult
seen_deed on made deed = record { port = seen_port on made deed.port; board = deed.board; sent = map seen_value deed.sent }

-- the bytes that an assembler made last, at both ports and at the manager
pub record SeenManager : Type 0 where
  pub ipmb : List ℕ
  pub smbus : List ℕ
  pub manager : List ℕ

module _ (names : Names) where
  abbrev pub seen_plans : Plans
  seen_plans = board_plans names

  abbrev pub seen_words : Words
  seen_words = seen_plans.words

  -- ---- the manager

  abbrev pub seen_why : Why → UndoWhy
  seen_why Stop = undo_why.Stop
  seen_why (GetRefused code) = undo_why.GetRefused code
  seen_why (Refused code) = undo_why.Refused code
  seen_why NotRestorable = undo_why.NotRestorable

  abbrev pub seen_task : Task → machine.Task seen_words
  seen_task (Gets step op) = machine.Gets step op
  seen_task (Sets step op back) = machine.Sets step op back
  seen_task (Undoes back rest) = machine.Undoes (sends back) (map sends rest)

  -- its open request, after replies with these data
  abbrev pub part_of : Asked → List (List ℕ) → machine.Part seen_words
  part_of asked bodies = record { asked = asked; before = bodies }

  abbrev pub stage_of : Phase → machine.Stage seen_words
  stage_of Fresh = machine.AtStart
  stage_of (Open heeded task bodies) = machine.Opened heeded (seen_task task) (part_of (asked_for names task bodies) bodies)
  stage_of Done = machine.AtEnd
  stage_of (Halted steps why) = machine.AtHalt steps (seen_why why)
  stage_of Undone = machine.AtUndone
  stage_of (UndoRefused steps code) = machine.AtRefused steps code

  abbrev pub counts_of : (Bus → ℕ) → machine.Counts
  counts_of answered = record { ipmb = answered Ipmb; smbus = answered Smbus }

  abbrev pub machine_of : Manager → machine.Machine seen_words
  machine_of state = record {
    plan = state.plan;
    retries = state.retries;
    stage = stage_of state.phase;
    stopped = state.stopped;
    resent = state.resent;
    undo = map sends state.undo;
    counts = counts_of state.answered;
  }

  abbrev pub seen_manager : (made : List ℕ) → Manager → manager.ManagerState seen_plans
  seen_manager made state = record { machine = machine_of state; names = names; listed = Some names; joined = seen_as state.waits made }

  -- ---- the lab

  abbrev pub seen_lab : SeenManager → Lab → lab.Lab seen_plans
  seen_lab made here = record {
    board = here.board;
    ipmb = seen_port Ipmb made.ipmb here.ipmb;
    smbus = seen_port Smbus made.smbus here.smbus;
    manager = seen_manager made.manager here.manager;
    frames = map seen_frame here.frames;
    opened = here.opened;
  }
