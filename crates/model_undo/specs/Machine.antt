-- A manager as a machine: the machine after each call and each reply, and the request that the machine then sends.
use Rattle.std.specs.Prelude.{ℕ, suc, ◌+◌, ◌==◌, nat_le, nat_lt, Bool, true, false, List, [], ◌∷◌, ◌++◌, length, Option, Some, None, if◌then◌else◌, slice_get}
use Rattle.two_wire.specs.Codes.{success}
use Rattle.two_wire.specs.Retries.{most_retries}
use Rattle.two_wire.specs.declared.Bus.{Bus}
use Rattle.two_wire.specs.declared.Bus.TheVariants.{Ipmb, Smbus}
use Rattle.model_bus.specs.Answered.{Answered}
use Rattle.model_undo.specs.Words.{is_busy, Words}
use Rattle.model_undo.specs.declared.call.Call.{Call}
use Rattle.model_undo.specs.declared.call.Call.TheVariants as manager_call
use Rattle.model_undo.specs.declared.phase.Why.{Why}
use Rattle.model_undo.specs.declared.phase.Why.TheVariants.{Stop, Refused, NotRestorable, GetRefused}
use Rattle.model_undo.specs.declared.phase.Phase.{Phase}
use Rattle.model_undo.specs.declared.phase.Phase.TheVariants.{Fresh, Getting, Setting, Done, Halted, Unsettled, Undoing, Undone, UndoRefused}

-- the two are the same bus
abbrev pub same_bus : Bus → Bus → Bool
same_bus Ipmb Ipmb = true
same_bus Ipmb Smbus = false
same_bus Smbus Ipmb = false
same_bus Smbus Smbus = true

-- How many of the manager's requests were answered on each bus. So the count is the number of the open request, counted from 0, or of the next
-- request where none is open.
pub record Counts : Type 0 where
  pub ipmb : ℕ
  pub smbus : ℕ

-- the count of a bus
abbrev pub count_of : Bus → Counts → ℕ
count_of Ipmb counts = counts.ipmb
count_of Smbus counts = counts.smbus

-- one more was answered on the bus
abbrev pub one_answered : Bus → Counts → Counts
one_answered Ipmb counts = record counts { ipmb = suc counts.ipmb }
one_answered Smbus counts = record counts { smbus = suc counts.smbus }

-- A task of the manager: one series of requests.
pub data Task (words : Words) : Type 0 where
  -- it gets the record that this step of the plan changes
  Gets : (step : ℕ) (op : words.Op) → Task words
  -- it carries this step out, and keeps the operation that undoes it
  Sets : (step : ℕ) (op : words.Op) (back : words.Op) → Task words
  -- it undoes a step by the first series, and the steps before that by the rest
  Undoes : (first : words.Series) (rest : List words.Series) → Task words

-- the requests of a task
abbrev pub series_of : (words : Words) → Task words → words.Series
series_of words (Gets step op) = words.getting (words.key_of op)
series_of words (Sets step op back) = words.setting op
series_of words (Undoes first rest) = first

-- the open request of a task, and the data of the replies to the requests before it
pub record Part (words : Words) : Type 0 where
  pub asked : words.Asked
  pub before : List (List ℕ)

abbrev pub first_part : (words : Words) → Task words → Part words
first_part words task = record { asked = words.first (series_of words task); before = [] }

-- the bus of the open request
abbrev pub bus_at : (words : Words) → Part words → Bus
bus_at words part = words.bus_of part.asked

-- how far the manager is
pub data Stage (words : Words) : Type 0 where
  AtStart : Stage words
  -- a task's request is open; heeded, or unsettled: then no reply is taken
  Opened : (heeded : Bool) (task : Task words) (part : Part words) → Stage words
  AtEnd : Stage words
  AtHalt : (step : ℕ) (why : Why) → Stage words
  AtUndone : Stage words
  AtRefused : (step code : ℕ) → Stage words

-- a task is begun
abbrev pub begun : (words : Words) → Task words → Stage words
begun words task = Opened true task (first_part words task)

-- the machine
pub record Machine (words : Words) : Type 0 where
  pub plan : List words.Op
  -- how often the frames of a request may be sent again
  pub retries : ℕ
  pub stage : Stage words
  -- it is to stop before the next step, or before the Set of this step
  pub stopped : Bool
  -- how often the open request's frames were sent again, since it was opened or heeded again
  pub resent : ℕ
  -- what undoes the steps that were acknowledged, the last step's first
  pub undo : List words.Series
  pub counts : Counts

-- a request that is sent: what it asks, on which bus, and as which of the manager's requests there
pub record Sending (words : Words) : Type 0 where
  pub bus : Bus
  pub count : ℕ
  pub asked : words.Asked

-- the machine after a call or a reply, and the request that it then sends
pub record Turn (words : Words) : Type 0 where
  pub machine : Machine words
  pub sends : Option (Sending words)

-- ---- phases

abbrev pub task_phase : (words : Words) → Task words → Phase
task_phase words (Gets step op) = Getting step
task_phase words (Sets step op back) = Setting step
task_phase words (Undoes first rest) = Undoing (length rest)

abbrev pub task_step : (words : Words) → Task words → ℕ
task_step words (Gets step op) = step
task_step words (Sets step op back) = step
task_step words (Undoes first rest) = length rest

abbrev pub phase_at : (words : Words) → Stage words → Phase
phase_at words AtStart = Fresh
phase_at words (Opened true task part) = task_phase words task
phase_at words (Opened false task part) = Unsettled (task_step words task)
phase_at words AtEnd = Done
phase_at words (AtHalt step why) = Halted step why
phase_at words AtUndone = Undone
phase_at words (AtRefused step code) = UndoRefused step code

abbrev pub phase_of : (words : Words) → Machine words → Phase
phase_of words machine = phase_at words machine.stage

-- the bus on which a request is open
abbrev pub open_bus_at : (words : Words) → Stage words → Option Bus
open_bus_at words (Opened heeded task part) = Some (bus_at words part)
open_bus_at words _ = None

abbrev pub open_bus : (words : Words) → Machine words → Option Bus
open_bus words machine = open_bus_at words machine.stage

-- ---- the requests that are sent

-- the open request
abbrev pub sending : (words : Words) → Part words → Counts → Sending words
sending words part counts = record { bus = bus_at words part; count = count_of (bus_at words part) counts; asked = part.asked }

-- the request that the manager sends as it enters a stage
abbrev pub sends_at : (words : Words) → Stage words → Counts → Option (Sending words)
sends_at words (Opened heeded task part) counts = Some (sending words part counts)
sends_at words _ counts = None

-- a stage is entered; its request, if it opens one, wasn't sent again yet
abbrev pub enters : (words : Words) → Stage words → Machine words → Turn words
enters words stage machine = record { machine = record machine { stage = stage; resent = 0 }; sends = sends_at words stage machine.counts }

-- nothing is sent
abbrev pub rests : (words : Words) → Machine words → Turn words
rests words machine = record { machine = machine; sends = None }

-- ---- the calls: none where the phase isn't one for the call, and then nothing changes

-- the plan's first step, or its end
abbrev pub first_stage : (words : Words) → Option words.Op → Stage words
first_stage words None = AtEnd
first_stage words (Some op) = begun words (Gets 0 op)

abbrev pub starts : (words : Words) → Stage words → Machine words → Option (Turn words)
starts words AtStart machine = Some (enters words (first_stage words (slice_get machine.plan 0)) machine)
starts words _ machine = None

-- the plan is begun
abbrev pub start_of : (words : Words) → Machine words → Option (Turn words)
start_of words machine = starts words machine.stage machine

-- the manager goes through the series that undo, or none is left
abbrev pub undo_stage : (words : Words) → List words.Series → Stage words
undo_stage words [] = AtUndone
undo_stage words (first ∷ rest) = begun words (Undoes first rest)

abbrev pub undoes : (words : Words) → Stage words → Machine words → Option (Turn words)
undoes words AtEnd machine = Some (enters words (undo_stage words machine.undo) machine)
undoes words (AtHalt step why) machine = Some (enters words (undo_stage words machine.undo) machine)
undoes words _ machine = None

-- the undo is begun, once the plan ended or halted
abbrev pub undo_of : (words : Words) → Machine words → Option (Turn words)
undo_of words machine = undoes words machine.stage machine

abbrev pub quiets : (words : Words) → Stage words → Machine words → Option (Turn words)
quiets words (Opened true task part) machine =
    if nat_lt machine.resent machine.retries
    then Some (record { machine = record machine { resent = machine.resent + 1 }; sends = Some (sending words part machine.counts) })
    else Some (rests words (record machine { stage = Opened false task part }))
quiets words _ machine = None

-- no reply came: the manager sends the open request again, or the request is unsettled
abbrev pub quiet_of : (words : Words) → Machine words → Option (Turn words)
quiet_of words machine = quiets words machine.stage machine

abbrev pub agains : (words : Words) → Stage words → Machine words → Option (Turn words)
agains words (Opened false task part) machine = Some (enters words (Opened true task part) machine)
agains words _ machine = None

-- the manager sends the unsettled request again, and heeds it again
abbrev pub again_of : (words : Words) → Machine words → Option (Turn words)
again_of words machine = agains words machine.stage machine

abbrev pub stops : (words : Words) → Stage words → Machine words → Option (Turn words)
stops words (Opened true (Gets step op) part) machine = Some (rests words (record machine { stopped = true }))
stops words (Opened true (Sets step op back) part) machine = Some (rests words (record machine { stopped = true }))
stops words _ machine = None

-- the plan is to halt before the next Set
abbrev pub stop_of : (words : Words) → Machine words → Option (Turn words)
stop_of words machine = stops words machine.stage machine

-- the manager is called
abbrev pub call_of : (words : Words) → Call → Machine words → Option (Turn words)
call_of words manager_call.Start machine = start_of words machine
call_of words manager_call.Quiet machine = quiet_of words machine
call_of words manager_call.Stop machine = stop_of words machine
call_of words manager_call.Again machine = again_of words machine
call_of words manager_call.Undo machine = undo_of words machine

-- ---- replies

-- after a Get that is carried out: the step's Set, unless it can't be undone or the plan is to stop
abbrev pub set_stage : (words : Words) → Bool → ℕ → words.Op → Option words.Op → Stage words
set_stage words stopped step op None = AtHalt step NotRestorable
set_stage words true step op (Some back) = AtHalt step Stop
set_stage words false step op (Some back) = begun words (Sets step op back)

-- after a Set that is carried out: the next step's Get, unless the plan ended or is to stop
abbrev pub next_stage : (words : Words) → Bool → ℕ → Option words.Op → Stage words
next_stage words stopped step None = AtEnd
next_stage words true step (Some op) = AtHalt step Stop
next_stage words false step (Some op) = begun words (Gets step op)

-- a request of the task was refused
abbrev pub refused : (words : Words) → ℕ → Task words → Stage words
refused words code (Gets step op) = AtHalt step (GetRefused code)
refused words code (Sets step op back) = AtHalt step (Refused code)
refused words code (Undoes first rest) = AtRefused (length rest) code

-- the task has another request; a plan that is to stop gets no more
abbrev pub goes_on : (words : Words) → Bool → Task words → Part words → Stage words
goes_on words stopped (Gets step op) part = if stopped then AtHalt step Stop else Opened true (Gets step op) part
goes_on words stopped (Sets step op back) part = Opened true (Sets step op back) part
goes_on words stopped (Undoes first rest) part = Opened true (Undoes first rest) part

-- the task is done, and its replies show these data
abbrev pub finished : (words : Words) → Bool → List words.Op → List ℕ → Task words → Stage words
finished words stopped plan shown (Gets step op) = set_stage words stopped step op (words.inverse op shown)
finished words stopped plan shown (Sets step op back) = next_stage words stopped (suc step) (slice_get plan (suc step))
finished words stopped plan shown (Undoes first rest) = undo_stage words rest

-- the task goes on, or is done, after replies with these data
abbrev pub told_stage : (words : Words) → Bool → List words.Op → Task words → List (List ℕ) → Option words.Asked → Stage words
told_stage words stopped plan task bodies (Some asked) = goes_on words stopped task (record { asked = asked; before = bodies })
told_stage words stopped plan task bodies None = finished words stopped plan (words.joined (series_of words task) bodies) task

-- the data of a task's replies, with this one
abbrev pub bodies_with : (words : Words) → Answered → Part words → List (List ℕ)
bodies_with words answered part = part.before ++ answered.body ∷ []

-- the task's next request after this reply, none where that was its last
abbrev pub next_asked : (words : Words) → Answered → Task words → Part words → Option words.Asked
next_asked words answered task part = words.next (series_of words task) (bodies_with words answered part)

-- the stage after the reply to a task's request
abbrev pub stage_after : (words : Words) → Bool → List words.Op → Answered → Task words → Part words → Stage words
stage_after words stopped plan answered task part =
    if answered.code == success then told_stage words stopped plan task (bodies_with words answered part) (next_asked words answered task part) else refused words answered.code task

-- the reply to a step's last request acknowledges the step, and the manager keeps the series that undoes it
abbrev pub undo_with : (words : Words) → words.Op → Option words.Asked → List words.Series → List words.Series
undo_with words back (Some asked) undo = undo
undo_with words back None undo = words.setting back ∷ undo

-- the series that undo the acknowledged steps, after the reply
abbrev pub undo_after : (words : Words) → Answered → Task words → Part words → List words.Series → List words.Series
undo_after words answered (Gets step op) part undo = undo
undo_after words answered (Sets step op back) part undo = if answered.code == success then undo_with words back (next_asked words answered (Sets step op back) part) undo else undo
undo_after words answered (Undoes first rest) part undo = undo

-- the machine takes the reply to the open request
abbrev pub takes : (words : Words) → Answered → Task words → Part words → Machine words → Turn words
takes words answered task part machine =
    enters words (stage_after words machine.stopped machine.plan answered task part)
    (record machine { undo = undo_after words answered task part machine.undo; counts = one_answered (bus_at words part) machine.counts })

abbrev pub replies : (words : Words) → Answered → Stage words → Machine words → Option (Turn words)
replies words answered (Opened true task part) machine = if is_busy answered.code then None else Some (takes words answered task part machine)
replies words answered _ machine = None

-- the reply to the open request comes: none where it is ignored, and then nothing changes
abbrev pub reply_of : (words : Words) → Answered → Machine words → Option (Turn words)
reply_of words answered machine = replies words answered machine.stage machine

-- ---- a manager that was opened with a plan

abbrev pub opened : (words : Words) → List words.Op → ℕ → Machine words
opened words plan retries = record {
  plan = plan;
  retries = retries;
  stage = AtStart;
  stopped = false;
  resent = 0;
  undo = [];
  counts = record { ipmb = 0; smbus = 0 };
}

-- a manager is opened: none with more retries
abbrev pub open_of : (words : Words) → List words.Op → ℕ → Option (Machine words)
open_of words plan retries = if nat_le retries most_retries then Some (opened words plan retries) else None
