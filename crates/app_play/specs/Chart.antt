-- The chart of a play, line by line: manager, bus and controller side by side.
use Rattle.std.specs.Prelude.{ℕ, zero, suc, ◌+◌, ◌-◌, Bool, true, false, List, [], ◌∷◌, ◌++◌, map, take, Option, Some, None, codes}
use Rattle.std.specs.List.{flat_map, enumerate_from}
use Rattle.std.specs.Fmt.{decimal}
use Rattle.text_lines.specs.Cuts.{ended}
use Rattle.two_wire.specs.declared.Bus.{Bus}
use Rattle.two_wire.specs.declared.Bus.TheVariants.{Ipmb, Smbus}
use Rattle.text_lines.specs.declared.event.Event.{Event}
use Rattle.text_lines.specs.declared.event.Event.TheVariants as event
use Rattle.text_lines.specs.EventLine.{call_name, event_name}
use Rattle.bmc_core.specs.declared.out.Disposition.{Disposition}
use Rattle.bmc_core.specs.declared.out.Disposition.TheVariants as done
use Rattle.model_undo.specs.PhaseNames.{phase_name}
use Rattle.app_play.specs.declared.cells.Side.{Side}
use Rattle.app_play.specs.declared.cells.Side.TheVariants.{Manager, Controller}
use Rattle.lab_run.specs.declared.note.Delivery.{Delivery}
use Rattle.lab_run.specs.declared.note.Note.{Note}
use Rattle.app_play.specs.Columns.{at_most, in_column}
use Rattle.app_play.specs.Arrivals.{came_at, lost_from}

-- ---- the manager's column

-- the call, where the manager is called
abbrev pub call_cell : Event → List ℕ
call_cell (event.Calls call) = call_name call
call_cell _ = []

-- ---- the bus's columns

-- which way a frame goes: to the right is the controller, to the left the manager; a double line is SMBus
abbrev pub arrow : Side → Bus → List ℕ
arrow Controller Ipmb = codes "->"
arrow Controller Smbus = codes "=>"
arrow Manager Ipmb = codes "<-"
arrow Manager Smbus = codes "<="

-- a word, where it holds
abbrev pub word_if : Bool → List ℕ → List ℕ
word_if true word = word
word_if false word = []

-- a frame that came to an end: its way, its number, and whether it is late and had come before
abbrev pub came_cell : (to : Side) → ℕ → Option Delivery → (copy : Bool) → List ℕ
came_cell to number None copy = []
came_cell to number (Some came) copy =
    arrow to came.on ++ (decimal number ++ (word_if came.late (codes " late") ++ word_if copy (codes " copy")))

-- what comes, after what came at these events: a frame, and else the event's first word in a schedule
abbrev pub comes_cell : List Note → Option Delivery → Event → List ℕ
comes_cell earlier came (event.Calls call) = []
comes_cell earlier came (event.ToBmc number) = came_cell Controller number came (came_at earlier number)
comes_cell earlier came (event.ToMgr number) = came_cell Manager number came (came_at earlier number)
comes_cell earlier came (event.OtherIpmb request) = codes "->other"
comes_cell earlier came (event.OtherSmbus message) = codes "=>other"
comes_cell earlier came other = event_name other

-- the frames behind the first of so many
abbrev pub more_text : ℕ → List ℕ
more_text zero = []
more_text (suc more) = codes "+" ++ decimal (suc more)

-- how many frames are lost, of the first and so many more
abbrev pub lost_text : (more lost : ℕ) → List ℕ
lost_text more zero = []
lost_text zero (suc lost) = codes " lost"
lost_text (suc more) (suc lost) = codes " " ++ (decimal (suc lost) ++ codes " lost")

-- the frames of an event: their way, the first one's number, how many more, and how many of them are lost
abbrev pub sent_cell : (to : Side) → Option Bus → (first count lost : ℕ) → List ℕ
sent_cell to (Some on) first (suc more) lost = arrow to on ++ (decimal first ++ (more_text more ++ lost_text more lost))
sent_cell to _ first count lost = []

-- how many frames were sent at it
abbrev pub count_of : Note → ℕ
count_of note = note.after - note.before

-- how many of them come at none of the events
abbrev pub lost_of : List Note → Note → ℕ
lost_of notes note = lost_from notes note.before (count_of note)

-- what is sent: what the controller sends to others comes to neither end
abbrev pub sends_cell : List Note → Note → Event → List ℕ
sends_cell notes note (event.Calls call) = sent_cell Controller note.sends note.before (count_of note) (lost_of notes note)
sends_cell notes note (event.ToMgr number) = sent_cell Controller note.sends note.before (count_of note) (lost_of notes note)
sends_cell notes note (event.ToBmc number) = sent_cell Manager note.sends note.before (count_of note) (lost_of notes note)
sends_cell notes note _ = sent_cell Manager note.sends note.before (count_of note) 0

-- ---- the controller's column

-- what the controller did: it put the request to the board and answered, answered from what was kept, was busy, waits for more packets,
-- answered a control message, or ignored what came
abbrev pub done_word : Disposition → List ℕ
done_word done.Answered = codes "answers"
done_word done.Repeated = codes "kept"
done_word done.Busy = codes "busy"
done_word done.Waiting = codes "waits"
done_word done.Control = codes "control"
done_word (done.Ignored why) = codes "ignored"

abbrev pub done_cell : Option Disposition → List ℕ
done_cell None = []
done_cell (Some what) = done_word what

-- ---- the lines

-- what the columns are
abbrev pub head_line : List ℕ
head_line = codes "event mgr  |comes             sends            |bmc     phase"

-- The line of the event of this place, counted from 0: its place from 1, the call, what comes, what is sent, what the controller did,
-- and the manager's phase then.
abbrev pub event_line : List Note → ℕ → Note → List ℕ
event_line notes place note =
    in_column 6 (decimal (place + 1))
    ++ (in_column 5 (call_cell note.event.now)
    ++ (codes "|"
    ++ (in_column 18 (comes_cell (take place notes) note.came note.event.now)
    ++ (in_column 17 (sends_cell notes note note.event.now)
    ++ (codes "|"
    ++ (in_column 8 (done_cell note.done)
    ++ at_most 24 (phase_name note.phase)))))))

-- the lines: a line an event
abbrev pub chart_lines : List Note → List (List ℕ)
chart_lines notes = head_line ∷ map (λ p. event_line notes p.0 p.1) (enumerate_from 0 notes)

-- the chart
abbrev pub chart_of : List Note → List ℕ
chart_of notes = flat_map ended (chart_lines notes)
