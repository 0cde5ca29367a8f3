-- What a board was served, and what is said of it.
use Rattle.std.specs.Prelude.{◌≡◌, ◌≤◌, ℕ, Bool, true, false, List, [], ◌∷◌, ◌++◌, Option, None, Some, Vec, option_map, length, codes}
use Rattle.std.specs.Fmt.{decimal}
use Rattle.std.specs.List.{flat_map, sum_by}
use Rattle.text_lines.specs.Cuts.{ended}
use Rattle.cfg_records.specs.declared.board_file.BoardFile.{BoardFile}
use Rattle.cfg_records.specs.Boards.{pairs_of}
use Rattle.bmc_board.specs.State.{State, state_of, opened}
use Rattle.bmc_shared.specs.declared.event.Event.{Event}
use Rattle.bmc_shared.specs.Replay.{IsReplay, calls_of}
use Rattle.bmc_ports.specs.declared.timetable.Timed.{Timed}
use Rattle.bmc_ports.specs.declared.agenda.Agenda.{Agenda}
use Rattle.bmc_board.specs.declared.bench.Bench.TheVariants.{Tick}
use Rattle.bmc_ports.specs.Timing.{GainsCalls}
use Rattle.cfg_records.specs.Changed.{changed_in}
use Rattle.report_words.specs.Changes.{IsListOf, listed}
use Rattle.text_lines.specs.RecordsLine.{records_line}
use Rattle.app_serve.specs.declared.board.ClosedBoard.{ClosedBoard}
use Rattle.app_serve.specs.declared.tally.ListedBoard.{ListedBoard}
use Rattle.app_serve.specs.declared.run.ServeWords.{ServeWords}
use Rattle.app_serve.specs.Turns.{PortsRun}

-- the most events of a history
abbrev pub most_events : ℕ
most_events = 4096

-- a board begins as the file has it, beside its records, and with a list of those that change, where that is asked for
pub record IsListedBoard (asked : Bool) (file : BoardFile) (begun : ListedBoard) : Type 0 where
  pub start : begun.first.start.items ≡ pairs_of file
  pub list : IsListOf asked file begun.first.list
  pub setup : begun.board.setup ≡ file
  pub opens : state_of begun.board ≡ opened file

-- A board that was served has a history, with no more events than there was room for. It leads from the state that the board opened in
-- to the board as it is.
pub record IsServedBoard (setup : BoardFile) (opening : State) (room : ℕ) (served : ClosedBoard) : Type 0 where
  pub few : length served.history ≤ room
  pub replays : IsReplay setup opening served.history (state_of served.board)

-- Histories lead, one after another, from the first state to the last, and none has more events than there is room for.
abbrev pub HistoriesLead : BoardFile → (first : State) → List (List Event) → (last : State) → Type 0
HistoriesLead setup first [] last = first ≡ last
HistoriesLead setup first (history ∷ later) last =
    (mid : State) × (length history ≤ most_events) × IsReplay setup first history mid × HistoriesLead setup mid later last

-- there is one history, unless there may be several
abbrev pub IsCount : (several : Bool) → ℕ → Type 0
IsCount true count = Unit {0}
IsCount false count = count ≡ 1

-- the list that there is, of what is to happen on the board
abbrev pub list_in : {A : Type 0} → Option (Vec Timed A) → Option (List Timed)
list_in given = option_map (λ list. list.items) given

-- all that is to happen
abbrev pub all_of : Option (List Timed) → List Timed
all_of None = []
all_of (Some list) = list

-- a clock's list: a tenth of a second passes
abbrev pub clock_list : List Timed
clock_list = record { at_ms = 100; event = Tick } ∷ []

-- the list that is gone through: a clock's, where one is to run, or the one that there is
abbrev pub list_for : (clock : Bool) → Option (List Timed) → List Timed
list_for true given = clock_list
list_for false given = all_of given

-- it is gone through again and again: a clock's is, and the one that there is, where that is asked for
abbrev pub is_repeated : (clock repeated : Bool) → Bool
is_repeated true repeated = true
is_repeated false repeated = repeated

-- the agenda is what the words ask for with this list, and nothing of it has happened
pub record IsAsked (words : ServeWords) (given : Option (List Timed)) (agenda : Agenda) : Type 0 where
  pub list : agenda.table.list.now ≡ list_for words.clock given
  pub next : agenda.table.next ≡ 0
  pub repeats : agenda.repeats ≡ is_repeated words.clock words.repeats

-- What the histories have of the scanner's seat is the first events of what the words ask for with this list, in their order, once or again and again.
abbrev pub PlaysAgenda : ServeWords → Option (List Timed) → List (List Event) → Type 0
PlaysAgenda words given histories =
    (place : ℕ) × GainsCalls (is_repeated words.clock words.repeats) (list_for words.clock given) 0 place [] (flat_map (calls_of 2) histories)

-- Some histories of the file's board, one unless the words ask for periods, play what these ask for with the list, and have the calls of ports that
-- were served as they ask. They have so many events in all, and lead to a state in which so many of the file's records have another value; the lines
-- say which, where the words ask for that.
pub record TalliesOf (words : ServeWords) (list : Option (List Timed)) (file : BoardFile) (events changed : ℕ) (changes : List ℕ) : Type 0 where
  pub histories : List (List Event)
  pub after : State
  pub plays : PlaysAgenda words list histories
  pub ports : PortsRun words histories most_events events
  pub count : IsCount words.periods (length histories)
  pub lead : HistoriesLead file (opened file) histories after
  pub counted : events ≡ sum_by length histories
  pub differ : changed ≡ changed_in after.records (pairs_of file)
  pub told : changes ≡ flat_map ended (listed words.list file after.records)

-- how many events there were
abbrev pub served_line : ℕ → List ℕ
served_line events = codes "served " ++ decimal events

-- the lines: how many events there were, and whether records are changed
abbrev pub text_of : (events changed : ℕ) → List ℕ
text_of events changed = flat_map ended (served_line events ∷ records_line changed ∷ [])
