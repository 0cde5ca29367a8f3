-- What a board and a manager came to that ran side by side, and what is said of it.
use Rattle.std.specs.Prelude.{◌≡◌, ℕ, Bool, true, List, [], ◌++◌, Option, Some, None, option_map, IfSome}
use Rattle.std.specs.List.{flat_map}
use Rattle.text_lines.specs.Cuts.{ended}
use Rattle.cfg_records.specs.declared.board_file.BoardFile.{BoardFile}
use Rattle.cfg_records.specs.Boards.{pairs_of}
use Rattle.cfg_records.specs.Records.{Pair}
use Rattle.cfg_records.specs.Changed.{changed_in}
use Rattle.bmc_board.specs.State.{opened, state_of}
use Rattle.undo_plans.specs.declared.plan.Plan.{Plan}
use Rattle.model_undo.specs.declared.phase.Phase.{Phase}
use Rattle.model_lab.specs.Meaning.{lab_names}
use Rattle.model_undo.specs.declared.call.Call.TheVariants.{Start, Undo}
use Rattle.undo_core.specs.declared.manager.Manager.{Manager}
use Rattle.undo_core.specs.Shown.{Represents}
use Rattle.wire_links.specs.Counted.{none_counted}
use Rattle.bmc_ports.specs.Driving.{Links}
use Rattle.text_lines.specs.RecordsLine.{records_line}
use Rattle.report_words.specs.Changes.{listed}
use Rattle.app_base.specs.declared.status.Status.{Status}
use Rattle.app_base.specs.declared.status.Status.TheVariants.{Success, Stopped}
use Rattle.app_serve.specs.declared.board.ClosedBoard.{ClosedBoard}
use Rattle.app_serve.specs.Served.{IsServedBoard, most_events}
use Rattle.app_run.specs.Driven.{DrivenState, CallRun, opened_with, fresh_links}
use Rattle.app_run.specs.Lines.{phase_line}
use Rattle.app_base.specs.Statuses.{end_status, halts}
use Rattle.app_pair.specs.declared.pairing.PairOptions.{PairOptions}
use Rattle.app_pair.specs.declared.side.Driver.{Driver}

-- the manager shows one of the plan, which it hasn't begun, and its links have counted nothing
pub record IsReady (plan : Plan) (driver : Driver) : Type 0 where
  pub shown : Represents lab_names driver.manager (opened_with plan)
  pub ipmb : driver.ends.ipmb.counts ≡ none_counted
  pub smbus : driver.ends.smbus.counts ≡ none_counted

-- A manager ran the plan, and came to the first phase; then it was to undo, and came to the second. It made at most so many turns for each.
pub record RunsAndUndoes (plan : Plan) (turns : ℕ) (run undone : Phase) : Type 0 where
  pub mid : Manager
  pub between : DrivenState
  pub shown : Represents lab_names mid between
  pub half : Links
  pub runs : CallRun Start turns (opened_with plan) mid run fresh_links half
  pub last : Manager
  pub counts : Links
  pub undoes : CallRun Undo turns between last undone half counts

-- how many of these records the served board has with another value than they began with; nothing is known where the serving came to no end
abbrev pub changed_on : (start : List Pair) → (served : Option ClosedBoard) → Option ℕ
changed_on start served = option_map (λ board. changed_in (state_of board.board).records start) served

-- the lines that list those records, where they are asked for
abbrev pub listed_on : (asked : Bool) → BoardFile → (served : Option ClosedBoard) → List (List ℕ)
listed_on asked file None = []
listed_on asked file (Some served) = listed asked file (state_of served.board).records

-- What became of the file's records: so many differ on the board that was served, to which its one history leads from the file's, and the list says
-- which, where it is asked for; where the serving came to no end, nothing is known.
pub record CountsChanged (asked : Bool) (file : BoardFile) (changed : Option ℕ) (list : List ℕ) : Type 0 where
  pub served : Option ClosedBoard
  pub leads : IfSome served (IsServedBoard file (opened file) most_events)
  pub counted : changed ≡ changed_on (pairs_of file) served
  pub lists : list ≡ flat_map ended (listed_on asked file served)

-- the line of the records, where it is known
abbrev pub last_line : Option ℕ → List ℕ
last_line None = []
last_line (Some changed) = ended (records_line changed)

-- how such a run ends
abbrev pub status_of : Option ℕ → Status
status_of None = Stopped
status_of (Some changed) = Success

-- the same, or strictly by both phases and the records
abbrev pub status_by : (strict : Bool) → (run undone : Phase) → Option ℕ → Status
status_by true run behind (Some changed) = end_status behind (halts run) changed
status_by strict run behind changed = status_of changed

-- the lines: both phases, the records, and the list of those that changed
abbrev pub text_of : (run undone : Phase) → Option ℕ → (list : List ℕ) → List ℕ
text_of run undone changed list = phase_line run ++ phase_line undone ++ last_line changed ++ list

-- the text and the status tell of such a pair
pub record TellsPair (file : BoardFile) (plan : Plan) (options : PairOptions) (text : List ℕ) (status : Status) : Type 0 where
  pub run : Phase
  pub undone : Phase
  pub changed : Option ℕ
  pub list : List ℕ
  pub manager : RunsAndUndoes plan options.turns run undone
  pub board : CountsChanged options.list file changed list
  pub said : text ≡ text_of run undone changed list
  pub ended : status ≡ status_by options.strict run undone changed
