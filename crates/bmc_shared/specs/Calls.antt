-- What a call of a board with a history gives, and what it leaves.
use Rattle.std.specs.Prelude.{◌≡◌, ◌≤◌, ◌++◌, ◌∷◌, [], ℕ, List, length, Result}
use Rattle.record_base.specs.declared.message.Asked.{Asked}
use Rattle.record_base.specs.declared.message.Answered.{Answered}
use Rattle.record_base.specs.Meaning.{room_for}
use Rattle.cfg_records.specs.declared.board_file.BoardFile.{BoardFile}
use Rattle.bmc_board.specs.declared.bench.Bench.{Bench}
use Rattle.bmc_board.specs.declared.bench.NoSensor.{NoSensor}
use Rattle.bmc_board.specs.declared.board.Board.{Board}
use Rattle.bmc_board.specs.State.{state_of}
use Rattle.bmc_board.specs.Gives.{GivesReply}
use Rattle.bmc_board.specs.Answer.{answer_of}
use Rattle.bmc_board.specs.Row.{Row, IsAnswerGiven}
use Rattle.bmc_board.specs.Sensing.{bench_of}
use Rattle.bmc_shared.specs.declared.event.Call.{Call}
use Rattle.bmc_shared.specs.declared.event.Call.TheVariants.{Exchanged}
use Rattle.bmc_shared.specs.declared.event.Event.{Event}
use Rattle.bmc_shared.specs.Follows.{BenchStep}

-- the board answers the request so, and goes from one state to the other, by the command relation
abbrev pub IsRow : {S : Type 0} {g h : _} → BoardFile → Board S g h → Board S g h
    → Asked → Answered → Type 0
IsRow setup before after asked answered =
    Row setup (state_of before) asked answered (state_of after)

-- the board's one answer to the request is this, and it leaves the board so
abbrev pub IsReply : {S : Type 0} {g h : _} → BoardFile → Board S g h → Board S g h
    → Asked → Answered → Type 0
IsReply setup before after asked answered =
    IsAnswerGiven answered (state_of after) (answer_of setup (state_of before) asked)

-- the board's one answer to what happened is this, and it leaves the board so
abbrev pub IsHappening : {S : Type 0} {g h : _} → BoardFile → Board S g h
    → Board S g h → Bench → Result (Unit {0}) NoSensor → Type 0
IsHappening setup before after bench answered =
    BenchStep setup (state_of before) answered (state_of after)
    (bench_of setup (state_of before) bench)

-- the history has one event more, its last: the seat's call
abbrev pub GainsEvent : List Event → List Event → ℕ → Call → Type 0
GainsEvent before after seat call = after ≡ before ++ record { seat = seat; call = call } ∷ []

-- the seat's list has one call more, its last
abbrev pub GainsCall : List Call → List Call → Call → Type 0
GainsCall before after call = after ≡ before ++ call ∷ []

-- The board answered the request so, behind the bytes that were there, and the history gained that as the seat's call.
pub record ExchangesHere {S : Type 0} {g h : _} (setup : BoardFile) (before after : Board S g h) (events later : List Event) (seat : ℕ)
    (asked : Asked) (given : Result (Unit {0}) ℕ) (old new : List ℕ) : Type 0 where
  pub answered : Answered
  pub gives : GivesReply given old new answered
  pub fits : length answered.body ≤ room_for asked
  pub row : IsRow setup before after asked answered
  pub reply : IsReply setup before after asked answered
  pub gained : GainsEvent events later seat (Exchanged asked answered)

-- the answer is given behind the bytes that were there, and the seat's list gained the request with it
pub record KeepsHere (calls kept : List Call) (asked : Asked) (given : Result (Unit {0}) ℕ) (old new : List ℕ) : Type 0 where
  pub answered : Answered
  pub gives : GivesReply given old new answered
  pub fits : length answered.body ≤ room_for asked
  pub gained : GainsCall calls kept (Exchanged asked answered)
