-- What carries a request out.
use Rattle.std.specs.Prelude.{◌≡◌, ◌≤◌, ℕ, List, length, Result, Ok, Err}
use Rattle.two_wire.specs.Codes.{success}
use Rattle.record_base.specs.declared.message.Asked.{Asked}
use Rattle.record_base.specs.declared.message.Answered.{Answered}
use Rattle.record_base.specs.Meaning.{room_for}
use Rattle.bmc_board.specs.declared.board.Board.{Board}
use Rattle.bmc_board.specs.Gives.{GivesReply}
use Rattle.bmc_board.specs.Row.{IsAnswerGiven}
use Rattle.bmc_board.specs.Serves.{given_by}
use Rattle.bmc_board.specs.State.{state_of}

-- the completion code of what was given
abbrev pub code_given : Result (Unit {0}) ℕ → ℕ
code_given (Ok done) = success
code_given (Err code) = code

-- The request was carried out: its answer is given behind the bytes that were there, it fits a reply, and what carried it out was changed so
-- by it.
pub record IsCarriedRequest {K : Type 0} (carries : Asked → Answered → K → Type 0) (asked : Asked) (given : Result (Unit {0}) ℕ) (old new : List ℕ) (after : K) : Type 0 where
  pub answered : Answered
  pub gives : GivesReply given old new answered
  pub fits : length answered.body ≤ room_for asked
  pub carried : carries asked answered after

-- the board's one answer to the request is this, and it leaves the board so
pub record IsOneAnswer {S : Type 0} {g h : _} (before : Board S g h) (asked : Asked) (answered : Answered) (after : Board S g h) : Type 0 where
  pub answer : IsAnswerGiven answered (state_of after) (given_by before asked)
  pub setup : after.setup ≡ before.setup
