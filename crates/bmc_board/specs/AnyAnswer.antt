-- What holds of every answer.
use Rattle.std.specs.Prelude.{◌≢◌, ◌≤◌, ℕ, length}
use Rattle.two_wire.specs.Codes.{success, node_busy, pldm_not_ready}
use Rattle.record_base.specs.Meaning.{IsRefusal, room_for}
use Rattle.record_base.specs.declared.key.Key.{Key}
use Rattle.record_base.specs.declared.message.Asked.{Asked}
use Rattle.record_base.specs.declared.message.Answered.{Answered}
use Rattle.cfg_records.specs.declared.board_file.BoardFile.{BoardFile}
use Rattle.record_kinds.specs.Sound.{AreSoundRecords}
use Rattle.bmc_board.specs.Request.{asked_by}
use Rattle.bmc_board.specs.State.{State}
use Rattle.bmc_board.specs.Leaves.{RefusalLeaves}
use Rattle.bmc_board.specs.Replies.{unknown_code}
use Rattle.bmc_board.specs.Answer.{answer_of}
use Rattle.bmc_board.specs.Row.{IsAnswerGiven, Row}

-- each request has an answer: the function's
abbrev pub HasAnswer : Type 0
HasAnswer = (setup : BoardFile) (before : State) (asked : Asked) → Row setup before asked (answer_of setup before asked).0 (answer_of setup before asked).1

-- and no other
abbrev pub HasOneAnswer : Type 0
HasOneAnswer = (setup : BoardFile) (before : State) (asked : Asked) (answered : Answered) (after : State) → Row setup before asked answered after → IsAnswerGiven answered after (answer_of setup before asked)

-- the code is neither node busy nor not ready, which are a busy controller's
pub record IsCode (code : ℕ) : Type 0 where
  pub not_busy : code ≢ node_busy
  pub is_ready : code ≢ pldm_not_ready

-- so is the code of each answer
abbrev pub NeverBusy : Type 0
NeverBusy = (setup : BoardFile) (before : State) (asked : Asked) → IsCode (answer_of setup before asked).0.code

-- the code of a record that isn't there is one that refuses
abbrev pub UnknownIsRefused : Type 0
UnknownIsRefused = (setup : BoardFile) (key : Key) → IsRefusal (unknown_code setup key)

-- a refused request leaves what was there, but for the log's note of an overflow
abbrev pub RefusedLeaves : Type 0
RefusedLeaves = (setup : BoardFile) (before : State) (asked : Asked) → (answer_of setup before asked).0.code ≢ success
    → RefusalLeaves (asked_by asked) (answer_of setup before asked).0.code before (answer_of setup before asked).1

-- every record keeps a value that its limits allow
abbrev pub StaysSound : Type 0
StaysSound = (setup : BoardFile) (before : State) (asked : Asked) → AreSoundRecords setup before.records → AreSoundRecords setup (answer_of setup before asked).1.records

-- the data of each answer fits the frame or message that carries it
abbrev pub AnswersFit : Type 0
AnswersFit = (setup : BoardFile) (before : State) (asked : Asked) → AreSoundRecords setup before.records → length (answer_of setup before asked).0.body ≤ room_for asked
