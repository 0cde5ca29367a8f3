-- What holds of every live command.
use Rattle.std.specs.Prelude.{◌≡◌, ◌≢◌, ◌≤◌, ℕ, List, length, Ok}
use Rattle.two_wire.specs.Codes.{success}
use Rattle.cfg_records.specs.Records.{Records}
use Rattle.record_base.specs.declared.message.Answered.{Answered}
use Rattle.cfg_records.specs.declared.board_file.BoardFile.{BoardFile}
use Rattle.bmc_board.specs.declared.activity.Activity.{Activity}
use Rattle.bmc_board.specs.declared.live.LiveCommand.{LiveCommand}
use Rattle.bmc_board.specs.Request.{Live}
use Rattle.bmc_board.specs.State.{State, state}
use Rattle.bmc_board.specs.Leaves.{RefusalLeaves}
use Rattle.bmc_board.specs.Answer.{serve}
use Rattle.bmc_board.specs.AnyAnswer.{IsCode}
use Rattle.bmc_board.specs.Live.{live_answer, longest_live}

-- its code isn't a busy controller's, its data is short, and a refusal leaves what a refusal of the command may leave
pub record IsLiveAnswer (command : LiveCommand) (body : List ℕ) (records : Records) (before : Activity) (given : Answered × Activity) : Type 0 where
  pub has_code : IsCode given.0.code
  pub short : length given.0.body ≤ longest_live command
  pub left : given.0.code ≢ success → RefusalLeaves (Ok (Live command body)) given.0.code (state records before) (state records given.1)

-- so is each live command
abbrev pub AreLive : Type 0
AreLive = (setup : BoardFile) (records : Records) (before : Activity) (command : LiveCommand) (body : List ℕ) → IsLiveAnswer command body records before (live_answer setup records before command body)

-- it leaves the records
abbrev pub LeaveRecords : Type 0
LeaveRecords = (setup : BoardFile) (before : State) (command : LiveCommand) (body : List ℕ) → (serve setup before (Live command body)).1.records ≡ before.records
