-- What a board gives to what is asked of it, and that it was served.
use Rattle.std.specs.Prelude.{◌≡◌, ◌≢◌, ◌+◌, ◌≤◌, ℕ, List, length, Result, IfOk}
use Rattle.two_wire.specs.Codes.{success}
use Rattle.record_base.specs.declared.sensor.Sensor.{Sensor}
use Rattle.bios_attr.specs.declared.bios_table.BiosTable.{BiosTable}
use Rattle.record_base.specs.declared.message.Asked.{Asked}
use Rattle.record_base.specs.declared.message.Answered.{Answered}
use Rattle.bmc_board.specs.declared.activity.Activity.{Activity}
use Rattle.bmc_board.specs.declared.board.Board.{Board}
use Rattle.bmc_board.specs.declared.live.LiveCommand.{LiveCommand}
use Rattle.bmc_board.specs.Request.{Request, asked_by}
use Rattle.bmc_board.specs.State.{records_in, state_of}
use Rattle.bmc_board.specs.Room.{longest_reply}
pub use Rattle.bmc_board.specs.Gives.{AnswersCode}
use Rattle.bmc_board.specs.Gives.{AppendsReply}
use Rattle.bmc_board.specs.Live.{live_answer}
use Rattle.bmc_board.specs.Answer.{AnswerAndState, serve, reply, answer_of}
use Rattle.bmc_board.specs.BiosTables.{values_in, table_bytes, asked_part, table_answer}
use Rattle.bmc_board.specs.Leaves.{RefusalLeaves}
use Rattle.bmc_board.specs.Sensing.{reading_answer, after_reading}

-- what a board gives to a request: the answer, and the state after it
abbrev pub given_by : {S : Type 0} {g h : _} → Board S g h → Asked → AnswerAndState
given_by board asked = answer_of board.setup (state_of board) asked

-- and to what was read in one, or to the code that refused it
abbrev pub reply_by : {S : Type 0} {g h : _} → Board S g h → Result Request ℕ → AnswerAndState
reply_by board asked = reply board.setup (state_of board) asked

abbrev pub serve_by : {S : Type 0} {g h : _} → Board S g h → Request → AnswerAndState
serve_by board asked = serve board.setup (state_of board) asked

-- what it gives to a live command with this data, and what it leaves of what isn't configuration
abbrev pub live_by : {S : Type 0} {g h : _} → Board S g h → LiveCommand → List ℕ → Answered × Activity
live_by board command body = live_answer board.setup (records_in board) board.activity command body

-- the data of the reply to what is asked fit behind these bytes
abbrev pub ReplyFits : Result Request ℕ → List ℕ → ℕ → Type 0
ReplyFits asked before capacity = IfOk asked (λ request. length before + longest_reply request ≤ capacity)

-- The board served what was asked: its answer is given behind the bytes of this buffer, and the board has the state after it. Its setup
-- stays.
pub record ServesRequest {S A B : Type 0} {g h : _} (bytes : B → List ℕ) (old new : Board S g h) (asked : Result Request ℕ) (result : Result A ℕ) (before after : B) : Type 0 where
  pub answer : AppendsReply bytes result before after (reply_by old asked).0
  pub left : state_of new ≡ (reply_by old asked).1
  pub setup : new.setup ≡ old.setup

-- the same of what appends nothing, whatever bytes were there
abbrev pub ServesSilently : {S A : Type 0} {g h : _} → Board S g h → Board S g h → Result Request ℕ → Result A ℕ → Type 0
ServesSilently old new asked result = (bytes : List ℕ) → ServesRequest (λ (same : List ℕ). same) old new asked result bytes bytes

-- a refusal leaves the board as `RefusalLeaves` says
abbrev pub IsRefusal : {S : Type 0} {g h : _} → Board S g h → Asked → Answered → Board S g h → Type 0
IsRefusal old asked answer new = answer.code ≢ success → RefusalLeaves (asked_by asked) answer.code (state_of old) (state_of new)

-- ---- parts of what a board gives

-- what Get Sensor Reading replies of the sensor of this number
abbrev pub reading_by : {S : Type 0} {g h : _} → Board S g h → ℕ → Answered
reading_by board number = reading_answer board.setup (records_in board) board.activity number

-- what GetBIOSTable replies to this data
abbrev pub table_by : {S : Type 0} {g h : _} → Board S g h → List ℕ → Answered
table_by board body = table_answer board.setup (records_in board) body

-- the part of this table that the data ask for
abbrev pub part_by : {S : Type 0} {g h : _} → Board S g h → BiosTable → List ℕ → Answered
part_by board table body = asked_part body (table_bytes board.setup.attributes.items (values_in (records_in board)) table)

-- what isn't configuration, once the sensor gave a reading
abbrev pub after_read : {S : Type 0} {g h : _} → Board S g h → Sensor → ℕ → Activity
after_read board sensor reading = after_reading (records_in board) sensor reading board.activity
