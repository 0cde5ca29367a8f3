-- Each answer of the board may happen on a bus.
use Rattle.std.specs.Prelude.{◌≡◌, false, Some, None}
use Rattle.two_wire.specs.declared.Bus.{Bus}
use Rattle.cfg_records.specs.Records.{Records}
use Rattle.record_base.specs.declared.message.Asked.{Asked}
use Rattle.record_base.specs.declared.message.Answered.{Answered as BoardAnswer}
use Rattle.cfg_records.specs.declared.board_file.BoardFile.{BoardFile}
use Rattle.record_kinds.specs.Sound.{AreSoundRecords}
use Rattle.bmc_board.specs.declared.activity.Activity.{Activity}
use Rattle.bmc_board.specs.State.{State, on_bench, opened}
use Rattle.bmc_board.specs.Table.{is_changing}
use Rattle.bmc_board.specs.Row.{Row}
use Rattle.model_undo.specs.Family.{AllValid, IsReady}
use Rattle.model_bus.specs.Addresses.{Addresses}
use Rattle.model_undo.specs.Line.{Exchange, Line}
use Rattle.model_undo.specs.World.{World, OnBus, OnBench, IsHonestOn, MayHappen}
use Rattle.model_lab.specs.Family.{family, answer}
use Rattle.bmc_core.specs.Wires.{asked_from, reply_to}
use Rattle.model_lab.specs.ManagerWires.{wires}

-- the records that a board's file gives are valid, and so are all that its limits allow
pub record StartsValid (setup : BoardFile) (at : Bus → Addresses) : Type 0 where
  pub opened_valid : AllValid (family setup at) (opened setup).records
  pub sound_valid : (records : Records) → AreSoundRecords setup records → AllValid (family setup at) records

-- a board that has heard nothing has nothing staged: it is ready for the first request of each series
abbrev pub StartsReady : BoardFile → (Bus → Addresses) → Type 0
StartsReady setup at = IsReady (family setup at) (opened setup)

-- what isn't configuration may become anything on the bench, but for what is staged: the board has the same records, and is ready for the same
abbrev pub BenchMay : BoardFile → (Bus → Addresses) → (Bus → Line) → Type 0
BenchMay setup at lines = (world : World (family setup at) lines) (activity : Activity) → MayHappen (family setup at) lines (wires at) world (OnBench (on_bench world.board activity))

-- what happens on a bus has another's request carried out, or none
abbrev pub IsOthers : (setup : BoardFile) (at : Bus → Addresses) (lines : Bus → Line) (bus : Bus) → (lines bus).Event → World (family setup at) lines → Type 0
IsOthers setup at lines bus event world = IsHonestOn (family setup at) lines (wires at) bus event world × ((lines bus).is_to_manager event ≡ false) × ((lines bus).carries (world.on bus) event ≡ None)

-- another's request may be answered by the board at any moment, where its command sets no configuration
abbrev pub QuietMay : BoardFile → (Bus → Addresses) → (Bus → Line) → Type 0
QuietMay setup at lines = (bus : Bus) (event : (lines bus).Event) (world : World (family setup at) lines) (asked : Asked) (board_answer : BoardAnswer) (after : State)
    → IsOthers setup at lines bus event world → is_changing asked ≡ false → Row setup world.board asked board_answer after → MayHappen (family setup at) lines (wires at) world (OnBus bus event after)

-- what happens on a bus has the manager's request carried out, with this reply
abbrev pub IsManagers : (setup : BoardFile) (at : Bus → Addresses) (lines : Bus → Line) (bus : Bus) → (lines bus).Event → World (family setup at) lines → Exchange → Type 0
IsManagers setup at lines bus event world exchange = IsHonestOn (family setup at) lines (wires at) bus event world ×
    ((lines bus).is_to_manager event ≡ false) × ((lines bus).carries (world.on bus) event ≡ Some exchange)

-- the manager's request may be answered as the board answers it
abbrev pub AnswersMay : BoardFile → (Bus → Addresses) → (Bus → Line) → Type 0
AnswersMay setup at lines = (bus : Bus) (event : (lines bus).Event) (world : World (family setup at) lines) (exchange : Exchange) → IsManagers setup at lines bus event world exchange
    → let given = answer setup world.board (asked_from at bus exchange.bytes) in
    exchange.reply ≡ reply_to bus exchange.bytes given.0 → MayHappen (family setup at) lines (wires at) world (OnBus bus event given.1)
