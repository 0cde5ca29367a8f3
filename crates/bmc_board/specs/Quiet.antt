-- Requests whose commands set no configuration leave the records as they are, and what is staged.
use Rattle.std.specs.Prelude.{◌≡◌, false}
use Rattle.record_base.specs.declared.message.Asked.{Asked}
use Rattle.record_base.specs.declared.message.Answered.{Answered}
use Rattle.cfg_records.specs.declared.board_file.BoardFile.{BoardFile}
use Rattle.bmc_board.specs.State.{State}
use Rattle.bmc_board.specs.Table.{is_changing}
use Rattle.bmc_board.specs.Row.{Row}

-- an answered request that isn't of a setting command keeps all records
abbrev pub KeepsRecords : Type 0
KeepsRecords = (setup : BoardFile) (before : State) (asked : Asked) (answered : Answered) (after : State)
    → is_changing asked ≡ false
    → Row setup before asked answered after
    → after.records ≡ before.records

-- and what requesters have staged
abbrev pub KeepsStagings : Type 0
KeepsStagings = (setup : BoardFile) (before : State) (asked : Asked) (answered : Answered) (after : State)
    → is_changing asked ≡ false
    → Row setup before asked answered after
    → after.activity.stagings ≡ before.activity.stagings
