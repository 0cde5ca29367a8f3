-- The list of a board's changed records, where it is asked for.
use Rattle.std.proofs.Common.{◌≡◌, Bool, true, false, Some}
use Rattle.std.proofs.lemmas.Bool.{false≢true}
use Rattle.cfg_records.specs.declared.board_file.BoardFile.{BoardFile}
use Rattle.report_words.specs.declared.change_list.ChangeList.{ChangeList}
use Rattle.report_words.specs.declared.first_records.FirstRecords.{FirstRecords}
use Rattle.report_words.specs.Changes.{AreFirstOf, IsListOf}

-- a list that is asked for is that of the board
pub list_of : (asked : Bool) (file : BoardFile) (first : FirstRecords) (list : ChangeList) → asked ≡ true → AreFirstOf file first → list.first ≡ Some first → IsListOf asked file list
list_of true file first list asks are has = (first, has, are)
list_of false file first list asks are has = absurd (false≢true asks)
