-- What a run says of its files, and the status that it ends with as the process gives it.
use Rattle.std.specs.Prelude.{ℕ, List, [], ◌∷◌, ◌++◌, codes}
use Rattle.text_board.specs.declared.fault.FileFault.{FileFault}
use Rattle.text_board.specs.Names.{fault_name}
use Rattle.app_base.specs.declared.status.Status.{Status}
use Rattle.app_base.specs.declared.status.Status.TheVariants.{Success, NotSent, RefusedWords, RefusedFile, Stopped, Memory, Output, Halted, Unsettled, UndoRefused, RecordsChanged}

-- the status as the process gives it
abbrev pub byte_of : Status → ℕ
byte_of Success = 0
byte_of NotSent = 1
byte_of RefusedWords = 2
byte_of RefusedFile = 3
byte_of Stopped = 4
byte_of Memory = 5
byte_of Output = 6
byte_of Halted = 10
byte_of Unsettled = 11
byte_of UndoRefused = 12
byte_of RecordsChanged = 13

-- what is said of a file that can't be read, by the word that names it
abbrev pub file_line : List ℕ → List ℕ
file_line word = codes "file " ++ word ++ 10 ∷ []

-- what is said of a board file that is refused
abbrev pub board_line : FileFault → List ℕ
board_line why = codes "board " ++ fault_name why ++ 10 ∷ []
