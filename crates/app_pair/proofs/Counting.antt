-- What is counted of a board that was served beside a manager.
use Rattle.std.specs.Prelude.{IfSome}
use Rattle.std.specs.List.{flat_map}
use Rattle.std.proofs.Common.{◌≡◌, ◌∙◌, ap, subst, ℕ, Bool, List, Option}
use Rattle.cfg_records.specs.declared.board_file.BoardFile.{BoardFile}
use Rattle.cfg_records.specs.Records.{Pair}
use Rattle.cfg_records.specs.Boards.{pairs_of}
use Rattle.bmc_board.specs.State.{State, opened}
use Rattle.app_serve.specs.declared.board.ClosedBoard.{ClosedBoard}
use Rattle.app_serve.specs.Served.{IsServedBoard, most_events}
use Rattle.text_lines.specs.Cuts.{ended}
use Rattle.app_pair.specs.Paired.{CountsChanged, changed_on, listed_on}

-- what differs from the records of a board that begins as the file has it differs from the file's, and the list says which
pub counts_changed : (asked : Bool) (file setup : BoardFile) (opening : State) (start : List Pair) (served : Option ClosedBoard) (changed : Option ℕ) (list : List ℕ) → setup ≡ file → opening ≡ opened file
    → start ≡ pairs_of file → IfSome served (IsServedBoard setup opening most_events) → changed ≡ changed_on start served → list ≡ flat_map ended (listed_on asked file served)
    → CountsChanged asked file changed list
counts_changed asked file setup opening start served changed list is begins starts leads counted lists = record {
  served = served;
  leads = subst (λ (o : State). IfSome served (IsServedBoard file o most_events)) begins
      (subst (λ (f : BoardFile). IfSome served (IsServedBoard f opening most_events)) is leads);
  counted = counted ∙ ap (λ (pairs : List Pair). changed_on pairs served) starts;
  lists = lists;
}
