use Rattle.std.proofs.Common.{◌≡◌, ℕ, List, [], length}
use Rattle.bmc_board.specs.State.{state_of}
use Rattle.record_kinds.specs.Series.{sends}
use Rattle.bmc_lab.specs.Answers.{AnswersSome, IsNextRequest}
use Rattle.bmc_lab.proofs.setting.set.Given as goal

-- the board answered so many requests of the Set, and the next one is open
abbrev pub invariant-loop-place : goal.invariant-loop-place
invariant-loop-place l =
    ((bodies : List (List ℕ)) × (length bodies ≡ l.place)
    × AnswersSome l.fn.board.setup (sends l.op) [] bodies (state_of l.fn.board) (state_of l.board) × IsNextRequest (sends l.op) bodies l.asked)
    × (l.board.setup ≡ l.fn.board.setup)
