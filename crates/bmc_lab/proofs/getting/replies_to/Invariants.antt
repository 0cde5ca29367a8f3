use Rattle.std.proofs.Common.{◌≡◌, [], length, map}
use Rattle.bmc_board.specs.State.{state_of}
use Rattle.record_kinds.specs.Series.{Reads}
use Rattle.bmc_lab.specs.Answers.{AnswersSome, IsNextRequest, body_of}
use Rattle.bmc_lab.proofs.getting.replies_to.Given as goal

-- the board answered so many requests of the Get, and the next one is open
abbrev pub invariant-loop-before : goal.invariant-loop-before
invariant-loop-before l =
    (length l.replies.items ≡ l.before)
    × AnswersSome l.fn.board.setup (Reads l.key) [] (map body_of l.replies.items) (state_of l.fn.board) (state_of l.board)
    × IsNextRequest (Reads l.key) (map body_of l.replies.items) l.asked
    × (l.board.setup ≡ l.fn.board.setup)
