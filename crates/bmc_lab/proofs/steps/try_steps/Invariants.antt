use Rattle.std.proofs.Common.{◌≡◌, length, take}
use Rattle.bmc_board.specs.State.{opened, state_of}
use Rattle.bmc_lab.specs.Tries.{MeetInTurn}
use Rattle.bmc_lab.proofs.steps.try_steps.Given as goal

-- the steps before met these in their turns, each of them one
abbrev pub invariant-loop-place : goal.invariant-loop-place
invariant-loop-place l =
    MeetInTurn l.fn.file (take l.place l.steps) (opened l.fn.file) l.findings.items (state_of l.board) × (l.board.setup ≡ l.fn.file) × (length l.findings.items ≡ l.place)
