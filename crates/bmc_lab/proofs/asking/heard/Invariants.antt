use Rattle.std.proofs.Common.{◌≡◌, take}
use Rattle.bmc_board.specs.State.{opened, state_of}
use Rattle.bmc_core.specs.Outs.{waiting}
use Rattle.bmc_lab.specs.Heard.{HearsInTurn}
use Rattle.bmc_lab.proofs.asking.heard.Given as goal

-- the frames before were heard in their turns
abbrev pub invariant-loop-frame : goal.invariant-loop-frame
invariant-loop-frame l =
    HearsInTurn l.fn.file waiting l.initial.port (opened l.fn.file) (take l.frame-index l.frames) l.out l.port (state_of l.board) × (l.board.setup ≡ l.fn.file)
