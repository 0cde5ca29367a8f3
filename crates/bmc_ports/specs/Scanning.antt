-- What the scanner has happen on a board.
use Rattle.std.specs.Prelude.{◌≡◌, ◌++◌, ℕ, List, length, take, Result}
use Rattle.std.specs.List.{AllZip}
use Rattle.bmc_board.specs.declared.bench.Bench.{Bench}
use Rattle.bmc_board.specs.declared.bench.NoSensor.{NoSensor}
use Rattle.bmc_shared.specs.declared.event.Call.{Call}
use Rattle.bmc_shared.specs.declared.event.Call.TheVariants.{Benched}
use Rattle.bmc_shared.specs.declared.worker.End.{End}
use Rattle.bmc_shared.specs.declared.worker.End.TheVariants.{Turns, Full}

-- the call has this happen
abbrev pub BenchCall : Bench → Call → Type 0
BenchCall event call = (answered : Result (Unit {0}) NoSensor) × (call ≡ Benched event answered)

-- a scanner that found room to its end had as many happen as it was to make turns, or all
abbrev pub HappenedAll : End → ℕ → List Bench → List Call → Type 0
HappenedAll Turns turns events gained = length gained ≡ length (take turns events)
HappenedAll Full turns events gained = Unit {0}

-- The scanner ended so. Its list gained the first events of its own, in their order.
pub record ScannerTurns (end : End) (turns : ℕ) (events : List Bench) (held kept : List Call) : Type 0 where
  pub gained : List Call
  pub list : kept ≡ held ++ gained
  pub happened : AllZip BenchCall (take (length gained) events) gained
  pub all : HappenedAll end turns events gained
