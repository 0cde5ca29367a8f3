-- Where a drive stops that may be followed by another.
use Rattle.std.specs.Prelude.{◌≡◌, ◌+◌, ◌<◌, ℕ, true, Option, Some, None, Result, Ok, Err}
use Rattle.model_undo.specs.declared.phase.Phase.{Phase}
use Rattle.undo_core.specs.declared.manager.Manager.{Manager}
use Rattle.bmc_ports.specs.declared.observer.KeptBack.{KeptBack}
use Rattle.bmc_ports.specs.Driving.{Links}
use Rattle.app_run.specs.Driven.{DrivenState, StaysUndriven, UpToLast, is_unsettled}

-- A turn left the manager unsettled, and so many are left; or, after at most so many turns, it need not be called again; or frames were kept back.
abbrev pub StopsAfter : (turns : ℕ) → DrivenState → Manager → (left : Result (Option ℕ) KeptBack) → (counted counts : Links) → Type 0
StopsAfter turns before manager (Ok None) counted counts = (phase : Phase) × StaysUndriven turns before manager (Ok phase) counted counts
StopsAfter turns before manager (Ok (Some left)) counted counts =
    (made : ℕ) × (stopped : Phase) × (made + left ≡ turns) × (0 < left) × UpToLast made before manager (Ok stopped) counted counts × (is_unsettled stopped ≡ true)
StopsAfter turns before manager (Err kept) counted counts = StaysUndriven turns before manager (Err kept) counted counts
