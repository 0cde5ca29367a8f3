-- A line that isn't written tells nothing.
use Rattle.std.specs.Prelude.{Option}
use Rattle.std.proofs.Common.{◌≡◌, ◌∙◌, ℕ, List, false, ap}
use Rattle.app_run.specs.declared.progress.Progress.{Progress}
use Rattle.app_run.specs.Progress.{EndsLine}
use Rattle.app_run.proofs.Ways.{untold_end}

module _ {P : Type 0} (out : P → Option (List ℕ)) where
  -- where nothing is told, and the line is ended
  pub untold_both : (old mid new : Progress P) → old.on ≡ false → (old.on ≡ false → mid ≡ old) → EndsLine out mid new → new ≡ old
  untold_both old mid new off first ends = untold_end out mid new (ap (λ (p : Progress P). p.on) (first off) ∙ off) ends ∙ first off
