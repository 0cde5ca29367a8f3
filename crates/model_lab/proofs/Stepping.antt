-- A run, step by step.
use Rattle.std.proofs.Common.{◌≡◌, List, [], ◌∷◌, ◌++◌, refl, sym, ◌∙◌, ap}
use Rattle.cfg_records.specs.declared.board_file.BoardFile.{BoardFile}
use Rattle.model_lab.specs.ManagerSteps.{Plans}
use Rattle.model_lab.specs.Lab.{Event, Lab, step, run}
use Rattle.model_lab.specs.Stepwise.{RunsBy}

module _ (P : Plans) (setup : BoardFile) where
  none : (x : Lab P) → run P setup [] x ≡ x
  unfolding run
  none x = refl

  one : (e : Event) (es : List Event) (x : Lab P) → run P setup (e ∷ es) x ≡ run P setup es (step P setup x e)
  unfolding run
  one e es x = refl

  more : (es later : List Event) (x : Lab P) → run P setup (es ++ later) x ≡ run P setup later (run P setup es x)
  more [] later x = ap (run P setup later) (sym (none x))
  more (e ∷ es) later x = one e (es ++ later) x ∙ more es later (step P setup x e) ∙ ap (run P setup later) (sym (one e es x))

  pub runs_by : RunsBy P setup
  runs_by = record { none = none; one = one; more = more }
