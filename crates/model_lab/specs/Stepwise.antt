-- What a run is, step by step: the facts that proofs need of a definition that doesn't unfold by itself.
use Rattle.std.specs.Prelude.{◌≡◌, List, [], ◌∷◌, ◌++◌}
use Rattle.cfg_records.specs.declared.board_file.BoardFile.{BoardFile}
use Rattle.model_lab.specs.ManagerSteps.{Plans}
use Rattle.model_lab.specs.Lab.{Event, Lab, step, run}

-- a run goes event by event, and the run of two schedules is that of the second after that of the first
pub record RunsBy (plans : Plans) (setup : BoardFile) : Type 0 where
  pub none : (lab : Lab plans) → run plans setup [] lab ≡ lab
  pub one : (event : Event) (events : List Event) (lab : Lab plans)
      → run plans setup (event ∷ events) lab ≡ run plans setup events (step plans setup lab event)
  pub more : (events more : List Event) (lab : Lab plans)
      → run plans setup (events ++ more) lab ≡ run plans setup more (run plans setup events lab)
