-- The requests of a machine are those that a manager makes.
use Rattle.std.specs.Prelude.{List, [], ◌∷◌}
use Rattle.two_wire.specs.declared.Bus.{Bus}
use Rattle.record_kinds.specs.Series.{Series}
use Rattle.model_undo.specs.Words.{Words}
use Rattle.model_undo.specs.Wires.{IsSeries, IsMade}
use Rattle.model_bus.specs.Addresses.{Addresses}
use Rattle.model_undo.specs.Machine.{Task, Gets, Sets, Undoes, Stage, Opened, Machine}
use Rattle.model_lab.specs.ManagerWords.{manager_words}

module _ (at : Bus → Addresses) where
  abbrev pub own_words : Words
  own_words = manager_words at

  -- a manager makes each of these series
  abbrev pub AllSeries : List Series → Type 0
  AllSeries [] = Unit {0}
  AllSeries (series ∷ more) = IsSeries own_words series × AllSeries more

  -- a manager makes the series that a task goes over, now and later
  abbrev pub TaskMade : Task own_words → Type 0
  TaskMade (Gets step op) = Unit {0}
  TaskMade (Sets step op back) = Unit {0}
  TaskMade (Undoes first rest) = IsSeries own_words first × AllSeries rest

  -- a manager makes the request that is open
  abbrev pub StageMade : Stage own_words → Type 0
  StageMade (Opened heeded task part) = IsMade own_words part.asked × TaskMade task
  StageMade _ = Unit {0}

  -- a manager makes the open request and the requests that undo
  pub record MachineMade (machine : Machine own_words) : Type 0 where
    pub stage : StageMade machine.stage
    pub undo : AllSeries machine.undo
