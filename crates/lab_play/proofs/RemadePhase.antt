-- The phase of a manager that is made again.
use Rattle.std.proofs.Common.{◌≡◌, true, false, refl, ap}
use Rattle.model_undo.specs.Words.{Words}
use Rattle.model_undo.specs.Machine.{Gets, Sets, Undoes, Stage, AtStart, Opened, AtEnd, AtHalt, AtUndone, AtRefused, Machine, phase_at}
use Rattle.model_undo.specs.Restart as restart
use Rattle.model_lab.specs.Played.{plans}
use Rattle.lab_play.specs.Restarts.{remade_phase, RestartsUnsettle}

unsettled : (words : Words) (m : Machine words) (stage : Stage words) → m.stage ≡ stage
    → phase_at words (restart.restarts words stage m).stage ≡ remade_phase (phase_at words stage)
unsettled words m (Opened true (Gets step op) part) is = refl
unsettled words m (Opened true (Sets step op back) part) is = refl
unsettled words m (Opened true (Undoes first rest) part) is = refl
unsettled words m (Opened false task part) is = refl
unsettled words m AtStart is = ap (phase_at words) is
unsettled words m AtEnd is = ap (phase_at words) is
unsettled words m (AtHalt step why) is = ap (phase_at words) is
unsettled words m AtUndone is = ap (phase_at words) is
unsettled words m (AtRefused step code) is = ap (phase_at words) is

pub restarts_unsettle : RestartsUnsettle
restarts_unsettle file lab = unsettled plans.words lab.manager.machine lab.manager.machine.stage refl
