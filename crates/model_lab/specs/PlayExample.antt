-- A play that computes.
use Rattle.std.specs.Prelude.{◌≡◌, List, [], ◌∷◌, ◌++◌, length}
use Rattle.std.specs.Prelude.{ℕ, ◌+◌}
use Rattle.record_base.specs.declared.key.Key.TheVariants as key
use Rattle.model_undo.specs.declared.phase.Phase.TheVariants.{Undone}
use Rattle.model_lab.specs.Example.{board_file, two_steps}
use Rattle.model_undo.specs.declared.call.Call.TheVariants.{Start, Undo}
use Rattle.text_lines.specs.declared.event.Event.{Event}
use Rattle.text_lines.specs.declared.event.Event.TheVariants.{Calls, ToBmc, ToMgr}
use Rattle.model_lab.specs.Played.{Told, Whole, IsPlayed}

-- a request's frame of this number comes to the port, and its reply to the manager
abbrev pub both_ways : ℕ → List Event
both_ways number = ToBmc number ∷ ToMgr (number + 1) ∷ []

-- two steps on thresholds and their undo, each frame once and in order
abbrev pub two_and_back : List Event
two_and_back =
    Calls Start ∷ both_ways 0 ++ both_ways 2 ++ both_ways 4 ++ both_ways 6 ++ Calls Undo ∷ both_ways 8 ++ both_ways 10

-- they are undone, in twelve frames, and the record is what it was
pub record PlaysTwoSteps : Type 0 where
  pub told : Told
  pub played : IsPlayed board_file two_steps 3 two_and_back (Whole told)
  pub undone : told.phase ≡ Undone
  pub frames : length told.frames ≡ 12
  pub same : told.records (key.Thresholds 5) ≡ told.start (key.Thresholds 5)
