-- A play that is told in lines, and drawn.
use Rattle.std.specs.Prelude.{◌≡◌, ℕ, Bool, List}
use Rattle.app_play.specs.declared.inputs.Inputs.{Inputs}
use Rattle.app_base.specs.declared.status.Status.{Status}
use Rattle.app_play.specs.Drawn.{DrawsChart}
use Rattle.app_play.specs.Run.{RecountsPlay}

-- the lines of a play and its chart end alike: with the line of the same event, or with none, and with one status
abbrev pub EndAlike : Inputs → Type 0
EndAlike inputs =
    (frames premises : Bool) (text chart : List ℕ) (status other : Status) (told : RecountsPlay frames premises inputs text status) (drawn : DrawsChart inputs chart other)
    → (drawn.stopped ≡ told.account.stopped) × (other ≡ status)
