-- What a play gave, by its parts.
use Rattle.std.specs.Prelude.{Option, Some, None, Result, Ok, Err}
use Rattle.lab_play.specs.declared.played.Played.{Played}
use Rattle.lab_play.specs.declared.played.LabFault.{LabFault}
use Rattle.lab_play.specs.declared.played.LabFault.TheVariants as fault
use Rattle.lab_play.specs.declared.run.Stopped.{Stopped}

-- a play of all events, or of those before the one that the lab didn't take
abbrev pub given_of : Played → Option Stopped → Result Played LabFault
given_of played None = Ok played
given_of played (Some stopped) = Err (fault.Event stopped.fault stopped.place played)
