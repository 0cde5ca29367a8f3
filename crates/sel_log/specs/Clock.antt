-- The clock of the System Event Log.
use Rattle.std.specs.Prelude.{ℕ, ◌+◌, ◌-◌, ◌^◌, nat_lt, min, if◌then◌else◌}
use Rattle.sel_log.specs.declared.clock.Clock.{Clock}

-- a clock that was set to these seconds: ten ticks make the next one
abbrev pub clock_at : ℕ → Clock
clock_at seconds = record { seconds = seconds; ticks = 0 }

-- a tick later: the tenth tick adds a second, and the last second that four bytes can show stays
abbrev pub ticked : Clock → Clock
ticked clock = if nat_lt (clock.ticks + 1) 10 then record clock { ticks = clock.ticks + 1 } else clock_at (min (clock.seconds + 1) (2 ^ 32 - 1))
