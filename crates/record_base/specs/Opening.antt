-- The state beside the configuration in which a board begins.
use Rattle.std.specs.Prelude.{false}
use Rattle.record_base.specs.declared.live.Live.{Live}

-- no chassis bit, a stopped watchdog without flags and at 0, and no user enabled
abbrev pub opening : Live
opening = record { chassis = 0; countdown = 0; expired = 0; running = false; enabled_users = 0 }
