-- The settings of the watchdog timer (IPMI 2.0). A value has five bytes: the timer use (bit 7 don't
-- log, bits 2:0 the use, 0 before the first Set), the actions (bits 6:4 the interrupt before the timeout, bits 2:0 the
-- action at it), the pre-timeout interval, and the countdown's first number, low byte first.
use Rattle.std.specs.Prelude.{◌≡◌, ℕ, ◌<◌, ◌≤◌, ◌/◌, ◌%◌, List, ◌∷◌, length, slice_index}
use Rattle.std.specs.Int.{w16, to_le_bytes}

-- the value of these settings
abbrev pub watchdog_value : ℕ → ℕ → ℕ → ℕ → List ℕ
watchdog_value timer_use actions pre_timeout initial = timer_use ∷ actions ∷ pre_timeout ∷ to_le_bytes w16 initial

-- a value that the settings can have: a use of at most 5, an interrupt and an action of at most 3, and no other bits
pub record IsWatchdog (value : List ℕ) : Type 0 where
  pub five : length value ≡ 5
  pub known_use : slice_index value 0 % 128 ≤ 5
  pub known_interrupt : slice_index value 1 / 16 ≤ 3
  pub known_action : slice_index value 1 % 16 ≤ 3
  pub low_byte : slice_index value 3 < 256
  pub high_byte : slice_index value 4 < 256
