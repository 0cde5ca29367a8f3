-- What a step that sets the watchdog timer holds.
pub mod Laws
pub mod Kind
use Rattle.std.specs.Prelude.{◌≡◌, ◌<◌, ◌/◌, ◌%◌}
use Rattle.toml.specs.Data.{Members}
use Rattle.record_base.specs.Masks.{has}
use Rattle.record_base.specs.declared.op.Op.{Op}
use Rattle.record_base.specs.declared.op.Op.TheVariants as op
use Rattle.record_base.specs.declared.watchdog.SetWatchdog.{SetWatchdog}
use Rattle.text_fields.specs.declared.field.Field.TheVariants as field
use Rattle.text_fields.specs.Trees.{HasNumber, HasFlag}

-- the step holds a change of the watchdog timer: of the byte of its use bit 6 (don't stop) is 0, and so are the flags to clear
pub record HoldsWatchdog (tree : Members) (set : SetWatchdog) : Type 0 where
  pub timer_use : HasNumber field.Use tree (set.timer_use % 128)
  pub no_log : HasFlag field.NoLog tree (has set.timer_use 7)
  pub byte : set.timer_use < 256
  pub action : HasNumber field.Action tree (set.actions % 16)
  pub interrupt : HasNumber field.Interrupt tree (set.actions / 16)
  pub pre_timeout : HasNumber field.Pre tree set.pre_timeout
  pub flags_to_clear : set.flags_to_clear ≡ 0
  pub initial : HasNumber field.Initial tree set.initial

-- the operation is of this kind, and the step holds it
abbrev pub HoldsOp : Members → Op → Type 0
HoldsOp tree (op.Watchdog set) = HoldsWatchdog tree set
HoldsOp tree other = ⊥
