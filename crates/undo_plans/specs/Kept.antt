-- How a plan keeps an operation: the value of an attribute lies among the plan's values, and the rest by itself.
use Rattle.std.specs.Prelude.{◌≡◌, ℕ, ◌+◌, ◌≤◌, List, [], ◌++◌, length, take, drop}
use Rattle.record_base.specs.declared.op.Op.{Op}
use Rattle.record_base.specs.declared.op.Op.TheVariants as op
use Rattle.record_base.specs.BiosAttribute.{setting}
use Rattle.undo_plans.specs.declared.owned_op.OwnedOp.{OwnedOp}
use Rattle.undo_plans.specs.declared.owned_op.OwnedOp.TheVariants as kept

-- the value that the operation gives to an attribute; one of another kind has none
abbrev pub value_of : Op → List ℕ
value_of (op.BiosAttribute set) = set.value
value_of _ = []

-- the value of an attribute lies among these
abbrev pub IsAmong : List ℕ → OwnedOp → Type 0
IsAmong values (kept.BiosAttribute set) = set.from + set.count ≤ length values
IsAmong values _ = Unit {0}

-- the operation that is kept so
abbrev pub kept_op : List ℕ → OwnedOp → Op
kept_op values (kept.Thresholds set) = op.Thresholds set
kept_op values (kept.Hysteresis set) = op.Hysteresis set
kept_op values (kept.EventEnable set) = op.EventEnable set
kept_op values (kept.PowerPolicy set) = op.PowerPolicy set
kept_op values (kept.Watchdog set) = op.Watchdog set
kept_op values (kept.GlobalEnables set) = op.GlobalEnables set
kept_op values (kept.BootParam set) = op.BootParam set
kept_op values (kept.NumericEffecter set) = op.NumericEffecter set
kept_op values (kept.StateEffecter set) = op.StateEffecter set
kept_op values (kept.UserName set) = op.UserName set
kept_op values (kept.UserAccess set) = op.UserAccess set
kept_op values (kept.ChannelAccess set) = op.ChannelAccess set
kept_op values (kept.BiosAttribute set) = op.BiosAttribute (setting set.attribute set.attribute_type (take set.count (drop set.from values)))
kept_op values (kept.LanParam set) = op.LanParam set

-- The operation is kept so, where its value lies from this place on: its value is among any values that it lies behind so, and with them
-- the operation is given again.
abbrev pub KeepsOp : ℕ → Op → OwnedOp → Type 0
KeepsOp from any kept = (values : List ℕ) → length values ≡ from → IsAmong (values ++ value_of any) kept × (kept_op (values ++ value_of any) kept ≡ any)
