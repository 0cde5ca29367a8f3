use Rattle.std.proofs.Common.{◌≡◌, take}
use Rattle.app_change.specs.Foreseeing.{left_behind}
use Rattle.app_change.proofs.foreseeing.steps_leave.Given as goal

-- what the steps before leave
abbrev pub invariant-loop-place : goal.invariant-loop-place
invariant-loop-place l = l.left.items ≡ left_behind l.fn.key (take l.place l.fn.steps) l.fn.shown
